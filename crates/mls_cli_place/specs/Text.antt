-- How a place is printed: the offset and the path of fields, or the node or the leaf of a tree.
use Rattle.std.specs.Prelude.{ℕ, ◌==◌, Bool, if◌then◌else◌, List, [], ◌∷◌, ◌++◌, codes, length}
use Rattle.std.specs.Fmt.{decimal}
use Rattle.mls_cli_place.specs.declared.place.Place.{Place}
use Rattle.mls_cli_place.specs.declared.step.GroupField.{GroupField}
use Rattle.mls_cli_place.specs.declared.step.GroupField.TheVariants as group
use Rattle.mls_cli_place.specs.declared.step.LeafField.{LeafField}
use Rattle.mls_cli_place.specs.declared.step.LeafField.TheVariants as leaf
use Rattle.mls_cli_place.specs.declared.step.MessageField.{MessageField}
use Rattle.mls_cli_place.specs.declared.step.MessageField.TheVariants as message
use Rattle.mls_cli_place.specs.declared.step.Step.{Step}
use Rattle.mls_cli_place.specs.declared.step.Step.TheVariants.{Group, Item, Leaf, Message}
use Rattle.mls_cli_place.specs.declared.tree_place.TreePlace.{TreePlace}
use Rattle.mls_cli_place.specs.declared.tree_place.TreePlace.TheVariants as tree

-- ---- the names of fields

-- (RFC 9420, 6, 7.6 and 12.4)
unfoldable pub message_name : MessageField → List ℕ
message_name message.ApplicationData = codes "application_data"
message_name message.Auth = codes "auth"
message_name message.AuthenticatedData = codes "authenticated_data"
message_name message.Ciphertext = codes "ciphertext"
message_name message.Commit = codes "commit"
message_name message.ConfirmationTag = codes "confirmation_tag"
message_name message.Content = codes "content"
message_name message.ContentType = codes "content_type"
message_name message.EncryptedPathSecret = codes "encrypted_path_secret"
message_name message.Epoch = codes "epoch"
message_name message.GroupId = codes "group_id"
message_name message.GroupInfo = codes "group_info"
message_name message.KemOutput = codes "kem_output"
message_name message.LeafIndex = codes "leaf_index"
message_name message.MembershipTag = codes "membership_tag"
message_name message.MlsMessage = codes "MLSMessage"
message_name message.Nodes = codes "nodes"
message_name message.Path = codes "path"
message_name message.Proposal = codes "proposal"
message_name message.PublicMessage = codes "public_message"
message_name message.Reference = codes "reference"
message_name message.Sender = codes "sender"
message_name message.SenderType = codes "sender_type"
message_name message.Type = codes "type"
message_name message.Welcome = codes "welcome"
message_name message.WireFormat = codes "wire_format"

-- (RFC 9420, 5.3, 7.2, 10 and 12.1)
unfoldable pub leaf_name : LeafField → List ℕ
leaf_name leaf.Capabilities = codes "capabilities"
leaf_name leaf.CipherSuite = codes "cipher_suite"
leaf_name leaf.CipherSuites = codes "cipher_suites"
leaf_name leaf.Credential = codes "credential"
leaf_name leaf.CredentialType = codes "credential_type"
leaf_name leaf.Credentials = codes "credentials"
leaf_name leaf.EncryptionKey = codes "encryption_key"
leaf_name leaf.Extensions = codes "extensions"
leaf_name leaf.Identity = codes "identity"
leaf_name leaf.InitKey = codes "init_key"
leaf_name leaf.KeyPackage = codes "key_package"
leaf_name leaf.LeafNode = codes "leaf_node"
leaf_name leaf.LeafNodeSource = codes "leaf_node_source"
leaf_name leaf.Lifetime = codes "lifetime"
leaf_name leaf.NotAfter = codes "not_after"
leaf_name leaf.NotBefore = codes "not_before"
leaf_name leaf.ParentHash = codes "parent_hash"
leaf_name leaf.ProposalType = codes "proposal_type"
leaf_name leaf.Proposals = codes "proposals"
leaf_name leaf.Removed = codes "removed"
leaf_name leaf.Signature = codes "signature"
leaf_name leaf.SignatureKey = codes "signature_key"
leaf_name leaf.Version = codes "version"
leaf_name leaf.Versions = codes "versions"

-- (RFC 9420, 7.1, 8.1 and 12.4.3)
unfoldable pub group_name : GroupField → List ℕ
group_name group.ConfirmedTranscriptHash = codes "confirmed_transcript_hash"
group_name group.EncryptedGroupInfo = codes "encrypted_group_info"
group_name group.EncryptedGroupSecrets = codes "encrypted_group_secrets"
group_name group.ExtensionData = codes "extension_data"
group_name group.ExtensionType = codes "extension_type"
group_name group.GroupContext = codes "group_context"
group_name group.NewMember = codes "new_member"
group_name group.NodeType = codes "node_type"
group_name group.ParentNode = codes "parent_node"
group_name group.RatchetTree = codes "ratchet_tree"
group_name group.Secrets = codes "secrets"
group_name group.Signer = codes "signer"
group_name group.TreeHash = codes "tree_hash"
group_name group.UnmergedLeaves = codes "unmerged_leaves"

-- ---- paths

-- a dot stands before the name of a field that is in another
abbrev pub dotted : Bool → List ℕ → List ℕ
dotted outermost name = if outermost then name else codes "." ++ name

-- a step: a field by its name, an item by its number
abbrev pub step_text : Bool → Step → List ℕ
step_text outermost (Message f) = dotted outermost (message_name f)
step_text outermost (Leaf f) = dotted outermost (leaf_name f)
step_text outermost (Group f) = dotted outermost (group_name f)
step_text outermost (Item i) = codes "[" ++ decimal i ++ codes "]"

-- a path, of which the innermost step comes first: it is printed from the outermost on
abbrev pub path_text : List Step → List ℕ
path_text [] = []
path_text (step ∷ outer) = path_text outer ++ step_text (length outer == 0) step

-- a place: a line of the offset, and one of the path
abbrev pub place_text : Place → List ℕ
place_text p =
    codes "offset: " ++ decimal p.offset ++ codes "\nfield: " ++ path_text p.path ++ codes "\n"

-- a place in a tree: a line of its node or of its leaf
abbrev pub tree_place_text : TreePlace → List ℕ
tree_place_text (tree.Node x) = codes "node: " ++ decimal x ++ codes "\n"
tree_place_text (tree.Leaf i) = codes "leaf: " ++ decimal i ++ codes "\n"

-- The fields of messages, in their order.
use Rattle.std.specs.Prelude.{ℕ, Option}
use Rattle.std.specs.Int.{w8, w16}
use Rattle.mls_wire.specs.Reading.{mark_at, uint_at}
use Rattle.mls_wire.specs.Combine.{uint16, uint32, uint64}
use Rattle.mls_cli_place.specs.declared.place.Found.{Found}
use Rattle.mls_cli_place.specs.declared.step.GroupField.TheVariants as group
use Rattle.mls_cli_place.specs.declared.step.LeafField.TheVariants as leaf
use Rattle.mls_cli_place.specs.declared.step.MessageField.TheVariants as message
use Rattle.mls_cli_place.specs.declared.step.Step.TheVariants.{Group, Leaf, Message}
use Rattle.mls_cli_place.specs.Group.{group_info_walk}
use Rattle.mls_cli_place.specs.Leaf.{key_package_walk, leaf_node_walk, proposal_walk}
use Rattle.mls_cli_place.specs.Tree.{optional_of}
use Rattle.mls_cli_place.specs.Walk.{◌▷◌, Walk, by_tag, case_of, enclosed_by, field, no_case, single, string_field, vector_of}

-- ---- commits

-- HPKECiphertext (RFC 9420, 7.6)
unfoldable pub hpke_ciphertext_walk : Walk
hpke_ciphertext_walk =
    string_field (Message message.KemOutput) ▷ string_field (Message message.Ciphertext)

-- UpdatePathNode (RFC 9420, 7.6)
unfoldable pub update_path_node_walk : Walk
update_path_node_walk =
    string_field (Leaf leaf.EncryptionKey)
    ▷ field (Message message.EncryptedPathSecret) (vector_of hpke_ciphertext_walk)

-- UpdatePath (RFC 9420, 7.6)
unfoldable pub update_path_walk : Walk
update_path_walk =
    field (Leaf leaf.LeafNode) leaf_node_walk
    ▷ field (Message message.Nodes) (vector_of update_path_node_walk)

-- ProposalOrRef (RFC 9420, 12.4): type 1 proposal, 2 reference, else `BadTag` (7)
abbrev pub proposals_or_refs : ℕ → Option Walk
proposals_or_refs t =
    case_of 1 (field (Message message.Proposal) proposal_walk)
    (case_of 2 (string_field (Message message.Reference)) no_case) t

unfoldable pub proposal_or_ref_walk : Walk
proposal_or_ref_walk bytes =
    by_tag (enclosed_by (Message message.Type)) 7 proposals_or_refs bytes (uint_at w8 bytes)

-- Commit (RFC 9420, 12.4)
unfoldable pub commit_walk : Walk
commit_walk =
    field (Leaf leaf.Proposals) (vector_of proposal_or_ref_walk)
    ▷ field (Message message.Path) (optional_of update_path_walk)

-- ---- public messages

-- Sender (RFC 9420, 6): sender_type 1 member, else `BadTag` (7)
abbrev pub senders : ℕ → Option Walk
senders t = case_of 1 (single (Message message.LeafIndex) uint32.pass) no_case t

unfoldable pub sender_walk : Walk
sender_walk bytes =
    by_tag (enclosed_by (Message message.SenderType)) 7 senders bytes (uint_at w8 bytes)

-- a field of the FramedContent, and one of the FramedContentAuthData (RFC 9420, 6 and 6.1)
abbrev pub in_content : Walk → Walk
in_content walk = field (Message message.Content) walk

abbrev pub signature_walk : Walk
signature_walk = field (Message message.Auth) (string_field (Leaf leaf.Signature))

abbrev pub tag_walk : Walk
tag_walk = field (Message message.Auth) (string_field (Message message.ConfirmationTag))

-- content_type: 1 application, 2 proposal, 3 commit, else `BadTag` (7), with the content and what vouches for it
-- (RFC 9420, 6 and 6.1)
abbrev pub contents : ℕ → Option Walk
contents t =
    case_of 1 (in_content (string_field (Message message.ApplicationData)) ▷ signature_walk)
    (case_of 2 (in_content (field (Message message.Proposal) proposal_walk) ▷ signature_walk)
    (case_of 3 (in_content (field (Message message.Commit) commit_walk) ▷ signature_walk ▷ tag_walk)
    no_case)) t

abbrev pub in_content_type : Found → Found
in_content_type f =
    enclosed_by (Message message.Content) (enclosed_by (Message message.ContentType) f)

unfoldable pub signed_tail_walk : Walk
signed_tail_walk bytes = by_tag in_content_type 7 contents bytes (uint_at w8 bytes)

-- FramedContent, FramedContentAuthData (RFC 9420, 6 and 6.1)
unfoldable pub signed_content_walk : Walk
signed_content_walk =
    in_content (string_field (Message message.GroupId))
    ▷ in_content (single (Message message.Epoch) uint64.pass)
    ▷ in_content (field (Message message.Sender) sender_walk)
    ▷ in_content (string_field (Message message.AuthenticatedData))
    ▷ signed_tail_walk

-- PublicMessage (RFC 9420, 6.2)
unfoldable pub public_message_walk : Walk
public_message_walk = signed_content_walk ▷ string_field (Message message.MembershipTag)

-- ---- Welcomes

-- EncryptedGroupSecrets (RFC 9420, 12.4.3.1)
unfoldable pub encrypted_group_secrets_walk : Walk
encrypted_group_secrets_walk =
    string_field (Group group.NewMember)
    ▷ field (Group group.EncryptedGroupSecrets) hpke_ciphertext_walk

-- Welcome (RFC 9420, 12.4.3.1)
unfoldable pub welcome_walk : Walk
welcome_walk =
    single (Leaf leaf.CipherSuite) uint16.pass
    ▷ field (Group group.Secrets) (vector_of encrypted_group_secrets_walk)
    ▷ string_field (Group group.EncryptedGroupInfo)

-- ---- MLSMessage

-- wire_format: 1 mls_public_message, 3 mls_welcome, 4 mls_group_info, 5 mls_key_package, else `BadTag` (7) (RFC 9420, 6
-- and 17.2)
abbrev pub wire_formats : ℕ → Option Walk
wire_formats t =
    case_of 1 (field (Message message.PublicMessage) public_message_walk)
    (case_of 3 (field (Message message.Welcome) welcome_walk)
    (case_of 4 (field (Message message.GroupInfo) group_info_walk)
    (case_of 5 (field (Leaf leaf.KeyPackage) key_package_walk) no_case))) t

unfoldable pub body_walk : Walk
body_walk bytes =
    by_tag (enclosed_by (Message message.WireFormat)) 7 wire_formats bytes (uint_at w16 bytes)

-- (RFC 9420, 6) version is 1, else `BadTag` (7)
unfoldable pub mls_message_walk : Walk
mls_message_walk = single (Leaf leaf.Version) (mark_at w16 1 7) ▷ body_walk

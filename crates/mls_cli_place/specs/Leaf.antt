-- The fields of leaves, key packages and proposals, in their order.
use Rattle.std.specs.Prelude.{ℕ, Option}
use Rattle.std.specs.Int.{w8, w16}
use Rattle.mls_wire.specs.Reading.{empty_at, mark_at, uint_at}
use Rattle.mls_wire.specs.Combine.{uint16, uint32, uint64}
use Rattle.mls_leaf.specs.GroupExtensions.{group_extensions}
use Rattle.mls_leaf.specs.Leaf.{uint16s}
use Rattle.mls_cli_place.specs.declared.step.LeafField.TheVariants as leaf
use Rattle.mls_cli_place.specs.declared.step.Step.TheVariants.{Leaf}
use Rattle.mls_cli_place.specs.Walk.{◌▷◌, Walk, by_tag, case_of, enclosed_by, field, no_case, no_field, single, string_field}

-- (RFC 9420, 5.3) credential_type is 1, else `UnsupportedCredential` (11)
unfoldable pub credential_walk : Walk
credential_walk =
    single (Leaf leaf.CredentialType) (mark_at w16 1 11) ▷ string_field (Leaf leaf.Identity)

-- (RFC 9420, 7.2)
unfoldable pub capabilities_walk : Walk
capabilities_walk =
    single (Leaf leaf.Versions) uint16s.pass ▷ single (Leaf leaf.CipherSuites) uint16s.pass
    ▷ single (Leaf leaf.Extensions) uint16s.pass ▷ single (Leaf leaf.Proposals) uint16s.pass
    ▷ single (Leaf leaf.Credentials) uint16s.pass

-- (RFC 9420, 7.2) lifetime of a key package, in seconds
abbrev pub lifetime_walk : Walk
lifetime_walk = single (Leaf leaf.NotBefore) uint64.pass ▷ single (Leaf leaf.NotAfter) uint64.pass

-- (RFC 9420, 7.2) leaf_node_source: 1 key_package, 2 update, 3 commit, else `BadTag` (7)
abbrev pub sources : ℕ → Option Walk
sources t =
    case_of 1 (field (Leaf leaf.Lifetime) lifetime_walk)
    (case_of 2 no_field
    (case_of 3 (string_field (Leaf leaf.ParentHash)) no_case)) t

unfoldable pub leaf_source_walk : Walk
leaf_source_walk bytes =
    by_tag (enclosed_by (Leaf leaf.LeafNodeSource)) 7 sources bytes (uint_at w8 bytes)

-- (RFC 9420, 7.2) the list of extensions is empty, else `ExtensionNotAllowed` (14)
unfoldable pub leaf_node_walk : Walk
leaf_node_walk =
    string_field (Leaf leaf.EncryptionKey) ▷ string_field (Leaf leaf.SignatureKey)
    ▷ field (Leaf leaf.Credential) credential_walk
    ▷ field (Leaf leaf.Capabilities) capabilities_walk
    ▷ leaf_source_walk
    ▷ single (Leaf leaf.Extensions) (empty_at 14) ▷ string_field (Leaf leaf.Signature)

-- (RFC 9420, 10) version is 1, else `BadTag` (7); the list of extensions is empty, else `ExtensionNotAllowed` (14)
unfoldable pub key_package_walk : Walk
key_package_walk =
    single (Leaf leaf.Version) (mark_at w16 1 7) ▷ single (Leaf leaf.CipherSuite) uint16.pass
    ▷ string_field (Leaf leaf.InitKey) ▷ field (Leaf leaf.LeafNode) leaf_node_walk
    ▷ single (Leaf leaf.Extensions) (empty_at 14) ▷ string_field (Leaf leaf.Signature)

-- (RFC 9420, 12.1) proposal_type: 1 add, 2 update, 3 remove, 7 group_context_extensions, else
-- `UnsupportedProposal` (12)
abbrev pub proposals : ℕ → Option Walk
proposals t =
    case_of 1 (field (Leaf leaf.KeyPackage) key_package_walk)
    (case_of 2 (field (Leaf leaf.LeafNode) leaf_node_walk)
    (case_of 3 (single (Leaf leaf.Removed) uint32.pass)
    (case_of 7 (single (Leaf leaf.Extensions) group_extensions.pass) no_case))) t

unfoldable pub proposal_walk : Walk
proposal_walk bytes =
    by_tag (enclosed_by (Leaf leaf.ProposalType)) 12 proposals bytes (uint_at w16 bytes)

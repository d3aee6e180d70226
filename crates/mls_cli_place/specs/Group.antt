-- The fields of group contexts and group infos, in their order.
use Rattle.std.specs.Prelude.{ℕ, ◌==◌, if◌then◌else◌, List, length, Result, Ok, Err}
use Rattle.std.specs.Int.{w16}
use Rattle.mls_wire.specs.Reading.{mark_at, uint_at}
use Rattle.mls_wire.specs.Combine.{uint16, uint32, uint64}
use Rattle.mls_leaf.specs.GroupExtensions.{group_extensions}
use Rattle.mls_cli_place.specs.declared.place.Found.{Found}
use Rattle.mls_cli_place.specs.declared.step.GroupField.TheVariants as group
use Rattle.mls_cli_place.specs.declared.step.LeafField.TheVariants as leaf
use Rattle.mls_cli_place.specs.declared.step.MessageField.TheVariants as message
use Rattle.mls_cli_place.specs.declared.step.Step.TheVariants.{Group, Item, Leaf, Message}
use Rattle.mls_cli_place.specs.Tree.{ratchet_tree_walk}
use Rattle.mls_cli_place.specs.Walk.{◌▷◌, Walk, at_front, enclosed, field, followed, inside, located, single, string_field}

-- GroupContext (RFC 9420, 8.1): version is 1, else `BadTag` (7); extensions of types for private use, each at most
-- once, else `ExtensionNotAllowed` (14)
unfoldable pub group_context_walk : Walk
group_context_walk =
    single (Leaf leaf.Version) (mark_at w16 1 7) ▷ single (Leaf leaf.CipherSuite) uint16.pass
    ▷ string_field (Message message.GroupId) ▷ single (Message message.Epoch) uint64.pass
    ▷ string_field (Group group.TreeHash) ▷ string_field (Group group.ConfirmedTranscriptHash)
    ▷ single (Leaf leaf.Extensions) group_extensions.pass

-- ---- the extensions of a GroupInfo (RFC 9420, 12.4.3): none, or the ratchet tree's alone

-- bytes behind a whole are `Trailing` (3), where they begin
abbrev pub ended : List ℕ → Result (Unit {0}) Found
ended bytes = if length bytes == 0 then Ok tt else Err (at_front bytes 3)

-- the data of the extension are one ratchet tree (RFC 9420, 12.4.3.3)
abbrev pub tree_data : List ℕ → Result (Unit {0}) Found
tree_data bytes = followed (inside (Group group.RatchetTree) (ratchet_tree_walk bytes)) ended

-- extension_type is 2, ratchet_tree, else `ExtensionNotAllowed` (14) (RFC 9420, 17.3)
unfoldable pub tree_extension_walk : Walk
tree_extension_walk =
    single (Group group.ExtensionType) (mark_at w16 2 14)
    ▷ field (Group group.ExtensionData) (enclosed tree_data)

-- the type of a second extension is read, and is `ExtensionNotAllowed` (14)
abbrev pub second_extension : List ℕ → Result (Unit {0}) Found
second_extension bytes =
    inside (Item 1) (inside (Group group.ExtensionType)
    (followed (located bytes (uint_at w16 bytes)) (λ x. Err (at_front bytes 14))))

abbrev pub no_second : List ℕ → Result (Unit {0}) Found
no_second bytes = if length bytes == 0 then Ok tt else second_extension bytes

abbrev pub tree_extensions : List ℕ → Result (Unit {0}) Found
tree_extensions bytes =
    if length bytes == 0 then Ok tt
    else followed (inside (Item 0) (tree_extension_walk bytes)) no_second

unfoldable pub group_info_extensions_walk : Walk
group_info_extensions_walk = enclosed tree_extensions

-- GroupInfo (RFC 9420, 12.4.3)
unfoldable pub group_info_walk : Walk
group_info_walk =
    field (Group group.GroupContext) group_context_walk
    ▷ field (Leaf leaf.Extensions) group_info_extensions_walk
    ▷ string_field (Message message.ConfirmationTag) ▷ single (Group group.Signer) uint32.pass
    ▷ string_field (Leaf leaf.Signature)

-- The tree in the extensions of a GroupInfo, as it is read.
use Rattle.std.proofs.Common.{◌≡◌, ℕ, ◌==◌, false, List, [], length, Option, Some, Ok, refl}
use Rattle.std.specs.Int.{w16}
use Rattle.std.proofs.lemmas.Bool.{ne_eqb}
use Rattle.std.proofs.lemmas.List.{nil_from_length}
use Rattle.mls_wire.specs.Reading.{mark_at, opaque_at}
use Rattle.mls_leaf.specs.declared.node.Node.{Node}
use Rattle.mls_types.specs.GroupInfo.{group_info_extensions, ratchet_tree}

some_bytes : (bytes : List ℕ) → (bytes ≡ [] → ⊥) → (length bytes == 0) ≡ false
some_bytes bytes some = ne_eqb (length bytes) 0 (λ e. some (nil_from_length bytes e))

-- one extension, which is the tree's, and no byte behind the tree or behind the extension
pub tree_read : (old content new front inner behind rest : List ℕ) (cells : List (Option Node))
    → opaque_at old ≡ Ok (content, new) → (content ≡ [] → ⊥) → mark_at w16 2 14 content ≡ Ok front → opaque_at front ≡ Ok (inner, behind)
    → ratchet_tree.read inner ≡ Ok (cells, rest) → rest ≡ [] → behind ≡ [] → group_info_extensions.read old ≡ Ok (Some cells, new)
unfolding group_info_extensions
tree_read old content new front inner behind rest cells opened some marked inside read all alone =
    rw (opened, some_bytes content some, marked, inside, read, all, alone) refl

-- Which types for private use were had, as a bitmap: the mark at k is of the type 61440 + k.
use Rattle.std.specs.Prelude.{◌≡◌, ℕ, ◌-◌, Bool, true, false, not, ◌&&◌, List, length, set, slice_index_or}
use Rattle.mls_wire.specs.Format.{Format}
use Rattle.mls_wire.specs.Combine.{with_test, uint16}
use Rattle.mls_leaf.specs.GroupExtensions.{is_private}

-- how many types are for private use
abbrev pub private_types : ℕ
private_types = 4096

-- Whether a type is for private use, and has no mark.
abbrev pub is_unmarked : List Bool → ℕ → Bool
is_unmarked marks kind = is_private kind && not (slice_index_or marks (kind - 61440) false)

-- The bitmap with a mark of a type for private use.
abbrev pub with_mark : List Bool → ℕ → List Bool
with_mark marks kind = set marks (kind - 61440) true

-- No type has a mark.
abbrev pub AreClear : List Bool → Type 0
AreClear marks = (length marks ≡ private_types) × ((k : ℕ) → slice_index_or marks k false ≡ false)

-- the type of an extension, which passes a test, else `ExtensionNotAllowed` (14)
abbrev pub type_where : (ℕ → Bool) → Format ℕ
type_where allowed = with_test uint16 allowed 14

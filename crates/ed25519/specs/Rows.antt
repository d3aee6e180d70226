-- The rows of the table of multiples.
use Rattle.std.specs.Prelude.{ℕ, ◌≡◌, ◌+◌, ◌*◌, ◌/◌, ◌%◌, ◌^◌, List, slice_index}
use Rattle.curve25519.specs.Field25519.{field, residue}
use Rattle.curve25519.specs.Curve25519.{d, Point}
use Rattle.field25519.specs.declared.words.Words.{Words}
use Rattle.field25519.specs.Bytes.{joined}
use Rattle.ed25519.specs.declared.base_multiple.Row.{Row}
open field use {Of, add, mul, neg}

-- two halves of a list as one number
abbrev pub words_of : List ℕ → ℕ → Words
words_of list i =
    record {
      a = slice_index list i % 2 ^ 64;
      b = slice_index list i / 2 ^ 64;
      c = slice_index list (i + 1) % 2 ^ 64;
      d = slice_index list (i + 1) / 2 ^ 64;
    }

-- three numbers of a list
abbrev pub row_of : List ℕ → ℕ → Row
row_of list k =
    record { sum = words_of list (6 * k); difference = words_of list (6 * k + 2); product = words_of list (6 * k + 4) }

-- the number of the field that 255 bits of four words are
abbrev pub field_number : Words → Of
field_number w = residue (joined w % 2 ^ 255)

-- half the sum and half the difference of y and x, and d x y, of the point
abbrev pub IsRowOf : Row → Point → Type 0
IsRowOf r q =
    (add (field_number r.sum) (field_number r.difference) ≡ q.1)
    × (add (field_number r.sum) (neg (field_number r.difference)) ≡ q.0)
    × (field_number r.product ≡ mul d (mul q.0 q.1))

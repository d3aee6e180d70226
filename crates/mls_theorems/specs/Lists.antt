-- Look-ups in lists that grow or change at one place.
use Rattle.std.specs.Prelude.{◌≡◌, ℕ, List, Some, slice_get}

-- all that one list has at a place, the other has there too
abbrev pub Grows : {A : Type 0} → List A → List A → Type 0
Grows {A} xs ys = (i : ℕ) (x : A) → slice_get xs i ≡ Some x → slice_get ys i ≡ Some x

-- Whether bytes are a text.
use Rattle.std.proofs.Common.{◌≡◌, ℕ, Bool, true, false, List, refl}
use Rattle.std.specs.Str.{IsUtf8, is_utf8}
use Rattle.std.proofs.lemmas.Str.{IsUtf8-from_is_utf8, is_utf8-from_IsUtf8}

pub is_text : (xs : List ℕ) → IsUtf8 xs → is_utf8 xs ≡ true
is_text xs h = is_utf8-from_IsUtf8 xs h

none_of : (b : Bool) → (b ≡ true → ⊥) → b ≡ false
none_of true h = absurd (h refl)
none_of false h = refl

pub is_no_text : (xs : List ℕ) → (IsUtf8 xs → ⊥) → is_utf8 xs ≡ false
is_no_text xs h = none_of (is_utf8 xs) (λ e. h (IsUtf8-from_is_utf8 xs e))

-- Combining with a reuse guard, from the front.
use Rattle.std.proofs.Common.{◌≡◌, ℕ, zero, suc, ◌+◌, ◌<◌, List, [], ◌∷◌, length, get_or, set, take, ap, sym, refl, arith, add-one}
use Rattle.std.specs.Prelude.{bit_xor}
use Rattle.mls_private_message.specs.Keys.{xor_front}

pub xor_nothing : (xs : List ℕ) → xor_front xs [] ≡ xs
xor_nothing [] = refl
xor_nothing (x ∷ xs) = refl

one_more : (xs ys : List ℕ) (i : ℕ) → i < length xs → i < length ys
    → set (xor_front xs (take i ys)) i (bit_xor (get_or (xor_front xs (take i ys)) i 0) (get_or ys i 0)) ≡ xor_front xs (take (suc i) ys)
one_more [] ys i h k = absurd (omega arith)
one_more (x ∷ xs) [] i h k = absurd (omega arith)
one_more (x ∷ xs) (y ∷ ys) zero h k = ap (λ z. bit_xor x y ∷ z) (sym (xor_nothing xs))
one_more (x ∷ xs) (y ∷ ys) (suc i) h k = ap (λ z. bit_xor x y ∷ z) (one_more xs ys i (omega arith) (omega arith))

pub xor_more : (xs ys now : List ℕ) (i : ℕ) → i < length xs → i < length ys → now ≡ xor_front xs (take i ys)
    → set now i (bit_xor (get_or now i 0) (get_or ys i 0)) ≡ xor_front xs (take (i + 1) ys)
xor_more xs ys now i h k e = rw (e, add-one) (one_more xs ys i h k)

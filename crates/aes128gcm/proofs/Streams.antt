-- Combining with a stream from the front.
use Rattle.std.proofs.Common.{◌≡◌, ℕ, zero, suc, ◌+◌, ◌<◌, ◌≤◌, List, [], ◌∷◌, ◌++◌, length, get_or, set, take, drop, min, ap, sym, refl, arith, add-one}
use Rattle.std.specs.Prelude.{bit_xor}
use Rattle.aes128gcm.specs.Aes.{xor_with}

pub length-xor_with : (xs ys : List ℕ) → length (xor_with xs ys) ≡ length xs
length-xor_with [] ys = refl
length-xor_with (x ∷ xs) [] = refl
length-xor_with (x ∷ xs) (y ∷ ys) = ap suc (length-xor_with xs ys)

pub xor_with-nil : (xs : List ℕ) → xor_with xs [] ≡ xs
xor_with-nil [] = refl
xor_with-nil (x ∷ xs) = refl

-- one more byte
xor_with-take_suc : (xs ys : List ℕ) (i : ℕ) → i < length xs → i < length ys
    → set (xor_with xs (take i ys)) i (bit_xor (get_or (xor_with xs (take i ys)) i 0) (get_or ys i 0)) ≡ xor_with xs (take (suc i) ys)
xor_with-take_suc [] ys i h k = absurd (omega arith)
xor_with-take_suc (x ∷ xs) [] i h k = absurd (omega arith)
xor_with-take_suc (x ∷ xs) (y ∷ ys) zero h k = ap (λ z. bit_xor x y ∷ z) (sym (xor_with-nil xs))
xor_with-take_suc (x ∷ xs) (y ∷ ys) (suc i) h k = ap (λ z. bit_xor x y ∷ z) (xor_with-take_suc xs ys i (omega arith) (omega arith))

pub xor_with-take_more : (xs ys now : List ℕ) (i : ℕ) → i < length xs → i < length ys → now ≡ xor_with xs (take i ys)
    → set now i (bit_xor (get_or now i 0) (get_or ys i 0)) ≡ xor_with xs (take (i + 1) ys)
xor_with-take_more xs ys now i h k e = rw (e, add-one) (xor_with-take_suc xs ys i h k)

-- what is past the text plays no part
pub xor_with-take_all : (xs ys : List ℕ) (n : ℕ) → min (length xs) (length ys) ≤ n → xor_with xs (take n ys) ≡ xor_with xs ys
xor_with-take_all [] ys n h = refl
xor_with-take_all (x ∷ xs) [] zero h = refl
xor_with-take_all (x ∷ xs) [] (suc n) h = refl
xor_with-take_all (x ∷ xs) (y ∷ ys) zero h = absurd (omega arith)
xor_with-take_all (x ∷ xs) (y ∷ ys) (suc n) h = ap (λ z. bit_xor x y ∷ z) (xor_with-take_all xs ys n (omega arith))

pub xor_with-append : (xs a b : List ℕ) → xor_with xs (a ++ b) ≡ take (length a) (xor_with xs a) ++ xor_with (drop (length a) (xor_with xs a)) b
xor_with-append [] [] b = refl
xor_with-append [] (y ∷ a) b = refl
xor_with-append (x ∷ xs) [] b = refl
xor_with-append (x ∷ xs) (y ∷ a) b = ap (λ z. bit_xor x y ∷ z) (xor_with-append xs a b)

-- Bytes that are folded to see whether all are zero.
use Rattle.std.proofs.Common.{◌≡◌, ℕ, zero, suc, ◌+◌, ◌<◌, true, List, [], ◌∷◌, length, get_or, replicate, refl, ap, sym, ◌∙◌, arith, inl, inr, eqb-true}
use Rattle.std.specs.Prelude.{bit_or, nat_eq}
use Rattle.std.specs.Str.{bytes_eq}
use Rattle.std.proofs.lemmas.Nat.{le_or_l, le_or_r}
use Rattle.std.proofs.lemmas.Bool.{cases_lt, cases_Bool}
use Rattle.std.proofs.lemmas.Slice.Eq.{bytes_eq-Decides}

-- the first n bytes, folded
unfoldable pub fold_bytes : List ℕ → ℕ → ℕ
fold_bytes b zero = 0
fold_bytes b (suc i) = bit_or (fold_bytes b i) (get_or b i 0)

zero_below : (b : List ℕ) (n : ℕ) → fold_bytes b n ≡ 0 → (i : ℕ) → i < n → get_or b i 0 ≡ 0
unfolding fold_bytes
zero_below b zero e i h = absurd (omega arith)
zero_below b (suc n) e i h =
    let l = le_or_l (fold_bytes b n) (get_or b n 0) in
    let r = le_or_r (fold_bytes b n) (get_or b n 0) in
    elim (cases_lt i n) [
      | inl lt ↦ zero_below b n (omega arith) i lt
      | inr ge ↦ let same : i ≡ n = omega arith in rw same (let z : get_or b n 0 ≡ 0 = omega arith in z)
    ]

all_zeros : (b : List ℕ) → ((i : ℕ) → i < length b → get_or b i 0 ≡ 0) → b ≡ replicate (length b) 0
all_zeros [] f = refl
all_zeros (x ∷ b) f = ap (λ z. z ∷ b) (f 0 (omega arith)) ∙ ap (λ z. 0 ∷ z) (all_zeros b (λ i h. f (suc i) (omega arith)))

zeros_fold : fold_bytes (replicate 32 0) 32 ≡ 0
unfolding fold_bytes
zeros_fold = refl

pub zero_bytes : (b : List ℕ) (d n : ℕ) → length b ≡ 32 → n ≡ 32 → d ≡ fold_bytes b n → nat_eq d 0 ≡ bytes_eq b (replicate 32 0)
zero_bytes b d n long en e =
    let e32 : d ≡ fold_bytes b 32 = e ∙ ap (fold_bytes b) en in
    elim (cases_Bool (bytes_eq b (replicate 32 0))) [
      | inl t ↦
          let same : b ≡ replicate 32 0 = (bytes_eq-Decides b (replicate 32 0)).0 t in
          let none : d ≡ 0 = e32 ∙ ap (λ z. fold_bytes z 32) same ∙ zeros_fold in
          ap (λ z. nat_eq z 0) none ∙ sym t
      | inr f ↦ elim (cases_Bool (nat_eq d 0)) [
        | inl z ↦
            let none : fold_bytes b 32 ≡ 0 = sym e32 ∙ eqb-true d 0 z in
            let same : b ≡ replicate 32 0 = all_zeros b (λ k h. zero_below b 32 none k (omega arith)) ∙ ap (λ n. replicate n 0) long in
            let t : bytes_eq b (replicate 32 0) ≡ true = (bytes_eq-Decides b (replicate 32 0)).1 same in
            cc
        | inr z ↦ z ∙ sym f
      ]
    ]

pub fold_none : (b : List ℕ) → 0 ≡ fold_bytes b 0
unfolding fold_bytes
fold_none b = refl

pub fold_more : (b : List ℕ) (i d : ℕ) → d ≡ fold_bytes b i → bit_or d (get_or b i 0) ≡ fold_bytes b (i + 1)
unfolding fold_bytes
fold_more b i d e = let s : i + 1 ≡ suc i = omega arith in rw (s, e) refl

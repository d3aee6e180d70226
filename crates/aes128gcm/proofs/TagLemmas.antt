-- Tags that are compared by folding their differences.
use Rattle.std.proofs.Common.{◌≡◌, ℕ, zero, suc, ◌<◌, true, List, length, get_or, refl, ap, sym, ◌∙◌, arith, inl, inr, eqb-true}
use Rattle.std.specs.Prelude.{bit_or, bit_xor, nat_eq}
use Rattle.std.specs.Str.{bytes_eq}
use Rattle.std.specs.Int.Bits.{xor_assoc, xor_self, xor_zero_r, xor_zero_l}
use Rattle.std.proofs.lemmas.Nat.{le_or_l, le_or_r}
use Rattle.std.proofs.lemmas.Bool.{cases_lt, cases_Bool}
use Rattle.std.proofs.lemmas.Slice.Eq.{bytes_eq-Decides}
use Rattle.aes128gcm.proofs.LoadLemmas.{same_lists}

-- the differences of the first n bytes, folded
unfoldable pub difference : List ℕ → List ℕ → ℕ → ℕ
difference a b zero = 0
difference a b (suc i) = bit_or (difference a b i) (bit_xor (get_or a i 0) (get_or b i 0))

xor_same : (a b : ℕ) → bit_xor a b ≡ 0 → a ≡ b
xor_same a b e = sym (xor_zero_r a) ∙ ap (bit_xor a) (sym (xor_self b)) ∙ sym (xor_assoc a b b) ∙ ap (λ z. bit_xor z b) e ∙ xor_zero_l b

none_below : (a b : List ℕ) (n : ℕ) → difference a b n ≡ 0 → (i : ℕ) → i < n → get_or a i 0 ≡ get_or b i 0
unfolding difference
none_below a b zero e i h = absurd (omega arith)
none_below a b (suc n) e i h =
    let l = le_or_l (difference a b n) (bit_xor (get_or a n 0) (get_or b n 0)) in
    let r = le_or_r (difference a b n) (bit_xor (get_or a n 0) (get_or b n 0)) in
    elim (cases_lt i n) [
      | inl lt ↦ none_below a b n (omega arith) i lt
      | inr ge ↦ let same : i ≡ n = omega arith in rw same (xor_same (get_or a n 0) (get_or b n 0) (omega arith))
    ]

none_same : (a : List ℕ) (n : ℕ) → difference a a n ≡ 0
unfolding difference
none_same a zero = refl
none_same a (suc n) = rw (none_same a n, xor_self (get_or a n 0)) refl

pub same_tags : (a b : List ℕ) (d n : ℕ) → length a ≡ 16 → length b ≡ 16 → n ≡ 16 → d ≡ difference a b n → nat_eq d 0 ≡ bytes_eq a b
same_tags a b d n la lb en e =
    let e16 : d ≡ difference a b 16 = e ∙ ap (difference a b) en in
    elim (cases_Bool (bytes_eq a b)) [
      | inl t ↦
          let same : a ≡ b = (bytes_eq-Decides a b).0 t in
          let none : d ≡ 0 = e16 ∙ ap (λ z. difference a z 16) (sym same) ∙ none_same a 16 in
          rw (none, t) refl
      | inr f ↦ elim (cases_Bool (nat_eq d 0)) [
        | inl z ↦
            let none : difference a b 16 ≡ 0 = sym e16 ∙ eqb-true d 0 z in
            let same : a ≡ b = same_lists a b (la ∙ sym lb) (λ k h. none_below a b 16 none k (omega arith)) in
            let t : bytes_eq a b ≡ true = (bytes_eq-Decides a b).1 same in
            cc
        | inr z ↦ z ∙ sym f
      ]
    ]

pub difference_none : (a b : List ℕ) → 0 ≡ difference a b 0
unfolding difference
difference_none a b = refl

pub difference_more : (a b : List ℕ) (i d : ℕ) → d ≡ difference a b i → bit_or d (bit_xor (get_or a i 0) (get_or b i 0)) ≡ difference a b (suc i)
unfolding difference
difference_more a b i d e = rw e refl

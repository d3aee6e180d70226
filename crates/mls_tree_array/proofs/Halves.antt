-- A search for a leaf by halves.
use Rattle.std.proofs.Common.{◌≡◌, ℕ, zero, suc, ◌+◌, ◌-◌, ◌*◌, ◌<◌, ◌≤◌, ◌==◌, ◌||◌, true, false, List, [], ◌∷◌, length, get_or, refl, sym, ◌∙◌, ap, subst, arith, inl, inr, eq-eqb, ne_eqb}
use Rattle.std.specs.Prelude.{nat_le}
use Rattle.std.proofs.lemmas.Bool.{and_parts, leb-true, or_left, or_right, cases_lt}
use Rattle.mls_leaf.specs.Parent.{rises, rises_from}
use Rattle.mls_leaf.proofs.ParentLaws.{rises_from-cons}
use Rattle.mls_tree_model.specs.Sets.{has, leaf_numbers}

-- ---- lists that rise

above_low : (low : ℕ) (us : List ℕ) → rises_from low us ≡ true → (k : ℕ) → k < length us → low ≤ get_or us k 0
above_low low [] rise k lt = absurd (omega arith)
above_low low (u ∷ us) rise zero lt = leb-true low u (and_parts (nat_le low u) (rises_from (u + 1) us) (sym (rises_from-cons low u us) ∙ rise)).0
above_low low (u ∷ us) rise (suc k) lt =
    let both = and_parts (nat_le low u) (rises_from (u + 1) us) (sym (rises_from-cons low u us) ∙ rise) in
    let first = leb-true low u both.0 in
    let later : u + 1 ≤ get_or us k 0 = above_low (u + 1) us both.1 k (omega arith) in
    let all : low ≤ get_or us k 0 = omega arith in
    all

below_later : (low : ℕ) (us : List ℕ) → rises_from low us ≡ true → (i j : ℕ) → i < j → j < length us → get_or us i 0 < get_or us j 0
below_later low [] rise i j less lt = absurd (omega arith)
below_later low (u ∷ us) rise i zero less lt = absurd (omega arith)
below_later low (u ∷ us) rise zero (suc j) less lt =
    let both = and_parts (nat_le low u) (rises_from (u + 1) us) (sym (rises_from-cons low u us) ∙ rise) in
    let later : u + 1 ≤ get_or us j 0 = above_low (u + 1) us both.1 j (omega arith) in
    let all : u < get_or us j 0 = omega arith in
    all
below_later low (u ∷ us) rise (suc i) (suc j) less lt =
    let both = and_parts (nat_le low u) (rises_from (u + 1) us) (sym (rises_from-cons low u us) ∙ rise) in
    below_later (u + 1) us both.1 i j (omega arith) (omega arith)

-- ---- node numbers of leaves

pub found_at : (us : List ℕ) (k n : ℕ) → k < length us → 2 * get_or us k 0 ≡ n → has (leaf_numbers us) n ≡ true
unfolding has
found_at [] k n lt is = absurd (omega arith)
found_at (u ∷ us) zero n lt is = or_left (2 * u == n) (has (leaf_numbers us) n) (eq-eqb (2 * u) n is)
found_at (u ∷ us) (suc k) n lt is = or_right (2 * u == n) (has (leaf_numbers us) n) (found_at us k n (omega arith) is)

nowhere : (us : List ℕ) (n : ℕ) → ((k : ℕ) → k < length us → 2 * get_or us k 0 ≡ n → ⊥) → has (leaf_numbers us) n ≡ false
unfolding has
nowhere [] n other = refl
nowhere (u ∷ us) n other =
    ap (λ v. v || has (leaf_numbers us) n) (ne_eqb (2 * u) n (other 0 (omega arith)))
    ∙ nowhere us n (λ k lt. other (suc k) (omega arith))

-- a list that rises hasn't what is between two that stand beside each other
pub none_between : (us : List ℕ) (p n : ℕ) → rises us ≡ true → p ≤ length us → (0 < p → 2 * get_or us (p - 1) 0 < n) → (p < length us → n < 2 * get_or us p 0) → has (leaf_numbers us) n ≡ false
none_between us p n rise le low high = nowhere us n (λ k lt is. elim (cases_lt k p) [
  | inl below ↦
      let top = low (omega arith) in
      elim (cases_lt k (p - 1)) [
        | inl less ↦ let up = below_later 0 us rise k (p - 1) less (omega arith) in absurd (omega arith)
        | inr ge ↦
            let same : p - 1 ≡ k = omega arith in
            let own = subst (λ m. 2 * get_or us m 0 < n) same top in
            absurd (omega arith)
      ]
  | inr from ↦
      elim (cases_lt p k) [
        | inl more ↦
            let up = below_later 0 us rise p k more lt in
            let bottom = high (omega arith) in
            absurd (omega arith)
        | inr back ↦
            let same : p ≡ k = omega arith in
            let own = subst (λ m. n < 2 * get_or us m 0) same (high (omega arith)) in
            absurd (omega arith)
      ]
])

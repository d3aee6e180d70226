-- The numbers of a way, as they are written.
use Rattle.std.proofs.Common.{◌≡◌, ℕ, suc, ◌+◌, ◌-◌, ◌*◌, ◌^◌, ◌%◌, ◌<◌, ◌≤◌, List, [], ◌∷◌, ◌++◌, length, set, refl, sym, ◌∙◌, ap, arith, append-nil, inl, inr}
use Rattle.std.proofs.Math.Nat.{pow-suc, mod-eq_of_lt}
use Rattle.std.proofs.lemmas.Nat.{pow_pos}
use Rattle.std.proofs.lemmas.Bool.{cases_lt}
use Rattle.std.proofs.lemmas.List.{drop_all}
use borrow.Rule.Slice.PartMut.{put_mid}
use Rattle.mls_treemath.specs.Paths.{nodes_in}
use Rattle.mls_tree_model.proofs.ArrayLaws.{nodes_in-leaves}
use Rattle.mls_tree.specs.Way.{numbers_from}
use Rattle.mls_tree.proofs.WayLaws.{numbers_leaf, numbers_left, numbers_right}

one_set : (xs : List ℕ) (n : ℕ) → length xs ≡ 1 → set xs 0 n ≡ n ∷ []
one_set [] n e = absurd (omega arith)
one_set (x ∷ []) n e = refl
one_set (x ∷ y ∷ xs) n e = absurd (omega arith)

pub leaf_written : (h b i : ℕ) (xs : List ℕ) → h ≡ 0 → length xs ≡ suc h → set xs 0 (2 * b) ≡ numbers_from h b i
leaf_written h b i xs low long =
    one_set xs (2 * b) (omega arith) ∙ sym (numbers_leaf b i) ∙ ap (λ k. numbers_from k b i) (sym low)

first_set : (xs : List ℕ) (n : ℕ) (sub : List ℕ) → 0 < length xs → put_mid 1 (length (set xs 0 n) - 1) (set xs 0 n) sub ≡ n ∷ sub
first_set [] n sub some = absurd (omega arith)
first_set (x ∷ xs) n sub some =
    let long : length (n ∷ xs) - 1 ≡ length xs = omega arith in
    ap (λ k. put_mid 1 k (n ∷ xs) sub) long
    ∙ ap (λ ys. n ∷ (sub ++ ys)) (drop_all (length xs) xs (omega arith))
    ∙ ap (λ ys. n ∷ ys) (append-nil sub)

-- one level down
lower : (h : ℕ) → (h ≡ 0 → ⊥) → suc (h - 1) ≡ h
lower h some = elim (cases_lt 0 h) [ inl lt ↦ omega arith | inr ge ↦ absurd (some (omega arith)) ]

half : (h : ℕ) → (h ≡ 0 → ⊥) → 2 ^ h ≡ 2 * 2 ^ (h - 1)
half h some = let more : 2 ^ suc (h - 1) ≡ 2 * 2 ^ (h - 1) = omega (arith, pow-suc 2 (h - 1)) in ap (λ k. 2 ^ k) (sym (lower h some)) ∙ more

module _ (h b : ℕ) (some : h ≡ 0 → ⊥) (fits : b + 2 ^ h ≤ 2 ^ 31) where
  -- the first leaf of the right side, as it is computed
  abbrev second : ℕ
  second = b + 1 * 2 ^ (h - 1) % 4294967296

  second_is : second ≡ b + 2 ^ (h - 1)
  second_is =
      let two = half h some in
      let one : 1 * 2 ^ (h - 1) ≡ 2 ^ (h - 1) = omega arith in
      ap (λ n. b + n % 4294967296) one ∙ ap (λ n. b + n) (mod-eq_of_lt (omega arith))

  pub second_low : 2 * second < 4294967296
  second_low = omega (arith, second_is, half h some, pow_pos (h - 1))

  root_is : 2 * second - 1 ≡ 2 * b + nodes_in (h - 1)
  root_is = omega (arith, second_is, nodes_in-leaves (h - 1))

  module _ (i s : ℕ) (xs sub : List ℕ) (long : length xs ≡ suc h) (is : sub ≡ numbers_from (h - 1) s i) where
    written : put_mid 1 (length (set xs 0 (2 * second - 1)) - 1) (set xs 0 (2 * second - 1)) sub ≡ (2 * b + nodes_in (h - 1)) ∷ numbers_from (h - 1) s i
    written = first_set xs (2 * second - 1) sub (omega arith) ∙ ap (λ n. n ∷ sub) root_is ∙ ap (λ ys. (2 * b + nodes_in (h - 1)) ∷ ys) is

    pub written_left : i < second → s ≡ b → put_mid 1 (length (set xs 0 (2 * second - 1)) - 1) (set xs 0 (2 * second - 1)) sub ≡ numbers_from h b i
    written_left lt same =
        written
        ∙ ap (λ k. (2 * b + nodes_in (h - 1)) ∷ numbers_from (h - 1) k i) same
        ∙ sym (numbers_left (h - 1) b i (omega (arith, second_is)))
        ∙ ap (λ k. numbers_from k b i) (lower h some)

    pub written_right : second ≤ i → s ≡ second → put_mid 1 (length (set xs 0 (2 * second - 1)) - 1) (set xs 0 (2 * second - 1)) sub ≡ numbers_from h b i
    written_right ge same =
        written
        ∙ ap (λ k. (2 * b + nodes_in (h - 1)) ∷ numbers_from (h - 1) k i) (same ∙ second_is)
        ∙ sym (numbers_right (h - 1) b i (omega (arith, second_is)))
        ∙ ap (λ k. numbers_from k b i) (lower h some)

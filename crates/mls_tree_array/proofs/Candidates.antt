-- The candidate of a side, by its resolution.
use Rattle.std.proofs.Common.{◌≡◌, ℕ, ◌+◌, ◌-◌, ◌<◌, true, false, not, List, length, get_or, drop, Some, None, sym, ◌∙◌, ap, arith}
use Rattle.std.proofs.lemmas.Bool.{cond-true, cond-false}
use Rattle.std.proofs.lemmas.List.{drop_more}
use Rattle.mls_leaf.specs.Parent.{Parent}
use Rattle.mls_tree_model.specs.Sets.{has, within, leaf_numbers, is_same_set}
use Rattle.mls_tree_model.specs.Term.{Term, width}
use Rattle.mls_tree_model.specs.Resolution.{resolution}
use Rattle.mls_tree_array.specs.Witnesses.{numbers_in, others, first_outside, keep_if, only_outside, candidate}
use Rattle.mls_tree_array.proofs.Others.{find_here, find_later}

-- ---- the first node that a list doesn't have, from place i on

pub off_here : (ls xs : List ℕ) (i : ℕ) → i < length xs → has ls (get_or xs i 0) ≡ false → first_outside ls (drop i xs) ≡ Some (get_or xs i 0)
off_here ls xs i lt out =
    ap (first_outside ls) (drop_more xs i 0 lt) ∙ find_here (λ x. not (has ls x)) (get_or xs i 0) (drop (i + 1) xs) (ap not out)

pub off_later : (ls xs : List ℕ) (i : ℕ) → i < length xs → has ls (get_or xs i 0) ≡ true → first_outside ls (drop (i + 1) xs) ≡ first_outside ls (drop i xs)
off_later ls xs i lt there =
    sym (ap (first_outside ls) (drop_more xs i 0 lt) ∙ find_later (λ x. not (has ls x)) (get_or xs i 0) (drop (i + 1) xs) (ap not there))

-- ---- candidates

module _ (p : Parent) (b e : ℕ) (t : Term) (us fs : List ℕ) (ends : e ≡ b + width t) (listed : us ≡ p.unmerged_leaves) (all : fs ≡ resolution b t) where
  candidate_is : candidate p b t ≡ only_outside (numbers_in b e us) fs
  unfolding candidate
  candidate_is =
      let wide : width t ≡ e - b = omega arith in
      ap (λ w. only_outside (leaf_numbers (within b w p.unmerged_leaves)) (resolution b t)) wide
      ∙ ap (λ vs. only_outside (numbers_in b e vs) (resolution b t)) (sym listed)
      ∙ ap (only_outside (numbers_in b e us)) (sym all)

  pub no_candidate : None ≡ first_outside (numbers_in b e us) fs → None ≡ candidate p b t
  unfolding only_outside
  no_candidate none =
      sym (candidate_is ∙ ap (keep_if (λ d. is_same_set (numbers_in b e us) (others d fs))) (sym none))

  module _ (gs : List ℕ) (also : gs ≡ resolution b t) (d : ℕ) (some : Some d ≡ first_outside (numbers_in b e us) fs) where
    same : is_same_set (numbers_in b e us) (others d fs) ≡ is_same_set (numbers_in b e us) (others d gs)
    same = ap (λ ys. is_same_set (numbers_in b e us) (others d ys)) (all ∙ sym also)

    pub more_than_one : is_same_set (numbers_in b e us) (others d gs) ≡ false → None ≡ candidate p b t
    unfolding only_outside
    more_than_one other =
        sym (candidate_is
        ∙ ap (keep_if (λ d. is_same_set (numbers_in b e us) (others d fs))) (sym some)
        ∙ cond-false _ _ _ (same ∙ other))

    pub the_candidate : is_same_set (numbers_in b e us) (others d gs) ≡ true → Some d ≡ candidate p b t
    unfolding only_outside
    the_candidate rest =
        sym (candidate_is
        ∙ ap (keep_if (λ d. is_same_set (numbers_in b e us) (others d fs))) (sym some)
        ∙ cond-true _ _ _ (same ∙ rest))

-- The tree that nodes stand for as they are sent.
use Rattle.std.proofs.Common.{◌≡◌, ◌∙◌, ◌<◌, ◌≤◌, ℕ, List, length, Option, None, sym, ap, subst, le-leb}
use Rattle.std.proofs.lemmas.Bool.{cond-false, cond-true, lt-leb}
use Rattle.mls_leaf.specs.declared.node.Node.{Node}
use Rattle.mls_treemath.specs.Limits.{max_height}
use Rattle.mls_treemath.specs.Paths.{nodes_in}
use Rattle.mls_tree_array.proofs.OrderLaws.{length-padded}
use Rattle.mls_tree_model.specs.Arrays.{height_for, with_padding, sent_term, term_of}
use Rattle.mls_cli_place.specs.Parents.{first_sent, first_wrong}
use Rattle.mls_cli_place.specs.declared.parents.ParentRule.{ParentRule}

module _ (r : ParentRule) (xs : List (Option Node)) (h : ℕ) (at : h ≡ height_for (length xs)) where
  pub too_high : max_height < h → None ≡ first_sent r xs
  too_high high =
      sym (cond-false _ _ _ (lt-leb (height_for (length xs)) max_height (subst (λ (k : ℕ). max_height < k) at high)))

  pub padded_long : (ys : List (Option Node)) → ys ≡ with_padding xs → length ys ≡ nodes_in h
  padded_long ys is = ap length is ∙ length-padded xs ∙ ap nodes_in (sym at)

  pub low_enough : (ys : List (Option Node)) → ys ≡ with_padding xs → h ≤ max_height → first_wrong r (term_of h ys) ≡ first_sent r xs
  unfolding sent_term
  low_enough ys is low =
      ap (λ (k : ℕ). first_wrong r (term_of k ys)) at
      ∙ ap (λ (zs : List (Option Node)). first_wrong r (term_of (height_for (length xs)) zs)) is
      ∙ sym (cond-true _ _ _ (le-leb (height_for (length xs)) max_height (subst (λ (k : ℕ). k ≤ max_height) at low)))

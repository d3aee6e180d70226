-- What a list of nodes from outside is answered by.
use Rattle.std.proofs.Common.{◌≡◌, ℕ, ◌-◌, ◌^◌, ◌<◌, ◌≤◌, ◌++◌, true, false, List, length, replicate, Option, None, Ok, Err, refl, sym, ◌∙◌, ap, subst, le-leb}
use Rattle.std.proofs.Math.Pow.{pow_mono, pow-lt}
use Rattle.std.proofs.lemmas.Bool.{lt-leb}
use Rattle.mls_leaf.specs.declared.node.Node.{Node}
use Rattle.mls_treemath.specs.Limits.{max_height}
use Rattle.mls_treemath.specs.Paths.{nodes_in}
use Rattle.mls_tree_model.specs.Term.{width, is_full_width}
use Rattle.mls_tree_model.specs.Good.{is_within}
use Rattle.mls_tree_model.specs.Arrays.{term_of, has_last, alternates, height_for, with_padding, sent_term, from_nodes}
use Rattle.mls_tree_array.specs.Standing.{Stands}
use Rattle.mls_tree_model.proofs.ArrayLaws.{width-term_of}
use Rattle.mls_tree_array.proofs.OrderLaws.{Stands-padded}
use Rattle.mls_tree_array.proofs.Blanks.{term_of-behind}
use Rattle.mls_tree.specs.Tree.{max_leaves}

module _ (xs : List (Option Node)) where
  pub no_last : has_last xs ≡ false → from_nodes max_leaves xs ≡ Err 20
  unfolding from_nodes
  no_last e = rw e refl

  pub misplaced : has_last xs ≡ true → alternates true xs ≡ false → from_nodes max_leaves xs ≡ Err 20
  unfolding from_nodes
  misplaced last e = rw (last, e) refl

  -- at the height of the least tree that holds the nodes, blank ones behind them change nothing
  module _ (last : has_last xs ≡ true) (placed : alternates true xs ≡ true) (h : ℕ) (at : h ≡ height_for (length xs)) where
    sent_as : term_of h xs ≡ sent_term xs
    unfolding sent_term with_padding
    sent_as =
        sym (term_of-behind h xs (nodes_in (height_for (length xs)) - length xs))
        ∙ ap (λ k. term_of k (xs ++ replicate (nodes_in (height_for (length xs)) - length xs) None)) at

    width_is : width (sent_term xs) ≡ 2 ^ h
    width_is = ap width (sym sent_as) ∙ width-term_of h xs

    pub half_empty : is_full_width (term_of h xs) ≡ false → from_nodes max_leaves xs ≡ Err 20
    unfolding from_nodes
    half_empty e = rw (last, placed, ap is_full_width (sym sent_as) ∙ e) refl

    pub too_large : is_full_width (term_of h xs) ≡ true → max_height < h → from_nodes max_leaves xs ≡ Err 21
    unfolding from_nodes is_within
    too_large e high = rw (last, placed, ap is_full_width (sym sent_as) ∙ e, lt-leb (width (sent_term xs)) max_leaves (subst (λ w. max_leaves < w) (sym width_is) (pow-lt high))) refl

    pub received : is_full_width (term_of h xs) ≡ true → h ≤ max_height → from_nodes max_leaves xs ≡ Ok (term_of h xs)
    unfolding from_nodes is_within
    received e low = rw (last, placed, ap is_full_width (sym sent_as) ∙ e, le-leb (width (sent_term xs)) max_leaves (subst (λ w. w ≤ max_leaves) (sym width_is) (pow_mono low))) (ap Ok (sym sent_as))

    -- the nodes with blank ones behind them
    module _ (ys : List (Option Node)) (is : ys ≡ with_padding xs) where
      pub stands_as : Stands h ys
      stands_as = subst (λ k. Stands k ys) (sym at) (subst (Stands (height_for (length xs))) (sym is) (Stands-padded xs placed))

      pub same_term : term_of h xs ≡ term_of h ys
      unfolding with_padding
      same_term = sym (ap (term_of h) is ∙ term_of-behind h xs (nodes_in (height_for (length xs)) - length xs))

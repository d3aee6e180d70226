-- What an add answers, case by case.
use Rattle.std.proofs.Common.{◌≡◌, ℕ, ◌+◌, ◌^◌, ◌<◌, ◌≤◌, ◌==◌, ◌&&◌, not, true, List, Option, Some, None, is_none, Ok, Err, refl, sym, ◌∙◌, ap, arith}
use Rattle.std.proofs.Math.Pow.{pow-lt, pow_mono}
use Rattle.std.proofs.lemmas.Bool.{eq-eqb, ne_eqb}
use Rattle.mls_leaf.specs.declared.leaf.LeafNode.{LeafNode}
use Rattle.mls_leaf.specs.declared.node.Node.{Node}
use Rattle.mls_treemath.specs.Limits.{max_height}
use Rattle.mls_tree_model.specs.Term.{Term, width, height, is_perfect}
use Rattle.mls_tree_model.specs.Edits.{first_blank, enter, grow, add, place_for, room_for}
use Rattle.mls_tree_model.specs.Arrays.{term_of}
use Rattle.mls_tree_model.proofs.Equations.{add_is}
use Rattle.mls_tree_model.specs.Good.{is_within}
use Rattle.mls_tree_model.proofs.ArrayLaws.{width-term_of}
use Rattle.mls_tree_model.proofs.LimitLaws.{add_within}
use Rattle.mls_tree_array.specs.StandingLaws.{StandsFor}
use Rattle.mls_tree.specs.Tree.{Tree, term, max_leaves, add_answer}
use Rattle.mls_tree.proofs.Perfect.{perfect}

module _ (t : Term) (x : LeafNode) (perfect : is_perfect (height t) t ≡ true) (low : width t ≤ max_leaves) where
  room : (o : Option ℕ) → first_blank 0 t ≡ o → is_within max_leaves (add t x) ≡ not (is_none o && (width t == max_leaves))
  room o e = add_within max_height t x perfect low ∙ ap (λ p. not (is_none p && (width t == max_leaves))) e

  added_in : (k : ℕ) → first_blank 0 t ≡ Some k → add_answer t x ≡ Ok (k, add t x)
  unfolding add_answer
  added_in k e = rw (room (Some k) e) (ap (λ o. Ok (place_for o t, add t x)) e)

  added_full : first_blank 0 t ≡ None → width t ≡ max_leaves → add_answer t x ≡ Err 21
  unfolding add_answer
  added_full none full = rw (room None none, eq-eqb (width t) max_leaves full) refl

  added_beside : first_blank 0 t ≡ None → (width t ≡ max_leaves → ⊥) → add_answer t x ≡ Ok (width t, add t x)
  unfolding add_answer
  added_beside none small = rw (room None none, ne_eqb (width t) max_leaves small) (ap (λ o. Ok (place_for o t, add t x)) none)

  entered_in : (k : ℕ) → first_blank 0 t ≡ Some k → add t x ≡ enter 0 t k x
  entered_in k e = add_is t x ∙ ap (λ o. enter 0 (room_for o t) (place_for o t) x) e

  entered_beside : first_blank 0 t ≡ None → add t x ≡ enter 0 (grow t) (width t) x
  entered_beside e = add_is t x ∙ ap (λ o. enter 0 (room_for o t) (place_for o t) x) e

module _ (now : Tree) (x : LeafNode) (h : ℕ) (xs cells : List (Option Node)) (view : term_of h xs ≡ term now) (same : cells ≡ xs) (low : h ≤ max_height) where
  first_is : (o : Option ℕ) → o ≡ first_blank 0 (term_of h cells) → first_blank 0 (term now) ≡ o
  first_is o e = sym (e ∙ ap (λ ys. first_blank 0 (term_of h ys)) same ∙ ap (first_blank 0) view)

  width_is : width (term now) ≡ 2 ^ h
  width_is = ap width (sym view) ∙ width-term_of h xs

  width_low : width (term now) ≤ max_leaves
  width_low = let p : 2 ^ h ≤ max_leaves = pow_mono low in let w = width_is in omega arith

  pub add_full : None ≡ first_blank 0 (term_of h cells) → h ≡ max_height → add_answer (term now) x ≡ Err 21
  add_full none full = added_full (term now) x (perfect now) width_low (first_is None none) (width_is ∙ ap (λ k. 2 ^ k) full)

  -- before memory is asked for
  pub may_add_in : (k : ℕ) → Some k ≡ first_blank 0 (term_of h cells) → add_answer (term now) x ≡ Ok (k, add (term now) x)
  may_add_in k some = added_in (term now) x (perfect now) width_low k (first_is (Some k) some)

  pub may_add_beside : None ≡ first_blank 0 (term_of h cells) → h < max_height → add_answer (term now) x ≡ Ok (width (term now), add (term now) x)
  may_add_beside none less =
      let small : 2 ^ h < max_leaves = pow-lt less in
      added_beside (term now) x (perfect now) width_low (first_is None none) (λ e. let w = width_is in absurd (omega arith))

  pub add_in : (k : ℕ) → Some k ≡ first_blank 0 (term_of h cells) → (ys : List (Option Node)) → StandsFor h ys (enter 0 (term_of h xs) k x) → add_answer (term now) x ≡ Ok (k, term_of h ys)
  add_in k some ys stands =
      let first = first_is (Some k) some in
      added_in (term now) x (perfect now) width_low k first
      ∙ ap (λ t. Ok (k, t)) (entered_in (term now) x (perfect now) width_low k first ∙ ap (λ t. enter 0 t k x) (sym view) ∙ sym stands.term)

  pub add_beside : None ≡ first_blank 0 (term_of h cells) → h < max_height → (ys : List (Option Node)) → StandsFor (h + 1) ys (enter 0 (grow (term_of h xs)) (2 ^ h) x) → (i : ℕ) → i ≡ 2 ^ h → add_answer (term now) x ≡ Ok (i, term_of (h + 1) ys)
  add_beside none less ys stands i at =
      let first = first_is None none in
      let small : 2 ^ h < max_leaves = pow-lt less in
      added_beside (term now) x (perfect now) width_low first (λ e. let w = width_is in absurd (omega arith))
      ∙ ap (λ k. Ok (k, add (term now) x)) (width_is ∙ sym at)
      ∙ ap (λ t. Ok (i, t)) (entered_beside (term now) x (perfect now) width_low first ∙ ap (λ k. enter 0 (grow (term now)) k x) width_is ∙ ap (λ t. enter 0 (grow t) (2 ^ h) x) (sym view) ∙ sym stands.term)

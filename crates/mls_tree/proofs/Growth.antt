-- A leaf beside a full tree.
use Rattle.std.proofs.Common.{◌≡◌, ℕ, zero, suc, ◌+◌, ◌^◌, nat_lt, List, Option, Some, None, refl, sym, ◌∙◌, ap, arith, if◌then◌else◌}
use Rattle.mls_leaf.specs.declared.leaf.LeafNode.{LeafNode}
use Rattle.mls_leaf.specs.declared.node.Node.{Node}
use Rattle.mls_tree_model.specs.Term.{Term, Branch, width, height, blanks}
use Rattle.mls_tree_model.specs.Edits.{put, enter, grow}
use Rattle.mls_tree_model.specs.Arrays.{term_of}
use Rattle.mls_tree_model.proofs.Equations.{put_right, enter_right, grow_is}
use Rattle.mls_tree_model.proofs.ArrayLaws.{width-term_of}
use Rattle.mls_tree_array.specs.StandingLaws.{StandsFor}

-- among blank nodes no list takes a leaf in
enter_blanks : (h b i : ℕ) (x : LeafNode) → enter b (blanks h) i x ≡ put b (blanks h) i (Some x)
unfolding blanks enter put
enter_blanks zero b i x = refl
enter_blanks (suc h) b i x =
    ap (λ l. if nat_lt i (b + width (blanks h)) then Branch None l (blanks h) else Branch None (blanks h) (enter (b + width (blanks h)) (blanks h) i x)) (enter_blanks h b i x)
    ∙ ap (λ r. if nat_lt i (b + width (blanks h)) then Branch None (put b (blanks h) i (Some x)) (blanks h) else Branch None (blanks h) r) (enter_blanks h (b + width (blanks h)) i x)

entered_beside : (t : Term) (i : ℕ) (x : LeafNode) → width t ≡ i → put 0 (grow t) i (Some x) ≡ enter 0 (grow t) i x
entered_beside t i x at =
    ap (λ g. put 0 g i (Some x)) (grow_is t)
    ∙ put_right 0 None t (blanks (height t)) i (Some x) (omega arith)
    ∙ ap (Branch None t) (sym (enter_blanks (height t) (0 + width t) i x))
    ∙ sym (enter_right 0 None t (blanks (height t)) i x (omega arith))
    ∙ ap (λ g. enter 0 g i x) (sym (grow_is t))

pub appended : (h i : ℕ) (x : LeafNode) (xs grown ys : List (Option Node)) → i ≡ 2 ^ h → term_of (h + 1) grown ≡ grow (term_of h xs) → StandsFor (h + 1) ys (put 0 (term_of (h + 1) grown) i (Some x)) → StandsFor (h + 1) ys (enter 0 (grow (term_of h xs)) (2 ^ h) x)
appended h i x xs grown ys at is stands =
    record {
      stands = stands.stands;
      term =
          stands.term ∙ ap (λ t. put 0 t i (Some x)) is
          ∙ entered_beside (term_of h xs) i x (width-term_of h xs ∙ sym at)
          ∙ ap (λ k. enter 0 (grow (term_of h xs)) k x) at;
    }

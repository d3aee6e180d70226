-- Laws of a leaf that is removed: the nodes of its way are blank, so the cells are those with its way cleared.
use Rattle.std.proofs.Common.{◌≡◌, ℕ, zero, suc, ◌+◌, ◌-◌, ◌*◌, ◌^◌, ◌<◌, ◌≤◌, true, ◌||◌, List, ◌∷◌, get_or, None, refl, sym, ◌∙◌, ap, arith, inl, inr, ne_eqb}
use Rattle.std.proofs.lemmas.Bool.{true≢false, cases_lt, cases_order, and_parts}
use Rattle.mls_treemath.specs.Paths.{nodes_in}
use Rattle.mls_tree_model.specs.Term.{Term, Leaf, Branch, width, is_perfect}
use Rattle.mls_tree_model.specs.Sets.{has}
use Rattle.mls_tree_model.specs.Edits.{put}
use Rattle.mls_tree_model.specs.Arrays.{in_order}
use Rattle.mls_tree_model.proofs.Equations.{put_leaf, put_left, put_right}
use Rattle.mls_tree_model.proofs.ShapeLaws.{width-perfect, width-put}
use Rattle.mls_tree_model.proofs.ArrayLaws.{nodes_in-leaves}
use Rattle.mls_tree_array.proofs.StandingLaws.{in_order-leaf}
use Rattle.mls_tree.specs.Way.{numbers_from}
use Rattle.mls_tree.proofs.WayLaws.{numbers_left, numbers_right, has-cons, below_way, behind_way}
use Rattle.mls_tree.proofs.BesideLaws.{in_left, in_right, at_root, long_as}

-- each cell on the way to leaf i is blank in a tree of height h, whose first leaf is b
abbrev pub IsBlankOnWay : ℕ → ℕ → ℕ → Term → Type 0
IsBlankOnWay h b i t =
    (y : ℕ) → has (numbers_from h b i) (2 * b + y) ≡ true → get_or (in_order t) y None ≡ None

-- what isn't the first of a list stands further on
further : (n : ℕ) (ns : List ℕ) (x : ℕ) → (n ≡ x → ⊥) → has (n ∷ ns) x ≡ true → has ns x ≡ true
further n ns x other is = sym (has-cons n ns x ∙ ap (λ v. v || has ns x) (ne_eqb n x other)) ∙ is

module _ (h b i : ℕ) (l r : Term) (p : is_perfect h l ≡ true) where
  blank_left : (u : Term) → width u ≡ width l → i < b + width l → IsBlankOnWay h b i u → IsBlankOnWay (suc h) b i (Branch None u r)
  blank_left u wide lt blank y on =
      let w = width-perfect h l p in
      let way : has ((2 * b + nodes_in h) ∷ numbers_from h b i) (2 * b + y) ≡ true = sym (ap (λ ns. has ns (2 * b + y)) (numbers_left h b i (omega arith))) ∙ on in
      let new = long_as h l u p wide in
      elim (cases_order y (nodes_in h)) [
        | inl same ↦ at_root h b i y None u r new same
        | inr (inl low) ↦ in_left h b i y None u r new low ∙ blank y (further _ _ _ (λ e. absurd (omega arith)) way)
        | inr (inr high) ↦ absurd (true≢false (sym (further _ _ _ (λ e. absurd (omega arith)) way) ∙ behind_way h b i (2 * b + y) (omega arith)))
      ]

  blank_right : (u : Term) → b + width l ≤ i → IsBlankOnWay h (b + width l) i u → IsBlankOnWay (suc h) b i (Branch None l u)
  blank_right u ge blank y on =
      let w = width-perfect h l p in
      let half = nodes_in-leaves h in
      let way : has ((2 * b + nodes_in h) ∷ numbers_from h (b + 2 ^ h) i) (2 * b + y) ≡ true = sym (ap (λ ns. has ns (2 * b + y)) (numbers_right h b i (omega arith))) ∙ on in
      let long = long_as h l l p refl in
      elim (cases_order y (nodes_in h)) [
        | inl same ↦ at_root h b i y None l u long same
        | inr (inl low) ↦ absurd (true≢false (sym (further _ _ _ (λ e. absurd (omega arith)) way) ∙ below_way h (b + 2 ^ h) i (2 * b + y) (omega arith)))
        | inr (inr high) ↦
            let at : 2 * (b + width l) + (y - suc (nodes_in h)) ≡ 2 * b + y = omega arith in
            in_right h b i y None l u long high
            ∙ blank (y - suc (nodes_in h)) (ap (has (numbers_from h (b + width l) i)) at ∙ ap (λ k. has (numbers_from h (b + k) i) (2 * b + y)) w ∙ further _ _ _ (λ e. absurd (omega arith)) way)
      ]

blank_leaf : (b i : ℕ) → IsBlankOnWay 0 b i (Leaf None)
blank_leaf b i zero on = ap (λ zs. get_or zs 0 None) (in_order-leaf None)
blank_leaf b i (suc y) on = ap (λ zs. get_or zs (suc y) None) (in_order-leaf None)

pub put_blanks : (h b : ℕ) (t : Term) (i : ℕ) → is_perfect h t ≡ true → IsBlankOnWay h b i (put b t i None)
unfolding is_perfect
put_blanks zero b (Leaf w) i p = rw (put_leaf b w i None) (blank_leaf b i)
put_blanks (suc h) b (Leaf w) i p = absurd (true≢false (sym p))
put_blanks zero b (Branch c l r) i p = absurd (true≢false (sym p))
put_blanks (suc h) b (Branch c l r) i p =
    let sides = and_parts (is_perfect h l) (is_perfect h r) p in
    elim (cases_lt i (b + width l)) [
      | inl lt ↦ rw (put_left b c l r i None lt) (blank_left h b i l r sides.0 (put b l i None) (width-put b l i None) lt (put_blanks h b l i sides.0))
      | inr ge ↦ rw (put_right b c l r i None ge) (blank_right h b i l r sides.0 (put (b + width l) r i None) ge (put_blanks h (b + width l) r i sides.1))
    ]

-- Which keys a member has to have, as code goes over the parents.
use Rattle.std.proofs.Common.{◌≡◌, ℕ, suc, ◌+◌, ◌-◌, ◌*◌, ◌^◌, ◌<◌, ◌≤◌, Bool, true, false, ◌&&◌, List, ◌∷◌, length, map, Option, refl, sym, subst, ◌∙◌, ap, ap₂, inl, inr, arith}
use Rattle.std.specs.Int.{w32, trailing_zeros}
use Rattle.std.proofs.lemmas.Bool.{cases_lt}
use Rattle.std.proofs.lemmas.List.{length-map}
use Rattle.mls_leaf.specs.Parent.{Parent}
use Rattle.mls_tree_model.specs.Term.{Term, width}
use Rattle.mls_tree_model.specs.Arrays.{parent_in, node_at}
use Rattle.mls_tree.specs.Tree.{Tree, term}
use Rattle.mls_treekem.specs.declared.places.Place.{Place}
use Rattle.mls_treekem_model.specs.Join.{is_due, is_complete, has_due_on, has_due}
use Rattle.mls_treekem_model.specs.Keys.{PrivateKeys, all_keys, key_above, keys_on_way}
use Rattle.mls_treekem.specs.Place.{place, places_from, step_of}
use Rattle.mls_treekem.proofs.Place.{length-places, places_left, places_right, way_found}

module _ (t : Term) (p : PrivateKeys) where
  abbrev pub due_over : ℕ → ℕ → Bool
  due_over h b = has_due_on p (map (step_of t) (places_from h b p.leaf))

  pub due_none : (h b : ℕ) → h ≡ 0 → true ≡ due_over h b
  unfolding places_from is_complete
  due_none h b e = rw e refl

  -- at a parent with a side of w leaves
  module _ (h b : ℕ) (ne : h ≡ 0 → ⊥) (w : ℕ) (w_is : w ≡ 2 ^ (h - 1)) where
    abbrev pub due_here : Bool
    due_here = is_due p.leaf (parent_in (node_at 0 t (2 * b + (2 * w - 1)))) (key_above h (all_keys p))

    one_more : h ≡ suc (h - 1)
    one_more = omega arith

    due_more : (q : Place) (b' : ℕ) → q.node ≡ 2 * b + (2 * w - 1) → places_from h b p.leaf ≡ q ∷ places_from (h - 1) b' p.leaf → due_over h b ≡ (due_here && due_over (h - 1) b')
    unfolding is_complete keys_on_way step_of
    due_more q b' node e =
        let below : length (map (step_of t) (places_from (h - 1) b' p.leaf)) ≡ h - 1 = length-map (places_from (h - 1) b' p.leaf) (step_of t) ∙ length-places (h - 1) b' p.leaf in
        ap (λ qs. has_due_on p (map (step_of t) qs)) e
        ∙ ap₂ (λ n k. is_due p.leaf (parent_in (node_at 0 t n)) (key_above k (all_keys p)) && due_over (h - 1) b') node (ap suc below ∙ sym one_more)

    left_is : p.leaf < b + w → places_from h b p.leaf ≡ place (2 * b + (2 * w - 1)) (2 * (b + w) + (w - 1)) (b + w) w ∷ places_from (h - 1) b p.leaf
    left_is =
        subst (λ v. p.leaf < b + v → places_from h b p.leaf ≡ place (2 * b + (2 * v - 1)) (2 * (b + v) + (v - 1)) (b + v) v ∷ places_from (h - 1) b p.leaf) (sym w_is)
        (λ lt. ap (λ n. places_from n b p.leaf) one_more ∙ places_left (h - 1) b p.leaf lt)

    right_is : b + w ≤ p.leaf → places_from h b p.leaf ≡ place (2 * b + (2 * w - 1)) (2 * b + (w - 1)) b w ∷ places_from (h - 1) (b + w) p.leaf
    right_is =
        subst (λ v. b + v ≤ p.leaf → places_from h b p.leaf ≡ place (2 * b + (2 * v - 1)) (2 * b + (v - 1)) b v ∷ places_from (h - 1) (b + v) p.leaf) (sym w_is)
        (λ ge. ap (λ n. places_from n b p.leaf) one_more ∙ places_right (h - 1) b p.leaf ge)

    more_left : p.leaf < b + w → due_over h b ≡ (due_here && due_over (h - 1) b)
    more_left lt = due_more (place (2 * b + (2 * w - 1)) (2 * (b + w) + (w - 1)) (b + w) w) b refl (left_is lt)

    more_right : b + w ≤ p.leaf → due_over h b ≡ (due_here && due_over (h - 1) (b + w))
    more_right ge = due_more (place (2 * b + (2 * w - 1)) (2 * b + (w - 1)) b w) (b + w) refl (right_is ge)

    -- what code read there
    module _ (due : Bool) (j : ℕ) (q : Option Parent) (k : Option (List ℕ)) (is : due ≡ is_due j q k) (j_is : j ≡ p.leaf) (q_is : q ≡ parent_in (node_at 0 t (2 * b + (2 * w - 1)))) (k_is : k ≡ key_above h (all_keys p)) where
      due_is : due ≡ due_here
      due_is = is ∙ ap (λ i. is_due i q k) j_is ∙ ap₂ (λ x y. is_due p.leaf x y) q_is k_is

      pub due_left : due ≡ true → j < b + w → (lower : Bool) → lower ≡ due_over (h - 1) b → lower ≡ due_over h b
      due_left d lt lower e = e ∙ sym (more_left (subst (λ i. i < b + w) j_is lt) ∙ ap (λ z. z && due_over (h - 1) b) (sym due_is ∙ d))

      pub due_right : due ≡ true → b + w ≤ j → (lower : Bool) → lower ≡ due_over (h - 1) (b + w) → lower ≡ due_over h b
      due_right d ge lower e = e ∙ sym (more_right (subst (λ i. b + w ≤ i) j_is ge) ∙ ap (λ z. z && due_over (h - 1) (b + w)) (sym due_is ∙ d))

      pub due_not : due ≡ false → false ≡ due_over h b
      due_not d = elim (cases_lt p.leaf (b + w)) [
        | inl lt ↦ sym (more_left lt ∙ ap (λ z. z && due_over (h - 1) b) (sym due_is ∙ d))
        | inr ge ↦ sym (more_right ge ∙ ap (λ z. z && due_over (h - 1) (b + w)) (sym due_is ∙ d))
      ]

pub all_due : (t : Tree) (n : ℕ) → n ≡ width (term t) → n < 2 ^ 32 → (p : PrivateKeys) (found : Bool) → found ≡ has_due_on p (map (step_of (term t)) (places_from (trailing_zeros w32 n) 0 p.leaf)) → has_due (term t) p ≡ found
all_due t n e lt p found is = let w = way_found t n e lt p.leaf (places_from (trailing_zeros w32 n) 0 p.leaf) refl in ap (has_due_on p) (sym w.steps) ∙ sym is

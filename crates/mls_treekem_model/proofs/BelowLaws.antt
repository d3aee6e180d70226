-- Edits keep lists of leaves below their parent.
use Rattle.std.proofs.Common.{◌≡◌, ℕ, ◌+◌, ◌<◌, ◌≤◌, ◌==◌, true, nat_lt, nat_le, ◌&&◌, List, [], Option, Some, None, refl, sym, ◌∙◌, arith, inl, inr, eqb-true, le-leb, lt-ltb}
use Rattle.std.specs.List.{list_all}
use Rattle.std.proofs.lemmas.Bool.{and_from, or_cases, cases_lt}
use Rattle.mls_leaf.specs.Parent.{Parent, rising_with}
use Rattle.mls_leaf.specs.declared.leaf.LeafNode.{LeafNode}
use Rattle.mls_tree_model.specs.Sets.{has}
use Rattle.mls_tree_model.specs.Term.{Term, Leaf, Branch, width}
use Rattle.mls_tree_model.specs.Edits.{list_leaf, enter}
use Rattle.mls_tree_model.specs.Lists.{parent_passes, all_parents, rises_here}
use Rattle.mls_tree_model.proofs.Equations.{enter_left, enter_right}
use Rattle.mls_tree_model.proofs.SetLaws.{all_at, all_from, has-with}
use Rattle.mls_tree_model.proofs.ShapeLaws.{width-enter}
use Rattle.mls_tree_model.proofs.ParentLaws.{parents_parts, parents_from, parents-put, parents-grow, parents-trim}
use Rattle.mls_tree_model.proofs.NamedLaws.{rises-enter}
use Rattle.mls_tree_model.proofs.MergeLaws.{free-merge, rises-merge}
use Rattle.mls_treekem_model.specs.Lists.{below_here}
use Rattle.mls_treekem_model.specs.Laws.{BelowEnter, BelowGrow, BelowMerge, BelowPut, BelowTrim}

pub below_put : BelowPut
below_put b t i x h = record { below = parents-put below_here b t i x h.below; rising = parents-put rises_here b t i x h.rising }

pub below_grow : BelowGrow
below_grow t h = record { below = parents-grow below_here 0 t h.below; rising = parents-grow rises_here 0 t h.rising }

pub below_trim : BelowTrim
below_trim b t h = record { below = parents-trim below_here b t h.below; rising = parents-trim rises_here b t h.rising }

free : (b : ℕ) (p : Parent) (l r : Term) → p.unmerged_leaves ≡ [] → below_here b p l r ≡ true
unfolding below_here
free b p l r e = rw e refl

pub below_merge : BelowMerge
below_merge b t i ks h x k = record { below = free-merge below_here free b t i ks h x k.below; rising = rises-merge b t i ks h x k.rising }

with_one : (b n i : ℕ) (us : List ℕ) → b ≤ i → i < b + n → list_all (λ u. nat_le b u && nat_lt u (b + n)) us ≡ true → list_all (λ u. nat_le b u && nat_lt u (b + n)) (rising_with i us) ≡ true
with_one b n i us low high h =
    all_from (λ u. nat_le b u && nat_lt u (b + n)) (rising_with i us) (λ u e.
    elim (or_cases (has us u) (i == u) (sym (has-with i us u) ∙ e)) [
      | inl k ↦ all_at (λ u. nat_le b u && nat_lt u (b + n)) us u h k
      | inr k ↦ let q : i ≡ u = eqb-true i u k in and_from (nat_le b u) _ (le-leb b u (omega arith)) (lt-ltb u (b + n) (omega arith))
    ])

asked_with : (b : ℕ) (c : Option Parent) (l r l' r' : Term) (i : ℕ) → width l' ≡ width l → width r' ≡ width r → b ≤ i → i < b + (width l + width r) → parent_passes below_here b c l r ≡ true → parent_passes below_here b (list_leaf i c) l' r' ≡ true
unfolding below_here
asked_with b None l r l' r' i wl wr low high h = refl
asked_with b (Some p) l r l' r' i wl wr low high h = rw (wl, wr) (with_one b (width l + width r) i p.unmerged_leaves low high h)

parents_enter : (b : ℕ) (t : Term) (i : ℕ) (x : LeafNode) → b ≤ i → i < b + width t → all_parents below_here b t ≡ true → all_parents below_here b (enter b t i x) ≡ true
unfolding width
parents_enter b (Leaf v) i x low high h = unfold enter all_parents in refl
parents_enter b (Branch c l r) i x low high h =
    let p = parents_parts below_here b c l r h in
    elim (cases_lt i (b + width l)) [
      | inl lt ↦
          let w = width-enter b l i x in
          rw (enter_left b c l r i x lt) (parents_from below_here b (b + width l) (list_leaf i c) (enter b l i x) r
          (asked_with b c l r (enter b l i x) r i w refl low high p.0) (parents_enter b l i x low lt p.1) (omega arith) p.2)
      | inr ge ↦
          rw (enter_right b c l r i x ge) (parents_from below_here b (b + width l) (list_leaf i c) l (enter (b + width l) r i x)
          (asked_with b c l r l (enter (b + width l) r i x) i refl (width-enter (b + width l) r i x) low high p.0) p.1 refl (parents_enter (b + width l) r i x ge (omega arith) p.2))
    ]

pub below_enter : BelowEnter
below_enter b t i x inside h = record { below = parents_enter b t i x inside.low inside.high h.below; rising = rises-enter b t i x h.rising }

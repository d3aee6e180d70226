-- Lists of leaves below their parent.
use Rattle.std.proofs.Common.{◌≡◌, ℕ, ◌+◌, true, nat_lt, nat_le, ◌&&◌, Option, Some, None, refl, ltb-true, leb-true}
use Rattle.std.proofs.lemmas.Bool.{and_parts, and_from}
use Rattle.mls_leaf.specs.Parent.{Parent}
use Rattle.mls_tree_model.specs.Term.{Term, Leaf, Branch, width}
use Rattle.mls_tree_model.specs.Lists.{parent_passes, all_parents, may_be_listed, lists_here, rises_here}
use Rattle.mls_tree_model.proofs.SetLaws.{all_at, all_from}
use Rattle.mls_tree_model.proofs.ParentLaws.{parents_parts, parents_from}
use Rattle.mls_treekem_model.specs.Lists.{below_here, ListsBelow}
use Rattle.mls_tree_model.proofs.NamedLaws.{IsBound}
use Rattle.mls_treekem_model.specs.Laws.{RightAreBelow}

weaker : (b : ℕ) (p : Parent) (l r : Term) → lists_here b p l r ≡ true → below_here b p l r ≡ true
unfolding lists_here below_here may_be_listed
weaker b p l r h =
    all_from (λ u. nat_le b u && nat_lt u (b + (width l + width r))) p.unmerged_leaves (λ u e.
    let k = and_parts (nat_le b u) _ (all_at (may_be_listed b l r) p.unmerged_leaves u h e) in
    let m = and_parts (nat_lt u (b + (width l + width r))) _ k.1 in
    and_from (nat_le b u) _ k.0 m.0)

asked_weaker : (b : ℕ) (c : Option Parent) (l r : Term) → parent_passes lists_here b c l r ≡ true → parent_passes below_here b c l r ≡ true
asked_weaker b None l r h = refl
asked_weaker b (Some p) l r h = weaker b p l r h

parents_weaker : (b : ℕ) (t : Term) → all_parents lists_here b t ≡ true → all_parents below_here b t ≡ true
parents_weaker b (Leaf v) h = unfold all_parents in refl
parents_weaker b (Branch c l r) h =
    let p = parents_parts lists_here b c l r h in
    parents_from below_here b (b + width l) c l r (asked_weaker b c l r p.0) (parents_weaker b l p.1) refl (parents_weaker (b + width l) r p.2)

pub right_are_below : RightAreBelow
right_are_below b t h = record { below = parents_weaker b t h.right; rising = h.rising }

pub lists_left : (b : ℕ) (c : Option Parent) (l r : Term) → ListsBelow b (Branch c l r) → ListsBelow b l
lists_left b c l r h = record { below = (parents_parts below_here b c l r h.below).1; rising = (parents_parts rises_here b c l r h.rising).1 }

pub lists_right : (b : ℕ) (c : Option Parent) (l r : Term) → ListsBelow b (Branch c l r) → ListsBelow (b + width l) r
lists_right b c l r h = record { below = (parents_parts below_here b c l r h.below).2; rising = (parents_parts rises_here b c l r h.rising).2 }

pub below_bound : IsBound below_here
unfolding below_here
below_bound b p l r u h e =
    let k = and_parts (nat_le b u) _ (all_at (λ u. nat_le b u && nat_lt u (b + (width l + width r))) p.unmerged_leaves u h e) in
    (leb-true b u k.0, ltb-true u (b + (width l + width r)) k.1)

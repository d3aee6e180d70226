-- What each member's leaf has, and what an edit or a path puts in, the leaves of the new tree have.
use Rattle.std.proofs.Common.{◌≡◌, ℕ, zero, suc, ◌+◌, ◌<◌, ◌≤◌, List, [], ◌∷◌, reverse, Option, Some, None, Ok, sym, subst, ap, arith, inl, inr}
use Rattle.std.specs.Prelude.{IfSome}
use Rattle.std.specs.List.{AllByRecursion}
use Rattle.std.proofs.lemmas.Bool.{cases_lt, cases_Bool}
use Rattle.mls_wire.proofs.CheckLaws.{bind_ok}
use Rattle.mls_wire.specs.Laws.{ok_is}
use Rattle.mls_leaf.specs.Leaf.{leaf_node}
use Rattle.mls_leaf.specs.declared.key_package.KeyPackage.{KeyPackage}
use Rattle.mls_leaf.specs.declared.leaf.LeafNode.{LeafNode}
use Rattle.mls_tree_model.specs.Term.{Term, Leaf, Branch, width, height, blanks, has_leaf, leaf_at, leaf_of}
use Rattle.mls_tree_model.specs.Edits.{put, enter, grow, trim, first_blank, room_for, place_in, add, remove}
use Rattle.mls_tree_model.proofs.Equations.{leaf_at_leaf, leaf_at_left, leaf_at_right, leaf_of_in, leaf_of_out, put_left, put_right, enter_left, enter_right, merge_left, merge_right, trim_full, trim_empty, add_is, remove_is}
use Rattle.mls_tree_model.specs.Resolution.{is_reached}
use Rattle.mls_tree_model.specs.Merge.{new_parent, keys_below, hash_below, merge, merge_path}
use Rattle.mls_tree.specs.Tree.{add_answer, update_answer, remove_answer}
use Rattle.mls_tree.proofs.Steps.{update_steps, remove_steps, add_steps}
use Rattle.mls_model.specs.PublicState.{Used}
use Rattle.mls_model.specs.Proposals.{updates, removed_leaves, adds}
use Rattle.mls_model.specs.Commit.{Edits, apply_updates, apply_removes, apply_adds}
use Rattle.mls_public_group.specs.Short.{AreBelow, HasLeavesBelow, IsBelow}
use Rattle.mls_public_group.proofs.ShortLaws.{below_more, updates_below, adds_below}
use Rattle.mls_public_group.specs.ProposalList.{edit_tree}

-- each member's leaf has it
unfoldable pub AllLeaves : (LeafNode → Type 0) → Term → Type 0
AllLeaves P (Leaf v) = IfSome v P
AllLeaves P (Branch c l r) = AllLeaves P l × AllLeaves P r

module _ (P : LeafNode → Type 0) where
  -- ---- by their places

  at_leaf : (b : ℕ) (v : Option LeafNode) (i : ℕ) → IfSome v P → IfSome (leaf_at b (Leaf v) i) P
  at_leaf b v i h = subst (λ (o : Option LeafNode). IfSome o P) (sym (leaf_at_leaf b v i)) h

  leaves_at : (b : ℕ) (t : Term) (i : ℕ) → AllLeaves P t → IfSome (leaf_at b t i) P
  unfolding AllLeaves
  leaves_at b (Leaf v) i h = at_leaf b v i h
  leaves_at b (Branch c l r) i h = elim (cases_lt i (b + width l)) [
    | inl lt ↦ subst (λ (o : Option LeafNode). IfSome o P) (sym (leaf_at_left b c l r i lt)) (leaves_at b l i h.0)
    | inr ge ↦ subst (λ (o : Option LeafNode). IfSome o P) (sym (leaf_at_right b c l r i ge)) (leaves_at (b + width l) r i h.1)
  ]

  pub leaves_of : (t : Term) → AllLeaves P t → (i : ℕ) → IfSome (leaf_of t i) P
  leaves_of t h i = elim (cases_lt i (width t)) [
    | inl lt ↦ subst (λ (o : Option LeafNode). IfSome o P) (sym (leaf_of_in t i lt)) (leaves_at 0 t i h)
    | inr ge ↦ subst (λ (o : Option LeafNode). IfSome o P) (sym (leaf_of_out t i ge)) tt
  ]

  from_places : (b : ℕ) (t : Term) → ((i : ℕ) → b ≤ i → i < b + width t → IfSome (leaf_at b t i) P) → AllLeaves P t
  unfolding AllLeaves width
  from_places b (Leaf v) h = subst (λ (o : Option LeafNode). IfSome o P) (leaf_at_leaf b v b) (h b (omega arith) (omega arith))
  from_places b (Branch c l r) h = (
    from_places b l (λ i low high. subst (λ (o : Option LeafNode). IfSome o P) (leaf_at_left b c l r i high) (h i low (omega arith))),
    from_places (b + width l) r (λ i low high. subst (λ (o : Option LeafNode). IfSome o P) (leaf_at_right b c l r i low) (h i (omega arith) (omega arith))),
  )

  pub leaves_from : (t : Term) → ((i : ℕ) → IfSome (leaf_of t i) P) → AllLeaves P t
  leaves_from t h = from_places 0 t (λ i low high. let lt : i < width t = omega arith in subst (λ (o : Option LeafNode). IfSome o P) (leaf_of_in t i lt) (h i))

  -- ---- edits

  put_there : (b : ℕ) (v : Option LeafNode) (i : ℕ) (x : Option LeafNode) → IfSome x P → AllLeaves P (put b (Leaf v) i x)
  unfolding put AllLeaves
  put_there b v i x p = p

  pub leaves_put : (b : ℕ) (t : Term) (i : ℕ) (x : Option LeafNode) → IfSome x P → AllLeaves P t → AllLeaves P (put b t i x)
  unfolding AllLeaves
  leaves_put b (Leaf v) i x p h = put_there b v i x p
  leaves_put b (Branch c l r) i x p h = elim (cases_lt i (b + width l)) [
    | inl lt ↦ rw (put_left b c l r i x lt) (leaves_put b l i x p h.0, h.1)
    | inr ge ↦ rw (put_right b c l r i x ge) (h.0, leaves_put (b + width l) r i x p h.1)
  ]

  enter_there : (b : ℕ) (v : Option LeafNode) (i : ℕ) (x : LeafNode) → P x → AllLeaves P (enter b (Leaf v) i x)
  unfolding enter AllLeaves
  enter_there b v i x p = p

  pub leaves_enter : (b : ℕ) (t : Term) (i : ℕ) (x : LeafNode) → P x → AllLeaves P t → AllLeaves P (enter b t i x)
  unfolding AllLeaves
  leaves_enter b (Leaf v) i x p h = enter_there b v i x p
  leaves_enter b (Branch c l r) i x p h = elim (cases_lt i (b + width l)) [
    | inl lt ↦ rw (enter_left b c l r i x lt) (leaves_enter b l i x p h.0, h.1)
    | inr ge ↦ rw (enter_right b c l r i x ge) (h.0, leaves_enter (b + width l) r i x p h.1)
  ]

  pub leaves_blanks : (h : ℕ) → AllLeaves P (blanks h)
  unfolding AllLeaves blanks
  leaves_blanks zero = tt
  leaves_blanks (suc h) = (leaves_blanks h, leaves_blanks h)

  trim_there : (v : Option LeafNode) → AllLeaves P (Leaf v) → AllLeaves P (trim (Leaf v))
  unfolding trim
  trim_there v h = h

  pub leaves_trim : (t : Term) → AllLeaves P t → AllLeaves P (trim t)
  unfolding AllLeaves
  leaves_trim (Leaf v) h = trim_there v h
  leaves_trim (Branch c l r) h = elim (cases_Bool (has_leaf r)) [
    | inl e ↦ rw (trim_full c l r e) h
    | inr e ↦ rw (trim_empty c l r e) (leaves_trim l h.0)
  ]

  pub leaves_remove : (t : Term) (i : ℕ) → AllLeaves P t → AllLeaves P (remove t i)
  leaves_remove t i h = rw (remove_is t i) (leaves_trim (put 0 t i None) (leaves_put 0 t i None tt h))

  leaves_room : (o : Option ℕ) (t : Term) → AllLeaves P t → AllLeaves P (room_for o t)
  unfolding grow AllLeaves
  leaves_room None t h = (h, leaves_blanks (height t))
  leaves_room (Some i) t h = h

  pub leaves_add : (t : Term) (x : LeafNode) → P x → AllLeaves P t → AllLeaves P (add t x)
  leaves_add t x p h = rw (add_is t x) (leaves_enter 0 (room_for (first_blank 0 t) t) (place_in t) x p (leaves_room (first_blank 0 t) t h))

  -- ---- paths

  merge_there : (b : ℕ) (v : Option LeafNode) (i : ℕ) (ks : List (List ℕ)) (h : List ℕ) (x : LeafNode) → P x → AllLeaves P (merge b (Leaf v) i ks h x)
  unfolding merge AllLeaves
  merge_there b v i ks h x p = p

  pub leaves_merge : (b : ℕ) (t : Term) (i : ℕ) (ks : List (List ℕ)) (h : List ℕ) (x : LeafNode) → P x → AllLeaves P t → AllLeaves P (merge b t i ks h x)
  unfolding AllLeaves
  leaves_merge b (Leaf v) i ks h x p q = merge_there b v i ks h x p
  leaves_merge b (Branch c l r) i ks h x p q = elim (cases_lt i (b + width l)) [
    | inl lt ↦ rw (merge_left b c l r i ks h x lt) (leaves_merge b l i (keys_below (is_reached (b + width l) r) ks) (hash_below (new_parent (is_reached (b + width l) r) ks h) (b + width l) r h) x p q.0, q.1)
    | inr ge ↦ rw (merge_right b c l r i ks h x ge) (q.0, leaves_merge (b + width l) r i (keys_below (is_reached b l) ks) (hash_below (new_parent (is_reached b l) ks h) b l h) x p q.1)
  ]

  -- a leaf of a merged tree is an old one or the path's
  pub leaves_merge_path : (t : Term) (i : ℕ) (x : LeafNode) (keys : List (List ℕ)) → P x → AllLeaves P t → AllLeaves P (merge_path t i x keys)
  unfolding merge_path
  leaves_merge_path t i x keys p h = leaves_merge 0 t i (reverse keys) [] x p h

  -- ---- the proposals of a commit

  pub leaves_updated : (us : List (ℕ × LeafNode)) (t s : Term) → AllByRecursion (λ (u : ℕ × LeafNode). P u.1) us → apply_updates t us ≡ Ok s → AllLeaves P t → AllLeaves P s
  unfolding apply_updates
  leaves_updated [] t s p h q = subst (AllLeaves P) (ok_is t s h) q
  leaves_updated (u ∷ us) t s p h q =
      let first = bind_ok (update_answer t u.0 u.1) (λ r. apply_updates r us) s h in
      let is = update_steps t u.0 u.1 first.0 first.1 in
      leaves_updated us first.0 s p.1 first.2 (subst (AllLeaves P) (sym is.tree) (leaves_put 0 t u.0 (Some u.1) p.0 q))

  pub leaves_removed : (is : List ℕ) (t s : Term) → apply_removes t is ≡ Ok s → AllLeaves P t → AllLeaves P s
  unfolding apply_removes
  leaves_removed [] t s h q = subst (AllLeaves P) (ok_is t s h) q
  leaves_removed (i ∷ is) t s h q =
      let first = bind_ok (remove_answer t i) (λ r. apply_removes r is) s h in
      let one = remove_steps t i first.0 first.1 in
      leaves_removed is first.0 s first.2 (subst (AllLeaves P) (sym one.tree) (leaves_remove t i q))

  pub leaves_added : (xs : List KeyPackage) (t : Term) (e : Edits) → AllByRecursion (λ (x : KeyPackage). P x.leaf_node) xs → apply_adds t xs ≡ Ok e → AllLeaves P t → AllLeaves P e.tree
  unfolding apply_adds
  leaves_added [] t e p h q =
      let made : Edits = record { tree = t; added = [] } in
      subst (AllLeaves P) (ap (λ (f : Edits). f.tree) (ok_is made e h)) q
  leaves_added (x ∷ xs) t e p h q =
      let first = bind_ok (add_answer t x.leaf_node) _ e h in
      let is = add_steps t x.leaf_node first.0.0 first.0.1 first.1 in
      let later = bind_ok (apply_adds first.0.1 xs) _ e first.2 in
      let made : Edits = record { tree = later.0.tree; added = first.0.0 ∷ later.0.added } in
      subst (AllLeaves P) (ap (λ (f : Edits). f.tree) (ok_is made e later.2))
      (leaves_added xs first.0.1 later.0 p.1 later.1 (subst (AllLeaves P) (sym is.tree) (leaves_add t x.leaf_node p.0 q)))

  pub leaves_applied : (t : Term) (used : List Used) (e : Edits) → AllByRecursion (λ (u : ℕ × LeafNode). P u.1) (updates used) → AllByRecursion (λ (x : KeyPackage). P x.leaf_node) (adds used) → edit_tree t used ≡ Ok e → AllLeaves P t → AllLeaves P e.tree
  unfolding edit_tree
  leaves_applied t used e us xs h q =
      let one = bind_ok (apply_updates t (updates used)) _ e h in
      let two = bind_ok (apply_removes one.0 (removed_leaves used)) _ e one.2 in
      leaves_added (adds used) two.0 e xs two.2 (leaves_removed (removed_leaves used) one.0 two.0 two.1 (leaves_updated (updates used) t one.0 us one.1 q))

-- ---- how long they are

longer : (m n : ℕ) (o : Option LeafNode) → m ≤ n → IfSome o (λ v. IsBelow m leaf_node v) → IfSome o (λ v. IsBelow n leaf_node v)
longer m n None le h = tt
longer m n (Some v) le h = below_more leaf_node m n v le h

pub leaves_longer : (m n : ℕ) (t : Term) → m ≤ n → HasLeavesBelow m t → HasLeavesBelow n t
leaves_longer m n t le h = λ i. longer m n (leaf_of t i) le (h i)

-- after the proposals they are below what the old ones and the proposals are below
pub below_applied : (n : ℕ) (t : Term) (used : List Used) (e : Edits) → AreBelow n used → edit_tree t used ≡ Ok e → HasLeavesBelow n t → HasLeavesBelow n e.tree
below_applied n t used e short h q =
    leaves_of (IsBelow n leaf_node) e.tree
    (leaves_applied (IsBelow n leaf_node) t used e (updates_below n used short) (adds_below n used short) h (leaves_from (IsBelow n leaf_node) t q))

-- and after a path, below what the old ones and the path's leaf are below
pub below_merge_path : (n : ℕ) (t : Term) (i : ℕ) (x : LeafNode) (keys : List (List ℕ)) → IsBelow n leaf_node x → HasLeavesBelow n t → HasLeavesBelow n (merge_path t i x keys)
below_merge_path n t i x keys short q =
    leaves_of (IsBelow n leaf_node) (merge_path t i x keys)
    (leaves_merge_path (IsBelow n leaf_node) t i x keys short (leaves_from (IsBelow n leaf_node) t q))

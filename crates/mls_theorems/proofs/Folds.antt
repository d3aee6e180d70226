-- What each edit keeps, a list of edits keeps.
use Rattle.std.proofs.Common.{◌≡◌, ℕ, ◌<◌, ◌≤◌, List, [], ◌∷◌, Some, Ok, sym, ◌∙◌, ap, subst}
use Rattle.std.specs.List.{AllByRecursion}
use Rattle.mls_leaf.specs.declared.leaf.LeafNode.{LeafNode}
use Rattle.mls_leaf.specs.declared.key_package.KeyPackage.{KeyPackage}
use Rattle.mls_tree_model.specs.Term.{Term, width}
use Rattle.mls_tree_model.specs.Edits.{put, add, place_in, remove}
use Rattle.mls_tree.specs.Tree.{max_leaves, add_answer, update_answer, remove_answer}
use Rattle.mls_model.specs.Commit.{Edits, apply_updates, apply_removes, apply_adds}
use Rattle.mls_wire.proofs.CheckLaws.{bind_ok}
use Rattle.mls_tree.proofs.Steps.{update_steps, remove_steps, add_steps}

-- the first of several updates, removes or adds, and the others
pub record UpdatesFirst (t : Term) (u : ℕ × LeafNode) (us : List (ℕ × LeafNode)) (s : Term) : Type 0 where
  pub inside : u.0 < width t
  pub others : apply_updates (put 0 t u.0 (Some u.1)) us ≡ Ok s

pub updates_first : (t : Term) (u : ℕ × LeafNode) (us : List (ℕ × LeafNode)) (s : Term) → apply_updates t (u ∷ us) ≡ Ok s → UpdatesFirst t u us s
unfolding apply_updates
updates_first t u us s h =
    let first = bind_ok (update_answer t u.0 u.1) (λ r. apply_updates r us) s h in
    let is = update_steps t u.0 u.1 first.0 first.1 in
    record { inside = is.inside; others = sym (ap (λ r. apply_updates r us) is.tree) ∙ first.2 }

pub updates_none : (t s : Term) → apply_updates t [] ≡ Ok s → t ≡ s
unfolding apply_updates
updates_none t s h = cc

pub record RemovesFirst (t : Term) (i : ℕ) (is : List ℕ) (s : Term) : Type 0 where
  pub inside : i < width t
  pub others : apply_removes (remove t i) is ≡ Ok s

pub removes_first : (t : Term) (i : ℕ) (is : List ℕ) (s : Term) → apply_removes t (i ∷ is) ≡ Ok s → RemovesFirst t i is s
unfolding apply_removes
removes_first t i is s h =
    let first = bind_ok (remove_answer t i) (λ r. apply_removes r is) s h in
    let is_one = remove_steps t i first.0 first.1 in
    record { inside = is_one.inside; others = sym (ap (λ r. apply_removes r is) is_one.tree) ∙ first.2 }

pub removes_none : (t s : Term) → apply_removes t [] ≡ Ok s → t ≡ s
unfolding apply_removes
removes_none t s h = cc

pub record AddsFirst (t : Term) (x : KeyPackage) (xs : List KeyPackage) (e : Edits) : Type 0 where
  pub within : width (add t x.leaf_node) ≤ max_leaves
  pub later : Edits
  pub others : apply_adds (add t x.leaf_node) xs ≡ Ok later
  pub tree : later.tree ≡ e.tree
  pub added : place_in t ∷ later.added ≡ e.added

pub adds_first : (t : Term) (x : KeyPackage) (xs : List KeyPackage) (e : Edits) → apply_adds t (x ∷ xs) ≡ Ok e → AddsFirst t x xs e
unfolding apply_adds
adds_first t x xs e h =
    let first = bind_ok (add_answer t x.leaf_node) _ e h in
    let is = add_steps t x.leaf_node first.0.0 first.0.1 first.1 in
    let later = bind_ok (apply_adds first.0.1 xs) _ e first.2 in
    let made : Edits = record { tree = later.0.tree; added = first.0.0 ∷ later.0.added } in
    let whole : made ≡ e = cc in
    record {
      within = is.within;
      later = later.0;
      others = sym (ap (λ r. apply_adds r xs) is.tree) ∙ later.1;
      tree = ap (λ (f : Edits). f.tree) whole;
      added = sym (ap (λ k. k ∷ later.0.added) is.place) ∙ ap (λ (f : Edits). f.added) whole;
    }

pub adds_none : (t : Term) (e : Edits) → apply_adds t [] ≡ Ok e → (t ≡ e.tree) × ([] ≡ e.added)
unfolding apply_adds
adds_none t e h =
    let made : Edits = record { tree = t; added = [] } in
    let whole : made ≡ e = cc in
    (ap (λ (f : Edits). f.tree) whole, ap (λ (f : Edits). f.added) whole)

-- ---- folds

module _ (P : Term → Type 0) where
  pub updates_keep : (Q : ℕ × LeafNode → Type 0) → ((t : Term) (u : ℕ × LeafNode) → Q u → u.0 < width t → P t → P (put 0 t u.0 (Some u.1))) → (us : List (ℕ × LeafNode)) → AllByRecursion Q us → (t s : Term) → apply_updates t us ≡ Ok s → P t → P s
  updates_keep Q step [] q t s h p = subst P (updates_none t s h) p
  updates_keep Q step (u ∷ us) q t s h p =
      let f = updates_first t u us s h in
      updates_keep Q step us q.1 (put 0 t u.0 (Some u.1)) s f.others (step t u q.0 f.inside p)

  pub removes_keep : (Q : ℕ → Type 0) → ((t : Term) (i : ℕ) → Q i → i < width t → P t → P (remove t i)) → (is : List ℕ) → AllByRecursion Q is → (t s : Term) → apply_removes t is ≡ Ok s → P t → P s
  removes_keep Q step [] q t s h p = subst P (removes_none t s h) p
  removes_keep Q step (i ∷ is) q t s h p =
      let f = removes_first t i is s h in
      removes_keep Q step is q.1 (remove t i) s f.others (step t i q.0 f.inside p)

  pub adds_keep : (Q : KeyPackage → Type 0) → ((t : Term) (x : KeyPackage) → Q x → width (add t x.leaf_node) ≤ max_leaves → P t → P (add t x.leaf_node)) → (xs : List KeyPackage) → AllByRecursion Q xs → (t : Term) (e : Edits) → apply_adds t xs ≡ Ok e → P t → P e.tree
  adds_keep Q step [] q t e h p = subst P (adds_none t e h).0 p
  adds_keep Q step (x ∷ xs) q t e h p =
      let f = adds_first t x xs e h in
      subst P f.tree (adds_keep Q step xs q.1 (add t x.leaf_node) f.later f.others (step t x q.0 f.within p))

pub all_any : {A : Type 0} (xs : List A) → AllByRecursion (λ x. Unit {0}) xs
all_any [] = tt
all_any (x ∷ xs) = (tt, all_any xs)

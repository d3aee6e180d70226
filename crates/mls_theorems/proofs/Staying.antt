-- Members that stay follow all edits of a commit.
use Rattle.std.proofs.Common.{◌≡◌, ℕ, ◌+◌, ◌<◌, ◌≤◌, ◌==◌, nat_eq, Bool, true, false, ◌||◌, if◌then◌else◌, List, [], ◌∷◌, ◌++◌, map, Some, Ok, refl, sym, ◌∙◌, ap, subst, arith, ne_eqb, eqb-true, eq-eqb}
use Rattle.std.proofs.lemmas.Bool.{eqb-false, true≢false, and_parts}
use Rattle.std.specs.List.{AllByRecursion}
use Rattle.mls_leaf.specs.declared.leaf.LeafNode.{LeafNode}
use Rattle.mls_leaf.specs.declared.key_package.KeyPackage.{KeyPackage}
use Rattle.mls_tree_model.specs.Term.{Term, width, leaf_of}
use Rattle.mls_tree_model.specs.Sets.{has, count, is_distinct}
use Rattle.mls_tree_model.specs.Way.{way}
use Rattle.mls_tree_model.specs.Edits.{put, add, place_in, remove}
use Rattle.mls_tree_model.proofs.Equations.{update_is}
use Rattle.mls_tree_model.proofs.SetLaws.{has-append}
use Rattle.mls_tree_model.proofs.ShapeLaws.{width-put}
use Rattle.mls_tree.specs.Tree.{max_leaves}
use Rattle.mls_treekem_model.specs.Laws.{AreTwo}
use Rattle.mls_treekem_model.proofs.OnePassLaws.{follows_refl, follows_trans, blank_above}
use Rattle.mls_treekem_model.proofs.WholeLaws.{follows_update, follows_remove, follows_add}
use Rattle.mls_suite.specs.Crypto.{Crypto}
use Rattle.mls_model.specs.PublicState.{PublicState, Used}
use Rattle.mls_model.specs.Proposals.{updates, updated_leaves, removed_leaves, adds}
use Rattle.mls_model.specs.Commit.{Edits, apply_updates, apply_removes, apply_adds}
use Rattle.mls_theorems.specs.EditLaws.{IsEdited}
use Rattle.mls_theorems.specs.CommitLaws.{IsUntouched, EditsFollow, EditsFollowCommitter, IsRenewed, EditsRenew}
use Rattle.mls_theorems.proofs.Inversion.{edited_steps}
use Rattle.mls_tree_model.proofs.TakenLaws.{Taken, taken_at, at_taken, some_at, taken_in, taken_some, taken_put, put_taken, taken_remove, place_free, taken_add}
use Rattle.mls_treekem_model.specs.Tame.{TameAt, parent_above, TameEdits}
use Rattle.mls_theorems.proofs.Folds.{updates_first, adds_first, adds_none, updates_keep, removes_keep, adds_keep, all_any}

-- ---- lists of numbers

-- a number that isn't in a list: not its first, nor in the rest
not_first : (b : Bool) (x j : ℕ) (rest : Bool) → (x == j) ≡ b → (b || rest) ≡ false → (j ≡ x → ⊥) × (rest ≡ false)
not_first true x j rest e k = absurd (true≢false k)
not_first false x j rest e k = (λ q. eqb-false x j e (sym q), k)

pub none_is : (xs : List ℕ) (j : ℕ) → has xs j ≡ false → AllByRecursion (λ i. j ≡ i → ⊥) xs
unfolding has
none_is [] j h = tt
none_is (x ∷ xs) j h = let p = not_first (x == j) x j (has xs j) refl h in (p.0, none_is xs j p.1)

pub none_of_map : {A : Type 0} (f : A → ℕ) (xs : List A) (j : ℕ) → has (map f xs) j ≡ false → AllByRecursion (λ x. j ≡ f x → ⊥) xs
unfolding has
none_of_map f [] j h = tt
none_of_map f (x ∷ xs) j h = let p = not_first (f x == j) (f x) j (has (map f xs) j) refl h in (p.0, none_of_map f xs j p.1)

-- what is counted nowhere isn't there
uncounted_first : (b : Bool) (n : ℕ) (rest : Bool) → ((if b then 1 else 0) + n == 0) ≡ true → ((n == 0) ≡ true → rest ≡ false) → (b || rest) ≡ false
uncounted_first true n rest h k = let z = eqb-true (1 + n) 0 h in absurd (omega arith)
uncounted_first false n rest h k = k (eq-eqb n 0 (let z = eqb-true (0 + n) 0 h in omega arith))

uncounted : (xs : List ℕ) (j : ℕ) → (count nat_eq j xs == 0) ≡ true → has xs j ≡ false
unfolding has count
uncounted [] j h = refl
uncounted (x ∷ xs) j h = uncounted_first (nat_eq x j) (count nat_eq j xs) (has xs j) h (uncounted xs j)

has_parts : (xs ys : List ℕ) (j : ℕ) → has (xs ++ ys) j ≡ false → (has xs j ≡ false) × (has ys j ≡ false)
has_parts xs ys j h = by_test (has xs j) refl (sym (has-append xs ys j) ∙ h)
  where
    by_test : (b : Bool) → has xs j ≡ b → (b || has ys j) ≡ false → (has xs j ≡ false) × (has ys j ≡ false)
    by_test true e k = absurd (true≢false k)
    by_test false e k = (e, k)

-- ---- one that isn't changed

-- it has its leaf still, and followed the edits since a tree
pub record IsStill (j : ℕ) (x : LeafNode) (start t : Term) : Type 0 where
  pub taken : Taken j x t
  pub follows : TameEdits j start t

module _ (j : ℕ) (x : LeafNode) (start : Term) where
  pub still_here : Taken j x start → IsStill j x start start
  still_here h = record { taken = h; follows = follows_refl j start }

  two_of : (t : Term) (i : ℕ) → i < width t → (j ≡ i → ⊥) → Taken j x t → AreTwo 0 t i j
  two_of t i inside ne h = record { first = record { low = omega arith; high = omega arith }; second = taken_in t j x h; apart = ne }

  still_updated : (t : Term) (u : ℕ × LeafNode) → (j ≡ u.0 → ⊥) → u.0 < width t → IsStill j x start t → IsStill j x start (put 0 t u.0 (Some u.1))
  still_updated t u ne inside s =
      record {
        taken = taken_put t u.0 j x (Some u.1) inside ne s.taken;
        follows = follows_trans j start t (put 0 t u.0 (Some u.1)) s.follows (subst (TameEdits j t) (update_is t u.0 u.1) (follows_update t u.0 j u.1 (two_of t u.0 inside ne s.taken)));
      }

  still_removed : (t : Term) (i : ℕ) → (j ≡ i → ⊥) → i < width t → IsStill j x start t → IsStill j x start (remove t i)
  still_removed t i ne inside s =
      record {
        taken = taken_remove t i j x inside ne s.taken;
        follows = follows_trans j start t (remove t i) s.follows (follows_remove t i j (two_of t i inside ne s.taken) (taken_some t j x s.taken));
      }

  still_added : (t : Term) (y : KeyPackage) → Unit {0} → width (add t y.leaf_node) ≤ max_leaves → IsStill j x start t → IsStill j x start (add t y.leaf_node)
  still_added t y any within s =
      record {
        taken = taken_add t j x y.leaf_node s.taken;
        follows = follows_trans j start t (add t y.leaf_node) s.follows (follows_add t j y.leaf_node (taken_in t j x s.taken) (taken_some t j x s.taken));
      }

  pub still_after_updates : (us : List (ℕ × LeafNode)) → has (map (λ (u : ℕ × LeafNode). u.0) us) j ≡ false → (t s : Term) → apply_updates t us ≡ Ok s → IsStill j x start t → IsStill j x start s
  still_after_updates us none t s h k = updates_keep (IsStill j x start) (λ u. j ≡ u.0 → ⊥) still_updated us (none_of_map (λ (u : ℕ × LeafNode). u.0) us j none) t s h k

  pub still_after_removes : (is : List ℕ) → has is j ≡ false → (t s : Term) → apply_removes t is ≡ Ok s → IsStill j x start t → IsStill j x start s
  still_after_removes is none t s h k = removes_keep (IsStill j x start) (λ i. j ≡ i → ⊥) still_removed is (none_is is j none) t s h k

  pub still_after_adds : (xs : List KeyPackage) (t : Term) (e : Edits) → apply_adds t xs ≡ Ok e → IsStill j x start t → IsStill j x start e.tree
  still_after_adds xs t e h k = adds_keep (IsStill j x start) (λ y. Unit {0}) still_added xs (all_any xs) t e h k

-- nobody is added at a leaf that is taken
pub not_added : (xs : List KeyPackage) (j : ℕ) (x : LeafNode) (t : Term) (e : Edits) → apply_adds t xs ≡ Ok e → Taken j x t → has e.added j ≡ false
unfolding has
not_added [] j x t e h k = sym (ap (λ is. has is j) (adds_none t e h).1)
not_added (y ∷ ys) j x t e h k =
    let f = adds_first t y ys e h in
    let here : (place_in t == j) ≡ false = ne_eqb (place_in t) j (λ q. place_free t j x k (sym q)) in
    let rest = not_added ys j x (add t y.leaf_node) f.later f.others (taken_add t j x y.leaf_node k) in
    sym (ap (λ is. has is j) f.added) ∙ rw here rest

pub kept_by : (c : Crypto) (p : PublicState) (i : ℕ) (used : List Used) (e : Edits) (j : ℕ) (x : LeafNode) → IsEdited c p i used e → leaf_of p.tree j ≡ Some x → has (updated_leaves used) j ≡ false → has (removed_leaves used) j ≡ false → IsUntouched j p.tree e
unfolding updated_leaves
kept_by c p i used e j x s at u r =
    let start = still_here j x p.tree (taken_at p.tree j x at) in
    let one = still_after_updates j x p.tree (updates used) u p.tree s.after_updates s.updating start in
    let two = still_after_removes j x p.tree (removed_leaves used) r s.after_updates s.after_removes s.removing one in
    let three = still_after_adds j x p.tree (adds used) s.after_removes e s.adding two in
    record {
      follows = three.follows;
      leaf = at_taken e.tree j x three.taken ∙ sym at;
      old = not_added (adds used) j x s.after_removes e s.adding two.taken;
    }

pub edits_follow : EditsFollow
edits_follow c p i used e j h some u r =
    let x = some_at (leaf_of p.tree j) some in
    kept_by c p i used e j x.0 (edited_steps c p i used e h) x.1 u r

pub edits_follow_committer : EditsFollowCommitter
edits_follow_committer c p i used e h some =
    let s = edited_steps c p i used e h in
    let x = some_at (leaf_of p.tree i) some in
    kept_by c p i used e i x.0 s x.1 s.not_updated s.not_removed

-- ---- one that is updated

-- so what came before doesn't matter
follows_put : (t s : Term) (j : ℕ) (x : LeafNode) → j < width t → j < width s → TameEdits j (put 0 t j (Some x)) (put 0 s j (Some x))
follows_put t s j x one two =
    record {
      above = λ n. subst (TameAt j (parent_above n (way 0 (put 0 t j (Some x)) j))) (sym (blank_above 0 s j (Some x) n)) tt;
      leaf = (put_taken t j x one).leaf ∙ sym (put_taken s j x two).leaf;
    }

-- each update of a list, where no leaf is updated twice
record IsDone (t s : Term) (u : ℕ × LeafNode) : Type 0 where
  inside : u.0 < width t
  still : IsStill u.0 u.1 (put 0 t u.0 (Some u.1)) s

done_before : (t s : Term) (i : ℕ) (x : LeafNode) (us : List (ℕ × LeafNode)) → AllByRecursion (IsDone (put 0 t i (Some x)) s) us → AllByRecursion (IsDone t s) us
done_before t s i x [] h = tt
done_before t s i x (u ∷ us) h =
    let w = width-put 0 t i (Some x) in
    let d = h.0 in
    let low : u.0 < width t = let k = d.inside in omega arith in (
      record {
        inside = low;
        still = record {
          taken = d.still.taken;
          follows = follows_trans u.0 (put 0 t u.0 (Some u.1)) (put 0 (put 0 t i (Some x)) u.0 (Some u.1)) s (follows_put t (put 0 t i (Some x)) u.0 u.1 low d.inside) d.still.follows;
        };
      },
      done_before t s i x us h.1,
    )

updates_done : (more : List ℕ) (us : List (ℕ × LeafNode)) (t s : Term) → is_distinct nat_eq (map (λ (u : ℕ × LeafNode). u.0) us ++ more) ≡ true → apply_updates t us ≡ Ok s → AllByRecursion (IsDone t s) us
unfolding is_distinct
updates_done more [] t s apart h = tt
updates_done more (u ∷ us) t s apart h =
    let a = and_parts _ (is_distinct nat_eq (map (λ (u : ℕ × LeafNode). u.0) us ++ more)) apart in
    let none = (has_parts (map (λ (u : ℕ × LeafNode). u.0) us) more u.0 (uncounted _ u.0 a.0)).0 in
    let f = updates_first t u us s h in
    let start = still_here u.0 u.1 (put 0 t u.0 (Some u.1)) (put_taken t u.0 u.1 f.inside) in (
      record { inside = f.inside; still = still_after_updates u.0 u.1 (put 0 t u.0 (Some u.1)) us none (put 0 t u.0 (Some u.1)) s f.others start },
      done_before t s u.0 u.1 us (updates_done more us (put 0 t u.0 (Some u.1)) s a.1 f.others),
    )

-- and none of those is removed
not_removed : (more : List ℕ) (us : List (ℕ × LeafNode)) → is_distinct nat_eq (map (λ (u : ℕ × LeafNode). u.0) us ++ more) ≡ true → AllByRecursion (λ (u : ℕ × LeafNode). has more u.0 ≡ false) us
unfolding is_distinct
not_removed more [] apart = tt
not_removed more (u ∷ us) apart =
    let a = and_parts _ (is_distinct nat_eq (map (λ (u : ℕ × LeafNode). u.0) us ++ more)) apart in
    ((has_parts (map (λ (u : ℕ × LeafNode). u.0) us) more u.0 (uncounted _ u.0 a.0)).1, not_removed more us a.1)

module _ (c : Crypto) (p : PublicState) (i : ℕ) (used : List Used) (e : Edits) (s : IsEdited c p i used e) where
  renewed : (u : ℕ × LeafNode) → IsDone p.tree s.after_updates u → has (removed_leaves used) u.0 ≡ false → IsRenewed p.tree e u
  renewed u d r =
      let start = put 0 p.tree u.0 (Some u.1) in
      let two = still_after_removes u.0 u.1 (put 0 p.tree u.0 (Some u.1)) (removed_leaves used) r s.after_updates s.after_removes s.removing d.still in
      let three = still_after_adds u.0 u.1 (put 0 p.tree u.0 (Some u.1)) (adds used) s.after_removes e s.adding two in
      record {
        follows = three.follows;
        leaf = at_taken e.tree u.0 u.1 three.taken;
        old = not_added (adds used) u.0 u.1 s.after_removes e s.adding two.taken;
      }

  all_renewed : (us : List (ℕ × LeafNode)) → AllByRecursion (IsDone p.tree s.after_updates) us → AllByRecursion (λ (u : ℕ × LeafNode). has (removed_leaves used) u.0 ≡ false) us → AllByRecursion (IsRenewed p.tree e) us
  all_renewed [] d r = tt
  all_renewed (u ∷ us) d r = (renewed u d.0 r.0, all_renewed us d.1 r.1)

pub edits_renew : EditsRenew
unfolding updated_leaves
edits_renew c p i used e h =
    let s = edited_steps c p i used e h in
    all_renewed c p i used e s (updates used) (updates_done (removed_leaves used) (updates used) p.tree s.after_updates s.apart s.updating) (not_removed (removed_leaves used) (updates used) s.apart)

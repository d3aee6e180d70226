-- Members that are added.
use Rattle.std.proofs.Common.{◌≡◌, ℕ, suc, ◌≤◌, List, [], ◌∷◌, length, Ok, sym, ◌∙◌, ap, subst}
use Rattle.std.specs.List.{AllByRecursion, zip}
use Rattle.mls_leaf.specs.declared.leaf.LeafNode.{LeafNode}
use Rattle.mls_leaf.specs.declared.key_package.KeyPackage.{KeyPackage}
use Rattle.mls_tree_model.specs.Term.{Term, width, leaf_of}
use Rattle.mls_tree_model.specs.Way.{way}
use Rattle.mls_tree_model.specs.Edits.{add, place_in}
use Rattle.mls_tree.specs.Tree.{max_leaves}
use Rattle.mls_treekem_model.specs.Join.{AllList}
use Rattle.mls_treekem_model.proofs.WholeLaws.{added_is_listed, add_keeps_listed}
use Rattle.mls_model.specs.Proposals.{updates, updated_leaves, removed_leaves, adds}
use Rattle.mls_model.specs.Commit.{Edits, apply_adds}
use Rattle.mls_theorems.specs.CommitLaws.{IsJoiner, EditsAdd, AddsCounted}
use Rattle.mls_theorems.proofs.Inversion.{edited_steps}
use Rattle.mls_tree_model.proofs.TakenLaws.{Taken, taken_at, at_taken, some_at, taken_in, taken_some, place_free, taken_add, add_taken}
use Rattle.mls_theorems.proofs.Folds.{adds_first, adds_none, adds_keep, all_any}
use Rattle.mls_theorems.proofs.Staying.{still_here, still_after_updates, still_after_removes}

-- a leaf that each parent over it lists
record IsListed (j : ℕ) (x : LeafNode) (t : Term) : Type 0 where
  taken : Taken j x t
  listed : AllList j (way 0 t j)

listed_added : (j : ℕ) (x : LeafNode) (t : Term) (y : KeyPackage) → Unit {0} → width (add t y.leaf_node) ≤ max_leaves → IsListed j x t → IsListed j x (add t y.leaf_node)
listed_added j x t y any within h =
    record {
      taken = taken_add t j x y.leaf_node h.taken;
      listed = add_keeps_listed t j y.leaf_node (taken_in t j x h.taken) (taken_some t j x h.taken) h.listed;
    }

joiner_of : (i : ℕ) (e : Edits) (k : KeyPackage) (j : ℕ) → (i ≡ j → ⊥) → IsListed j k.leaf_node e.tree → IsJoiner i e (k, j)
joiner_of i e k j ne h = record { leaf = at_taken e.tree j k.leaf_node h.taken; listed = h.listed; other = λ q. ne (sym q) }

joiner_tree : (i : ℕ) (e f : Edits) → e.tree ≡ f.tree → (k : KeyPackage × ℕ) → IsJoiner i e k → IsJoiner i f k
joiner_tree i e f q k h =
    record {
      leaf = ap (λ t. leaf_of t k.1) (sym q) ∙ h.leaf;
      listed = subst (λ t. AllList k.1 (way 0 t k.1)) q h.listed;
      other = h.other;
    }

all_joiners : (i : ℕ) (e f : Edits) → e.tree ≡ f.tree → (ks : List (KeyPackage × ℕ)) → AllByRecursion (IsJoiner i e) ks → AllByRecursion (IsJoiner i f) ks
all_joiners i e f q [] h = tt
all_joiners i e f q (k ∷ ks) h = (joiner_tree i e f q k h.0, all_joiners i e f q ks h.1)

adds_join : (i : ℕ) (x : LeafNode) (ks : List KeyPackage) (t : Term) (e : Edits) → Taken i x t → apply_adds t ks ≡ Ok e → AllByRecursion (IsJoiner i e) (zip ks e.added)
adds_join i x [] t e own h = tt
adds_join i x (k ∷ ks) t e own h =
    let f = adds_first t k ks e h in
    let here : IsListed (place_in t) k.leaf_node (add t k.leaf_node) = record { taken = add_taken t k.leaf_node; listed = added_is_listed t k.leaf_node } in
    let after = adds_keep (IsListed (place_in t) k.leaf_node) (λ y. Unit {0}) (listed_added (place_in t) k.leaf_node) ks (all_any ks) (add t k.leaf_node) f.later f.others here in
    let first = joiner_of i e k (place_in t) (place_free t i x own) (subst (IsListed (place_in t) k.leaf_node) f.tree after) in
    let rest = adds_join i x ks (add t k.leaf_node) f.later (taken_add t i x k.leaf_node own) f.others in
    subst (λ js. AllByRecursion (IsJoiner i e) (zip (k ∷ ks) js)) f.added (first, all_joiners i f.later e f.tree (zip ks f.later.added) rest)

pub edits_add : EditsAdd
unfolding updated_leaves
edits_add c p i used e some h =
    let s = edited_steps c p i used e h in
    let x = some_at (leaf_of p.tree i) some in
    let start = still_here i x.0 p.tree (taken_at p.tree i x.0 x.1) in
    let one = still_after_updates i x.0 p.tree (updates used) s.not_updated p.tree s.after_updates s.updating start in
    let two = still_after_removes i x.0 p.tree (removed_leaves used) s.not_removed s.after_updates s.after_removes s.removing one in
    adds_join i x.0 (adds used) s.after_removes e two.taken s.adding

count_added : (ks : List KeyPackage) (t : Term) (e : Edits) → apply_adds t ks ≡ Ok e → length e.added ≡ length ks
count_added [] t e h = sym (ap length (adds_none t e h).1)
count_added (k ∷ ks) t e h =
    let f = adds_first t k ks e h in
    sym (ap length f.added) ∙ ap suc (count_added ks (add t k.leaf_node) f.later f.others)

pub adds_counted : AddsCounted
adds_counted c p i used e h = let s = edited_steps c p i used e h in count_added (adds used) s.after_removes e s.adding

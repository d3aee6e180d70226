-- The keys that a joiner of a made commit takes.
use Rattle.std.proofs.Common.{◌≡◌, ℕ, ◌+◌, ◌<◌, true, List, [], reverse, Some, None, Ok, refl, sym, ap, subst, ◌∙◌, inl, inr}
use Rattle.mls_leaf.specs.declared.leaf.LeafNode.{LeafNode}
use Rattle.mls_suite.specs.Crypto.{Crypto}
use Rattle.mls_tree_model.specs.Laws.{IsIn}
use Rattle.mls_tree_model.specs.Merge.{merge_path}
use Rattle.mls_tree_model.proofs.MergeLaws.{width-merge}
use Rattle.mls_tree_model.specs.Term.{Term, width}
use Rattle.mls_tree_model.specs.Way.{way}
use Rattle.mls_treekem_model.specs.Join.{take_answer, secret_for, has_due}
use Rattle.mls_treekem_model.proofs.JoinLaws.{leaf_due, take_inside}
use Rattle.mls_treekem_model.specs.Keys.{PrivateKeys}
use Rattle.mls_treekem_model.specs.Make.{Climb}
use Rattle.mls_treekem_model.proofs.WholeLaws.{taken_agrees}
use Rattle.mls_treekem_model.specs.Seeds.{path_seed}
use Rattle.mls_treekem_model.specs.Chain.{keys_of_path}
use Rattle.mls_model.specs.Commit.{apply_path_if}
use Rattle.mls_model.specs.Member.{with_keys}
use Rattle.mls_model.specs.Make.{MadePath, committed_leaf, no_path, path_secret_for}
use Rattle.mls_model.specs.Join.{joined_keys}
use Rattle.mls_theorems.proofs.Opened.{one_tree}
use Rattle.mls_theorems.proofs.Pends.{merge_is, merged_alone}
use Rattle.mls_theorems.specs.JoinerKeys.{TakesKeys, KeysTaken}

abbrev alone : ℕ → List ℕ → PrivateKeys
alone j own = record { leaf = j; own = own; above = [] }

by_secret : (c : Crypto) (t : Term) (i j : ℕ) (own secret : List ℕ) (m : Climb) → take_answer c t i j own secret ≡ Ok m → TakesKeys c t i j own (Some secret)
unfolding joined_keys
by_secret c t i j own secret m e = (with_keys (alone j own) m.keys, rw e refl)

by_leaf : (c : Crypto) (t : Term) (i j : ℕ) (own : List ℕ) → has_due t (alone j own) ≡ true → TakesKeys c t i j own None
unfolding joined_keys
by_leaf c t i j own e = (alone j own, rw e refl)

merged_inside : (t : Term) (i : ℕ) (x : LeafNode) (keys : List (List ℕ)) → IsIn 0 t i → IsIn 0 (merge_path t i x keys) i
unfolding merge_path
merged_inside t i x keys here = let high : i < 0 + width t = here.high in record { low = here.low; high = rw (width-merge 0 t i (reverse keys) [] x) high }

pub keys_taken : KeysTaken
unfolding no_path
keys_taken c m carried e seed path t j y own (inl new) h two leaf public lists =
    let i : ℕ = m.keys.leaf in
    let start : List ℕ = path_seed seed in
    let x : LeafNode = committed_leaf c m e new.old seed in
    let u : Term = merge_path e.tree i x (keys_of_path c e.tree i start) in
    let tree : u ≡ t = merge_is e.tree i x (keys_of_path c e.tree i start) new.tree new.tree_is ∙ sym (one_tree c m carried e seed path t new h) in
    let k = taken_agrees c e.tree i j x y start own two leaf public lists in
    let answer : take_answer c u i j own (secret_for (way 0 e.tree i) j start) ≡ Ok k.0 = take_inside c u i j own (secret_for (way 0 e.tree i) j start) (merged_inside e.tree i x (keys_of_path c e.tree i start) two.first) ∙ k.1 in
    subst (λ (s : Term). TakesKeys c s i j own (path_secret_for path.path m e seed j)) tree
    (rw new.path_is (by_secret c u i j own (secret_for (way 0 e.tree i) j start) k.0 answer))
keys_taken c m carried e seed path t j y own (inr none) h two leaf public lists =
    let i : ℕ = m.keys.leaf in
    let tree : e.tree ≡ t = merged_alone c m.public i e t (sym (ap (λ (x : MadePath). apply_path_if c m.public i e x.path) none) ∙ h) in
    let due : has_due e.tree (alone j own) ≡ true = (leaf_due j (way 0 e.tree j) own).1 lists in
    subst (λ (s : Term). TakesKeys c s i j own (path_secret_for path.path m e seed j)) tree
    (subst (λ (x : MadePath). TakesKeys c e.tree i j own (path_secret_for x.path m e seed j)) (sym none) (by_leaf c e.tree i j own due))

-- What is made of a path, by what the merge of its leaf and keys answered.
use Rattle.std.proofs.Common.{◌≡◌, ℕ, List, Some, None, Result, Ok, Err, ap, sym, subst, ◌∙◌}
use Rattle.std.specs.Prelude.{IfOk}
use Rattle.mls_wire.specs.Checks.{Answers, passed}
use Rattle.mls_leaf.specs.Leaf.{leaf_node}
use Rattle.mls_leaf.specs.declared.leaf.LeafNode.{LeafNode}
use Rattle.mls_suite.specs.Crypto.{Crypto}
use Rattle.mls_checks.specs.Checks.{replacement_checks}
use Rattle.mls_checks.specs.declared.checks.LeafUse.TheVariants as replaced_for
use Rattle.mls_tree_model.specs.Term.{Term, leaf_of}
use Rattle.mls_tree_model.specs.Way.{way}
use Rattle.mls_tree.specs.Paths.{merge_answer}
use Rattle.mls_treekem_model.specs.Keys.{PrivateKeys, all_keys, keys_on}
use Rattle.mls_treekem_model.specs.Height.{HasFollowed}
use Rattle.mls_treekem_model.specs.Make.{made_keys}
use Rattle.mls_treekem_model.specs.Seeds.{path_seed}
use Rattle.mls_public_group.specs.Short.{IsBelow, HasLeavesBelow}
use Rattle.mls_model.specs.PublicState.{PublicState}
use Rattle.mls_model.specs.Candidate.{leaf_key_of}
use Rattle.mls_update_path.specs.Parts.{path_public_keys, leaf_with, leaf_and_tree_of}
use Rattle.mls_update_path.proofs.Drafts.{followed_made}
use Rattle.mls_update_path.proofs.Leaves.{leaves_below}
use Rattle.mls_update_path.proofs.Merges.{merge_is, merge_fails, merges}

-- a result has these parts: a leaf, a tree, private keys; an error has a number
module _ {B E : Type 0} (leaf_in : B → LeafNode) (tree_in : B → Term) (keys_in : B → PrivateKeys) (number : E → ℕ) (c : Crypto) (p : PublicState) (signing : List ℕ) (i : ℕ) (t : Term) (seed : List ℕ) (leaf : LeafNode) (d : Result Term ℕ) (is : d ≡ merge_answer t i leaf (path_public_keys c i t seed)) where
  pub answers : (old : LeafNode) (r : Result B E) → leaf_of p.tree i ≡ Some old → leaf ≡ leaf_with c signing p.context.group_id i t old seed → replacement_checks c leaf old replaced_for.Commit p.context.group_id i ≡ Ok passed
      → Answers tree_in number d r → IfOk r (λ x. leaf_in x ≡ leaf) → Answers (λ x. (leaf_in x, tree_in x)) number (leaf_and_tree_of c p signing i t seed) r
  answers old (Ok x) at made checked merged same =
      merges c p signing i t seed old leaf at made (tree_in x) checked (sym is ∙ merged) ∙ ap (λ l. Ok (l, tree_in x)) (sym same)
  answers old (Err e) at made checked merged same = λ other. merge_fails c p signing i t seed old leaf at made (number e) checked (sym is ∙ merged other)

  pub short : (r : Result B E) → Answers tree_in number d r → IfOk r (λ x. leaf_in x ≡ leaf)
      → IfOk r (λ x. (n : ℕ) → HasLeavesBelow n t → IsBelow n leaf_node (leaf_in x) → HasLeavesBelow n (tree_in x))
  short (Ok x) merged same = λ n has below. leaves_below n t i leaf (path_public_keys c i t seed) (tree_in x) (sym is ∙ merged) has (subst (λ l. IsBelow n leaf_node l) same below)
  short (Err e) merged same = tt

  pub keys : (old : PrivateKeys) (r : Result B E) → c.public (leaf_key_of c seed) ≡ leaf.encryption_key → old.leaf ≡ i → keys_on t old ≡ made_keys c (way 0 t i) (path_seed seed) (leaf_key_of c seed)
      → Answers tree_in number d r → IfOk r (λ x. HasFollowed None (tree_in x) old (keys_in x))
      → IfOk r (λ x. all_keys (keys_in x) ≡ made_keys c (way 0 t i) (path_seed seed) (leaf_key_of c seed))
  keys old (Ok x) own at made merged followed =
      followed_made c t (tree_in x) i leaf (path_seed seed) (leaf_key_of c seed) old (keys_in x) (merge_is t i leaf (path_public_keys c i t seed) (tree_in x) (sym is ∙ merged)) own at made followed
  keys old (Err e) own at made merged followed = tt

-- The new leaf and the tree with the path, as code makes them.
use Rattle.std.proofs.Common.{◌≡◌, ℕ, ◌≤◌, List, length, Some, Result, Ok, Err, refl, ap, ap₂, sym, ◌∙◌, inl, inr, arith}
use Rattle.mls_wire.specs.Checks.{Passed, passed}
use Rattle.mls_wire.proofs.CheckLaws.{then_ok}
use Rattle.mls_leaf.specs.declared.leaf.LeafNode.{LeafNode}
use Rattle.mls_leaf.specs.declared.leaf.LeafSource.TheVariants as leaf_node_source
use Rattle.mls_suite.specs.Crypto.{Crypto}
use Rattle.mls_checks.specs.Checks.{replacement_checks}
use Rattle.mls_checks.specs.declared.checks.LeafUse.TheVariants as replaced_for
use Rattle.mls_tree_model.specs.Term.{Term, leaf_of}
use Rattle.mls_tree_model.specs.Way.{path_length}
use Rattle.mls_tree_model.specs.Merge.{merge_path, path_parent_hash}
use Rattle.mls_tree_model.proofs.LengthLaws.{none_or_long}
use Rattle.mls_tree.specs.Paths.{merge_checks, merge_answer}
use Rattle.mls_treekem_model.specs.Seeds.{path_seed}
use Rattle.mls_treekem_model.specs.Chain.{keys_of_path}
use Rattle.mls_treekem.specs.Secrets.{AreOfChain, public_keys}
use Rattle.mls_treekem.specs.declared.secrets.PathSecrets.{PathSecrets}
use Rattle.mls_model.specs.PublicState.{PublicState}
use Rattle.mls_model.specs.Candidate.{leaf_key_of, unsigned_leaf, signed_leaf}
use Rattle.mls_update_path.specs.Parts.{path_public_keys, leaf_with, leaf_and_tree_of}

pub hash_short : (t : Term) (i : ℕ) (keys : List (List ℕ)) → length (path_parent_hash t i keys) ≤ 32
hash_short t i keys = elim (none_or_long t i keys) [
  | inl e ↦ omega arith
  | inr e ↦ omega arith
]

pub keys_are : (c : Crypto) (t : Term) (i : ℕ) (start : List ℕ) (m : PathSecrets) (keys : List (List ℕ)) → AreOfChain c start (path_length 0 t i) m → keys ≡ public_keys m → keys ≡ keys_of_path c t i start
keys_are c t i start m keys h e = e ∙ h.pairs.public

pub merge_is : (t : Term) (i : ℕ) (x : LeafNode) (keys : List (List ℕ)) (u : Term) → merge_answer t i x keys ≡ Ok u → u ≡ merge_path t i x keys
unfolding merge_answer
merge_is t i x keys u e = let s = then_ok (merge_checks t i x keys) (Ok (merge_path t i x keys)) u e in let f = s.1 in cc

-- ---- the new leaf

module _ (c : Crypto) (signing : List ℕ) (i : ℕ) (t : Term) (old : LeafNode) (seed : List ℕ) where
  pub leaf_is : (group group' hash : List ℕ) (leaf : LeafNode) → group' ≡ group → hash ≡ path_parent_hash t i (path_public_keys c i t seed)
      → leaf ≡ signed_leaf c signing group' i (unsigned_leaf c (c.public (leaf_key_of c seed)) old.signature_key old.credential (leaf_node_source.Commit hash))
      → leaf ≡ leaf_with c signing group i t old seed
  unfolding leaf_with
  leaf_is group group' hash leaf g h e =
      e ∙ ap₂ (λ a b. signed_leaf c signing a i (unsigned_leaf c (c.public (leaf_key_of c seed)) old.signature_key old.credential (leaf_node_source.Commit b))) g h

  pub leaf_key_is : (group : List ℕ) (leaf : LeafNode) → leaf ≡ leaf_with c signing group i t old seed → c.public (leaf_key_of c seed) ≡ leaf.encryption_key
  unfolding leaf_with signed_leaf unsigned_leaf
  leaf_key_is group leaf e = ap (λ (x : LeafNode). x.encryption_key) (sym e)

-- the parent hash that code asked for, of a copy of the tree
pub hash_of : (c : Crypto) (t u : Term) (i : ℕ) (seed : List ℕ) (m : PathSecrets) (keys slice : List (List ℕ)) (hash : List ℕ) → u ≡ t → AreOfChain c (path_seed seed) (path_length 0 t i) m → keys ≡ public_keys m → slice ≡ keys → hash ≡ path_parent_hash u i slice
    → hash ≡ path_parent_hash t i (path_public_keys c i t seed)
hash_of c t u i seed m keys slice hash copied chained are same is =
    is ∙ ap₂ (λ (v : Term) (ks : List (List ℕ)). path_parent_hash v i ks) copied (same ∙ keys_are c t i (path_seed seed) m keys chained are)

-- ---- the chain of checks

module _ (c : Crypto) (p : PublicState) (signing : List ℕ) (i : ℕ) (t : Term) (seed : List ℕ) (old leaf : LeafNode) (at : leaf_of p.tree i ≡ Some old) (is : leaf ≡ leaf_with c signing p.context.group_id i t old seed) where
  check_is : (r : Result Passed ℕ) → replacement_checks c leaf old replaced_for.Commit p.context.group_id i ≡ r → replacement_checks c (leaf_with c signing p.context.group_id i t old seed) old replaced_for.Commit p.context.group_id i ≡ r
  check_is r e = ap (λ l. replacement_checks c l old replaced_for.Commit p.context.group_id i) (sym is) ∙ e

  merge_with : (r : Result Term ℕ) → merge_answer t i leaf (path_public_keys c i t seed) ≡ r → merge_answer t i (leaf_with c signing p.context.group_id i t old seed) (path_public_keys c i t seed) ≡ r
  merge_with r e = ap (λ l. merge_answer t i l (path_public_keys c i t seed)) (sym is) ∙ e

  pub leaf_fails : (n : ℕ) → replacement_checks c leaf old replaced_for.Commit p.context.group_id i ≡ Err n → leaf_and_tree_of c p signing i t seed ≡ Err n
  unfolding leaf_and_tree_of
  leaf_fails n e = rw (at, check_is (Err n) e) refl

  pub merge_fails : (n : ℕ) → replacement_checks c leaf old replaced_for.Commit p.context.group_id i ≡ Ok passed → merge_answer t i leaf (path_public_keys c i t seed) ≡ Err n → leaf_and_tree_of c p signing i t seed ≡ Err n
  unfolding leaf_and_tree_of
  merge_fails n e f = rw (at, check_is (Ok passed) e, merge_with (Err n) f) refl

  pub merges : (u : Term) → replacement_checks c leaf old replaced_for.Commit p.context.group_id i ≡ Ok passed → merge_answer t i leaf (path_public_keys c i t seed) ≡ Ok u → leaf_and_tree_of c p signing i t seed ≡ Ok (leaf, u)
  unfolding leaf_and_tree_of
  merges u e f = rw (at, check_is (Ok passed) e, merge_with (Ok u) f) (ap (λ l. Ok (l, u)) (sym is))

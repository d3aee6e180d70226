-- A leaf that a committer made and signed for itself: only its key can fail a check.
use Rattle.std.proofs.Common.{◌≡◌, ℕ, ◌==◌, true, not, List, refl, sym, subst, eq-eqb}
use Rattle.std.specs.Prelude.{codes}
use Rattle.std.specs.Str.{bytes_eq}
use Rattle.std.proofs.lemmas.Slice.Eq.{bytes_eq-Decides}
use Rattle.mls_wire.specs.Checks.{require}
use Rattle.mls_leaf.specs.Inputs.{leaf_content, leaf_node_tbs}
use Rattle.mls_leaf.specs.declared.leaf.LeafNode.{LeafNode}
use Rattle.mls_suite.specs.Crypto.{Crypto, Lawful}
use Rattle.mls_suite.specs.Labels.{sign_with_label, verify_with_label}
use Rattle.mls_suite.proofs.LabelLaws.{verifies_signed}
use Rattle.mls_checks.specs.Leaf.{is_signed, is_capable, is_of_source, has_identity_of}
use Rattle.mls_checks.specs.Checks.{replacement_checks}
use Rattle.mls_checks.specs.declared.checks.LeafUse.TheVariants as replaced_for
use Rattle.mls_model.specs.Candidate.{made_capabilities, unsigned_leaf, signed_leaf}
use Rattle.mls_update_path.specs.Parts.{leaf_by_key, IsOwnLeaf}

bytes_same : (xs : List ℕ) → bytes_eq xs xs ≡ true
bytes_same xs = (bytes_eq-Decides xs xs).1 refl

-- the chain of checks, where all but the last pass
passes_but_key : (c : Crypto) (new old : LeafNode) (group : List ℕ) (i : ℕ) → is_of_source replaced_for.Commit new.source ≡ true → is_signed c group i new ≡ true → is_capable c.number new ≡ true → has_identity_of old new ≡ true
    → replacement_checks c new old replaced_for.Commit group i ≡ require 54 (not (bytes_eq new.encryption_key old.encryption_key))
unfolding replacement_checks
passes_but_key c new old group i e1 e2 e3 e4 = rw (e1, e2, e3, e4) refl

module _ (c : Crypto) (laws : Lawful c) (signing group : List ℕ) (i : ℕ) (old : LeafNode) (own : c.sig_public signing ≡ old.signature_key) where
  verifies_by : (key content : List ℕ) → c.sig_public signing ≡ key → verify_with_label c key (codes "LeafNodeTBS") content (sign_with_label c signing (codes "LeafNodeTBS") content) ≡ true
  verifies_by key content e = subst (λ k. verify_with_label c k (codes "LeafNodeTBS") content (sign_with_label c signing (codes "LeafNodeTBS") content) ≡ true) e (verifies_signed c laws signing (codes "LeafNodeTBS") content)

  module _ (hash key : List ℕ) where
    source_is : is_of_source replaced_for.Commit (leaf_by_key c signing group i old hash key).source ≡ true
    unfolding signed_leaf unsigned_leaf
    source_is = refl

    signed : is_signed c group i (leaf_by_key c signing group i old hash key) ≡ true
    unfolding is_signed signed_leaf unsigned_leaf leaf_content leaf_node_tbs
    signed = verifies_by old.signature_key _ own

    capable : is_capable c.number (leaf_by_key c signing group i old hash key) ≡ true
    unfolding is_capable signed_leaf unsigned_leaf made_capabilities
    capable = let e : (c.number == c.number) ≡ true = eq-eqb _ _ refl in rw e refl

    same_identity : has_identity_of old (leaf_by_key c signing group i old hash key) ≡ true
    unfolding has_identity_of signed_leaf unsigned_leaf
    same_identity = rw (bytes_same old.signature_key, bytes_same old.credential.identity) refl

  pub own_checks : (new : LeafNode) → IsOwnLeaf c signing group i old new → replacement_checks c new old replaced_for.Commit group i ≡ require 54 (not (bytes_eq new.encryption_key old.encryption_key))
  own_checks new made =
      let is = sym made.1.1 in
      passes_but_key c new old group i (subst (λ (l : LeafNode). is_of_source replaced_for.Commit l.source ≡ true) is (source_is made.0 made.1.0)) (subst (λ (l : LeafNode). is_signed c group i l ≡ true) is (signed made.0 made.1.0))
      (subst (λ (l : LeafNode). is_capable c.number l ≡ true) is (capable made.0 made.1.0)) (subst (λ (l : LeafNode). has_identity_of old l ≡ true) is (same_identity made.0 made.1.0))

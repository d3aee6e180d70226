-- Codes, by which proofs tell the values of trees apart.
use Rattle.std.specs.Prelude.{◌≡◌, ◌⊎◌, ℕ, List, Option, Some, None}
use Rattle.std.proofs.Common.{ap, refl}
use Rattle.std.specs.Coded.{Coded, code_by, coded×, coded⊎, coded_ℕ, coded_list, coded_option}
use mathlib.Core.Logic.{inl, inr}
use base.Stored.{Gv, gcons, gnil, gnum}
use Rattle.mls_leaf.specs.Parent.{Parent}
use Rattle.mls_leaf.specs.declared.leaf.Capabilities.{Capabilities}
use Rattle.mls_leaf.specs.declared.leaf.LeafNode.{LeafNode}
use Rattle.mls_leaf.specs.declared.leaf.LeafSource.{LeafSource}
use Rattle.mls_leaf.specs.declared.leaf.LeafSource.TheVariants as leaf_node_source
use Rattle.mls_tree_model.specs.Term.{Term, Leaf, Branch}
use Rattle.mls_tree_array.specs.Subtrees.{Subtree}

-- ---- leaves and parents

abbrev pub coded_bytes : Coded (List ℕ)
coded_bytes = coded_list coded_ℕ

abbrev coded_capabilities : Coded Capabilities
coded_capabilities =
    code_by (List ℕ × (List ℕ × (List ℕ × (List ℕ × List ℕ)))) (coded× coded_bytes (coded× coded_bytes (coded× coded_bytes (coded× coded_bytes coded_bytes))))
    (λ v. (v.versions, (v.cipher_suites, (v.extensions, (v.proposals, v.credentials)))))
    (λ p. record { versions = p.0; cipher_suites = p.1.0; extensions = p.1.1.0; proposals = p.1.1.1.0; credentials = p.1.1.1.1 }) (λ _. refl)

abbrev source_cases : LeafSource → (ℕ × ℕ) ⊎ Option (List ℕ)
source_cases (leaf_node_source.KeyPackage x y) = inl (x, y)
source_cases leaf_node_source.Update = inr None
source_cases (leaf_node_source.Commit hash) = inr (Some hash)

abbrev source_of : (ℕ × ℕ) ⊎ Option (List ℕ) → LeafSource
source_of (inl p) = leaf_node_source.KeyPackage p.0 p.1
source_of (inr None) = leaf_node_source.Update
source_of (inr (Some hash)) = leaf_node_source.Commit hash

pub source_again : (s : LeafSource) → source_of (source_cases s) ≡ s
source_again (leaf_node_source.KeyPackage x y) = refl
source_again leaf_node_source.Update = refl
source_again (leaf_node_source.Commit hash) = refl

abbrev coded_source : Coded LeafSource
coded_source = code_by ((ℕ × ℕ) ⊎ Option (List ℕ)) (coded⊎ (coded× coded_ℕ coded_ℕ) (coded_option coded_bytes)) source_cases source_of source_again

abbrev pub coded_leaf : Coded LeafNode
coded_leaf =
    code_by (List ℕ × (List ℕ × (List ℕ × (Capabilities × (LeafSource × List ℕ))))) (coded× coded_bytes (coded× coded_bytes (coded× coded_bytes (coded× coded_capabilities (coded× coded_source coded_bytes)))))
    (λ v. (v.encryption_key, (v.signature_key, (v.credential.identity, (v.capabilities, (v.source, v.signature))))))
    (λ p. record { encryption_key = p.0; signature_key = p.1.0; credential = record { identity = p.1.1.0 }; capabilities = p.1.1.1.0; source = p.1.1.1.1.0; signature = p.1.1.1.1.1 }) (λ _. refl)

abbrev pub coded_parent : Coded Parent
coded_parent =
    code_by (List ℕ × (List ℕ × List ℕ)) (coded× coded_bytes (coded× coded_bytes coded_bytes))
    (λ p. (p.encryption_key, (p.parent_hash, p.unmerged_leaves)))
    (λ x. record { encryption_key = x.0; parent_hash = x.1.0; unmerged_leaves = x.1.1 }) (λ _. refl)

-- ---- trees

abbrev spelled : Term → Gv
spelled (Leaf v) = gcons ((coded_option coded_leaf).code v) gnil
spelled (Branch p l r) = gcons ((coded_option coded_parent).code p) (gcons (spelled l) (spelled r))

abbrev front : Gv → Gv
front (gcons a b) = a
front gnil = gnil
front (gnum n) = gnil

abbrev back : Gv → Gv
back (gcons a b) = b
back gnil = gnil
back (gnum n) = gnil

pub spelled_once : (s t : Term) → spelled s ≡ spelled t → s ≡ t
spelled_once (Leaf v) (Leaf w) h = ap Leaf ((coded_option coded_leaf).inj v w (ap front h))
spelled_once (Leaf v) (Branch q l r) h = cc
spelled_once (Branch p l r) (Leaf w) h = cc
spelled_once (Branch p l r) (Branch q m s) h =
    let a : p ≡ q = (coded_option coded_parent).inj p q (ap front h) in
    let b : l ≡ m = spelled_once l m (ap (λ (g : Gv). front (back g)) h) in
    let d : r ≡ s = spelled_once r s (ap (λ (g : Gv). back (back g)) h) in
    cc (a, b, d)

abbrev pub coded_tree : Coded Term
coded_tree = record { code = spelled; inj = spelled_once }

abbrev pub coded_subtree : Coded Subtree
coded_subtree =
    code_by (ℕ × Term) (coded× coded_ℕ coded_tree) (λ t. (t.first, t.term)) (λ x. record { first = x.0; term = x.1 }) (λ _. refl)

-- The keys of a new member.
use Rattle.std.proofs.Common.{◌≡◌, ℕ, List, [], ◌∷◌, ◌++◌, true, false, Option, Some, None, Result, Ok, Err, refl, ap, ◌∙◌}
use Rattle.std.specs.Option.{option_map}
use Rattle.mls_wire.specs.Checks.{passed}
use Rattle.mls_wire.specs.Reading.{◌>>=◌}
use Rattle.mls_leaf.specs.declared.leaf.LeafNode.{LeafNode}
use Rattle.mls_suite.specs.Crypto.{Crypto}
use Rattle.mls_tree_model.specs.Term.{Term}
use Rattle.mls_treekem_model.specs.Join.{take_answer, has_due}
use Rattle.mls_treekem_model.specs.Keys.{Keys, PrivateKeys, all_keys}
use Rattle.mls_treekem_model.specs.Make.{Climb, climb_to}
use Rattle.mls_model.specs.Candidate.{Candidate}
use Rattle.mls_model.specs.OpenedWelcome.{Opened}
use Rattle.mls_model.specs.Join.{joined_tree, signer_checks, place_of, joined_keys, member_of, enter_group}
use Rattle.mls_model.specs.Member.{with_keys}
use Rattle.mls_model.proofs.KeyLaws.{with_all_keys}

abbrev keys_of : ℕ → List ℕ → Keys → PrivateKeys
keys_of leaf own above = record { leaf = leaf; own = own; above = above }

-- ---- a leaf's key alone

alone_parts : (above : Keys) (own sk : List ℕ) → above ++ (Some own ∷ []) ≡ Some sk ∷ [] → (above ≡ []) × (own ≡ sk)
alone_parts [] own sk e = (refl, cc)
alone_parts (k ∷ []) own sk e = absurd cc
alone_parts (k ∷ (j ∷ ks)) own sk e = absurd cc

abbrev pub alone_at : ℕ → List ℕ → PrivateKeys
alone_at leaf own = record { leaf = leaf; own = own; above = [] }

pub alone_is : (p : PrivateKeys) (leaf : ℕ) (sk : List ℕ) → p.leaf ≡ leaf → all_keys p ≡ Some sk ∷ [] → p ≡ alone_at leaf sk
alone_is p leaf sk e h =
    let parts = alone_parts p.above p.own sk h in
    ap (λ (l : ℕ). keys_of l p.own p.above) e ∙ ap (λ (o : List ℕ). keys_of leaf o p.above) parts.1 ∙ ap (λ (a : Keys). keys_of leaf sk a) parts.0

-- ---- keys that are taken

module _ (c : Crypto) (t : Term) (signer : ℕ) (alone : PrivateKeys) (secret : List ℕ) where
  pub taken : (s : List ℕ) (new : PrivateKeys) → take_answer c t signer alone.leaf alone.own secret ≡ Ok (climb_to s new) → new.leaf ≡ alone.leaf → joined_keys c t signer alone (Some secret) ≡ Ok new
  unfolding joined_keys
  taken s new e same =
      ap (λ (r : Result Climb ℕ). r >>= λ climb. Ok (with_keys alone climb.keys)) e ∙ ap (λ (p : PrivateKeys). Ok p) (with_all_keys alone new same)

  pub refused : (n : ℕ) → take_answer c t signer alone.leaf alone.own secret ≡ Err n → joined_keys c t signer alone (Some secret) ≡ Err n
  unfolding joined_keys
  refused n e = ap (λ (r : Result Climb ℕ). r >>= λ climb. Ok (with_keys alone climb.keys)) e

pub due : (c : Crypto) (t : Term) (signer : ℕ) (alone : PrivateKeys) → has_due t alone ≡ true → joined_keys c t signer alone None ≡ Ok alone
unfolding joined_keys
due c t signer alone e = rw e refl

pub missing : (c : Crypto) (t : Term) (signer : ℕ) (alone : PrivateKeys) → has_due t alone ≡ false → joined_keys c t signer alone None ≡ Err 35
unfolding joined_keys
missing c t signer alone e = rw e refl

-- ---- the new member

placed : (o : Option (ℕ × LeafNode)) (place : ℕ) → option_map (λ x. x.0) o ≡ Some place → (v : LeafNode) × (o ≡ Some (place, v))
placed None place e = absurd cc
placed (Some x) place e = let same : x.0 ≡ place = cc in (x.1, ap (λ (n : ℕ). Some (n, x.1)) same)

-- its stages, one after the other
pub member_is : (c : Crypto) (k : Candidate) (o : Opened) (t : Term) (place : ℕ) (keys : PrivateKeys)
    → joined_tree c o.info ≡ Ok t → signer_checks c k o.info t ≡ Ok passed → option_map (λ x. x.0) (place_of k.offered.leaf_node t) ≡ Some place
    → joined_keys c t o.info.signer (alone_at place k.leaf) o.path_secret ≡ Ok keys → member_of c k o ≡ enter_group k o t keys
unfolding member_of enter_group
member_is c k o t place keys tree signer at joined =
    let p = placed (place_of k.offered.leaf_node t) place at in
    rw (tree, signer, p.1, joined) refl

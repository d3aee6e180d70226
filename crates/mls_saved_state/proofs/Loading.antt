-- What was saved of a good member's epoch is loaded.
use Rattle.std.proofs.Common.{◌≡◌, ℕ, ◌≤◌, nat_le, ◌==◌, Bool, true, false, List, Option, Result, Ok, Err, is_some, reverse, length, refl, sym, subst}
use Rattle.std.specs.Str.{bytes_eq}
use Rattle.std.proofs.lemmas.Bool.{leb-true, le-leb}
use Rattle.std.proofs.lemmas.List.{reverse-reverse}
use Rattle.mls_tree_model.proofs.SetLaws.{eqb_refl}
use Rattle.std.proofs.lemmas.Slice.Eq.{bytes_eq-Decides}
use Rattle.std.specs.List.{list_all}
use Rattle.mls_wire.specs.Checks.{passed, require, ◌>>◌}
use Rattle.mls_suite.specs.Crypto.{Crypto}
use Rattle.mls_tree_model.specs.Term.{Term, leaf_of, height}
use Rattle.mls_tree_model.specs.Arrays.{to_nodes, from_nodes}
use Rattle.mls_tree_model.proofs.ArrayLaws.{from_to_nodes}
use Rattle.mls_tree_model.specs.Good.{tree_checks, has_good_shape, is_within}
use Rattle.mls_tree_model.proofs.GoodLaws.{good_passes}
use Rattle.mls_tree_model.specs.Hashes.{tree_hash}
use Rattle.mls_tree.specs.Rules.{rules_of}
use Rattle.mls_tree.specs.Tree.{max_leaves}
use Rattle.mls_treekem_model.specs.Keys.{PrivateKeys}
use Rattle.mls_treekem_model.specs.Holding.{holds_exact}
use Rattle.mls_treekem_model.proofs.HoldingLaws.{exact_is_held}
use Rattle.mls_model.specs.PublicState.{PublicState}
use Rattle.mls_saved.specs.declared.state.SavedState.{SavedState}
use Rattle.mls_saved_state.specs.Secrets.{keys_in, max_keys, is_none_or_secret, secret_in}
use Rattle.mls_saved_state.specs.State.{saved_state_of, HasSecrets, saved_tree, saved_keys, key_checks, state_with, load_state, IsGoodState, LoadsWhatWasSaved}

nodes_back : (c : Crypto) (p : PublicState) (k : PrivateKeys) → IsGoodState c p k → from_nodes max_leaves (to_nodes p.tree) ≡ Ok p.tree
unfolding has_good_shape is_within
nodes_back c p k good = from_to_nodes max_leaves (height p.tree) p.tree good.tree.perfect good.tree.shape (leb-true _ _ good.tree.within)

tree_back : (c : Crypto) (p : PublicState) (k : PrivateKeys) → IsGoodState c p k → saved_tree c p.context (to_nodes p.tree) ≡ Ok p.tree
unfolding saved_tree
tree_back c p k good =
    let e1 : from_nodes max_leaves (to_nodes p.tree) ≡ Ok p.tree = nodes_back c p k good in
    let e2 : bytes_eq p.context.tree_hash (tree_hash 0 p.tree) ≡ true = (bytes_eq-Decides _ _).1 good.hash in
    let e3 : tree_checks (rules_of c p.context.group_id) p.tree ≡ Ok passed = good_passes (rules_of c p.context.group_id) p.tree good.tree in
    rw (e1, e2, e3) refl

keys_pass : (c : Crypto) (p : PublicState) (k : PrivateKeys) → IsGoodState c p k → key_checks c p.tree k ≡ Ok passed
unfolding key_checks
keys_pass c p k good =
    let e1 : is_some (leaf_of p.tree k.leaf) ≡ true = good.own in
    let e2 : holds_exact c p.tree k ≡ true = exact_is_held c p.tree k good.exact in
    rw (e1, e2) refl

keys_back : (p : PublicState) (epoch : List ℕ) (k : PrivateKeys) → HasSecrets (saved_state_of p epoch k) → saved_keys (saved_state_of p epoch k) ≡ Ok k
unfolding saved_keys keys_in saved_state_of
keys_back p epoch k secrets =
    let e1 : nat_le (length (reverse k.above)) max_keys ≡ true = le-leb _ _ secrets.above.few in
    let e2 : reverse (reverse k.above) ≡ k.above = reverse-reverse k.above in
    rw (secrets.own, e1, secrets.above.secrets, e2) refl

pub loads_what_was_saved : LoadsWhatWasSaved
unfolding load_state saved_state_of
loads_what_was_saved c p epoch k good secrets =
    let e1 : (p.context.cipher_suite == c.number) ≡ true = rw good.suite (eqb_refl c.number) in
    let e2 = keys_back p epoch k secrets in
    let e3 = tree_back c p k good in
    let e4 = keys_pass c p k good in
    rw (e1, secrets.interim, secrets.epoch, e2, e3, e4) refl

-- ---- what is loaded

abbrev keys_are : List (Option (List ℕ)) → Result (List (Option (List ℕ))) ℕ
keys_are ks = Ok ks

few_by : (a b : Bool) (ks vs : List (Option (List ℕ))) → a ≡ nat_le (length ks) max_keys → (require 101 a >> (require 101 b >> keys_are ks)) ≡ Ok vs → length vs ≤ max_keys
few_by true true ks vs is e = let same : ks ≡ vs = cc in subst (λ (l : List (Option (List ℕ))). length l ≤ max_keys) same (leb-true _ _ (sym is))
few_by true false ks vs is e = absurd cc
few_by false b ks vs is e = absurd cc

-- keys that are found are no more than a path has
pub are_few : (ks vs : List (Option (List ℕ))) → keys_in ks ≡ Ok vs → length vs ≤ max_keys
unfolding keys_in
are_few ks vs e = few_by (nat_le (length ks) max_keys) (list_all is_none_or_secret ks) ks vs refl e

-- a check that passed
pub is_so : (n : ℕ) (test : Bool) → require n test ≡ Ok passed → test ≡ true
is_so n true e = refl
is_so n false e = absurd cc

pub state_is : (c : Crypto) (s : SavedState) (interim epoch : List ℕ) (keys : PrivateKeys) (t : Term) → (s.context.cipher_suite == c.number) ≡ true → secret_in s.interim ≡ Ok interim → secret_in s.epoch ≡ Ok epoch → saved_keys s ≡ Ok keys → saved_tree c s.context s.tree ≡ Ok t → key_checks c t keys ≡ Ok passed
    → load_state c s ≡ Ok (state_with s.context t interim epoch keys)
unfolding load_state
state_is c s interim epoch keys t e1 e2 e3 e4 e5 e6 = rw (e1, e2, e3, e4, e5, e6) refl

pub keys_refused : (c : Crypto) (s : SavedState) (interim epoch : List ℕ) (keys : PrivateKeys) (t : Term) (n : ℕ) → (s.context.cipher_suite == c.number) ≡ true → secret_in s.interim ≡ Ok interim → secret_in s.epoch ≡ Ok epoch → saved_keys s ≡ Ok keys → saved_tree c s.context s.tree ≡ Ok t → key_checks c t keys ≡ Err n
    → load_state c s ≡ Err n
unfolding load_state
keys_refused c s interim epoch keys t n e1 e2 e3 e4 e5 e6 = rw (e1, e2, e3, e4, e5, e6) refl

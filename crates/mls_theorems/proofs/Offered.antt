-- A candidate that is made is a good one.
use Rattle.std.proofs.Common.{◌≡◌, ℕ, ◌<◌, ◌-◌, ◌^◌, ◌==◌, true, not, ◌&&◌, List, [], ◌++◌, length, Ok, refl, subst, arith, lit<, eq-eqb}
use Rattle.std.specs.Prelude.{codes}
use Rattle.std.specs.Int.{w16}
use Rattle.std.specs.Str.{bytes_eq}
use Rattle.mls_wire.specs.Checks.{passed}
use Rattle.mls_wire.specs.Combine.{empty_vector}
use Rattle.mls_wire.specs.Laws.{ok_is}
use Rattle.mls_wire.specs.Reading.{uint, opaque}
use Rattle.mls_leaf.specs.Inputs.{leaf_content, leaf_node_tbs, key_package_tbs}
use Rattle.mls_leaf.specs.KeyPackage.{key_package}
use Rattle.mls_leaf.specs.Leaf.{leaf_source, leaf_node}
use Rattle.mls_leaf.specs.declared.key_package.KeyPackage.{KeyPackage}
use Rattle.mls_leaf.specs.declared.leaf.LeafNode.{LeafNode}
use Rattle.mls_leaf.specs.declared.leaf.LeafSource.TheVariants as leaf_node_source
use Rattle.mls_types.specs.Message.{mls_message}
use Rattle.mls_suite.specs.Crypto.{Crypto, Lawful}
use Rattle.mls_suite.proofs.LabelLaws.{verifies_signed}
use Rattle.mls_checks.specs.Checks.{is_package_signed, key_package_checks}
use Rattle.mls_checks.specs.Leaf.{is_of_key_package, is_signed, is_capable}
use Rattle.mls_model.specs.MemberInvariant.{IsGoodCandidate}
use Rattle.mls_model.specs.Candidate.{Candidate, init_key_of, leaf_key_of, unsigned_leaf, signed_leaf, made_capabilities, offered_leaf, unsigned_package, signed_package, package_message, new_candidate}
use Rattle.mls_treekem_model.specs.Seeds.{sign_seed}
use Rattle.mls_model.specs.Messages.{require_within_limit}
use Rattle.mls_theorems.proofs.Fit.{short_first, short_last, short_text, made_leaf_fits}
use Rattle.mls_theorems.specs.GoodMembers.{CandidatesGood}
use Rattle.mls_wire.proofs.CheckLaws.{require_ok, then_ok}
use Rattle.mls_model.proofs.CandidateLaws.{capabilities_fit}
use Rattle.mls_theorems.proofs.Sent.{within_is}

-- the KeyPackage of an identity and a seed
unfoldable offered_by : Crypto → List ℕ → List ℕ → KeyPackage
offered_by c identity seed = signed_package c (sign_seed seed) (unsigned_package c identity seed)

-- ---- it has a spelling

lifetime_fits : leaf_source.Fits (leaf_node_source.KeyPackage 0 (2 ^ 64 - 1))
unfolding leaf_source
lifetime_fits = (lit< tt, (lit< tt, lit< tt))

leaf_fits : (c : Crypto) (identity seed : List ℕ) → c.number < 2 ^ 16 → length (leaf_node.spell (offered_leaf c identity seed)) < 2 ^ 30 → leaf_node.Fits (offered_leaf c identity seed)
unfolding offered_leaf signed_leaf unsigned_leaf
leaf_fits c identity seed n lt = made_leaf_fits _ _ _ _ _ _ (capabilities_fit c n) (λ _. lifetime_fits) lt

package_fits : (suite : ℕ) (init : List ℕ) (leaf : LeafNode) (signature : List ℕ) →
    let k : KeyPackage = record { cipher_suite = suite; init_key = init; leaf_node = leaf; signature = signature } in
    suite < 2 ^ 16 → (length (leaf_node.spell leaf) < 2 ^ 30 → leaf_node.Fits leaf) → length (package_message k) < 2 ^ 30 → key_package.Fits k
unfolding package_message mls_message key_package
package_fits suite init leaf signature n fits lt =
    let t6 : List ℕ = (empty_vector 14).spell ++ opaque signature in
    let t5 : List ℕ = leaf_node.spell leaf ++ t6 in
    let t4 : List ℕ = opaque init ++ t5 in
    let t3 : List ℕ = uint w16 suite ++ t4 in
    let t2 : List ℕ = uint w16 1 ++ t3 in
    let t1 : List ℕ = uint w16 5 ++ t2 in
    let l1 : length t1 < 2 ^ 30 = short_last (uint w16 1) t1 _ lt in
    let l2 : length t2 < 2 ^ 30 = short_last (uint w16 5) t2 _ l1 in
    let l3 : length t3 < 2 ^ 30 = short_last (uint w16 1) t3 _ l2 in
    let l4 : length t4 < 2 ^ 30 = short_last (uint w16 suite) t4 _ l3 in
    let l5 : length t5 < 2 ^ 30 = short_last (opaque init) t5 _ l4 in
    let l6 : length t6 < 2 ^ 30 = short_last (leaf_node.spell leaf) t6 _ l5 in
    (n, (short_text init _ (short_first (opaque init) t5 _ l4), (fits (short_first (leaf_node.spell leaf) t6 _ l5), short_text signature _ (short_last (empty_vector 14).spell (opaque signature) _ l6))))

offered_fits : (c : Crypto) (identity seed : List ℕ) → c.number < 2 ^ 16 → length (package_message (offered_by c identity seed)) < 2 ^ 30 → key_package.Fits (offered_by c identity seed)
unfolding offered_by signed_package unsigned_package
offered_fits c identity seed n lt = package_fits c.number (c.public (init_key_of c seed)) (offered_leaf c identity seed) _ n (leaf_fits c identity seed n) lt

-- ---- it passes its checks

leaf_signed : (c : Crypto) → Lawful c → (identity seed : List ℕ) → is_signed c [] 0 (offered_leaf c identity seed) ≡ true
unfolding is_signed offered_leaf signed_leaf unsigned_leaf leaf_content leaf_node_tbs
leaf_signed c laws identity seed = verifies_signed c laws (sign_seed seed) (codes "LeafNodeTBS") _

leaf_capable : (c : Crypto) (identity seed : List ℕ) → is_capable c.number (offered_leaf c identity seed) ≡ true
unfolding is_capable offered_leaf signed_leaf unsigned_leaf made_capabilities
leaf_capable c identity seed = let e : (c.number == c.number) ≡ true = eq-eqb _ _ refl in rw e refl

leaf_source_is : (c : Crypto) (identity seed : List ℕ) → is_of_key_package (offered_leaf c identity seed).source ≡ true
unfolding offered_leaf signed_leaf unsigned_leaf
leaf_source_is c identity seed = refl

package_signed : (c : Crypto) → Lawful c → (identity seed : List ℕ) → is_package_signed c (offered_by c identity seed) ≡ true
unfolding is_package_signed offered_by signed_package unsigned_package offered_leaf signed_leaf unsigned_leaf key_package_tbs
package_signed c laws identity seed = verifies_signed c laws (sign_seed seed) (codes "KeyPackageTBS") _

keys_fit : (c : Crypto) → Lawful c → (identity seed : List ℕ) → (c.key_ok (offered_by c identity seed).init_key && c.key_ok (offered_by c identity seed).leaf_node.encryption_key) ≡ true
unfolding offered_by signed_package unsigned_package offered_leaf signed_leaf unsigned_leaf
keys_fit c laws identity seed = let a = laws.public_ok (init_key_of c seed) in let b = laws.public_ok (leaf_key_of c seed) in rw (a, b) refl

by_leaf : (c : Crypto) (identity seed : List ℕ) → (offered_by c identity seed).leaf_node ≡ offered_leaf c identity seed
unfolding offered_by signed_package unsigned_package
by_leaf c identity seed = refl

suite_is : (c : Crypto) (identity seed : List ℕ) → ((offered_by c identity seed).cipher_suite == c.number) ≡ true
unfolding offered_by signed_package unsigned_package
suite_is c identity seed = eq-eqb _ _ refl

passes_all : (c : Crypto) (k : KeyPackage) → is_of_key_package k.leaf_node.source ≡ true → is_signed c [] 0 k.leaf_node ≡ true → is_capable c.number k.leaf_node ≡ true → (k.cipher_suite == c.number) ≡ true → is_package_signed c k ≡ true →
    not (bytes_eq k.init_key k.leaf_node.encryption_key) ≡ true → (c.key_ok k.init_key && c.key_ok k.leaf_node.encryption_key) ≡ true → key_package_checks c k ≡ Ok passed
unfolding key_package_checks
passes_all c k e1 e2 e3 e4 e5 e6 e7 = rw (e1, e2, e3, e4, e5, e6, e7) refl

-- ---- the whole

unfoldable made_by : Crypto → List ℕ → List ℕ → Candidate
made_by c identity seed = record { offered = offered_by c identity seed; init = init_key_of c seed; leaf = leaf_key_of c seed; signing = sign_seed seed }

made_good : (c : Crypto) → Lawful c → (identity seed : List ℕ) → not (bytes_eq (offered_by c identity seed).init_key (offered_by c identity seed).leaf_node.encryption_key) ≡ true → require_within_limit (package_message (offered_by c identity seed)) ≡ Ok passed →
    IsGoodCandidate c (made_by c identity seed)
unfolding made_by offered_by signed_package unsigned_package offered_leaf signed_leaf unsigned_leaf
made_good c laws identity seed other low =
    let short = within_is _ low in
    record {
      init = refl;
      leaf = refl;
      signing = refl;
      checked = passes_all c (offered_by c identity seed) (leaf_source_is c identity seed) (leaf_signed c laws identity seed) (leaf_capable c identity seed) (suite_is c identity seed) (package_signed c laws identity seed) other (keys_fit c laws identity seed);
      package_of = offered_fits c identity seed laws.number_short (omega arith);
    }

pub candidate_good : CandidatesGood
unfolding new_candidate made_by offered_by
candidate_good c laws identity seed k h =
    let s1 = require_ok 57 (not (bytes_eq (offered_by c identity seed).init_key (offered_by c identity seed).leaf_node.encryption_key)) _ _ h in
    let s2 = then_ok (require_within_limit (package_message (offered_by c identity seed))) _ _ s1.1 in
    subst (IsGoodCandidate c) (ok_is (made_by c identity seed) k s2.1) (made_good c laws identity seed s1.0 s2.0)

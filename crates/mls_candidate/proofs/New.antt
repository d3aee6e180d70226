-- What a new candidate is, check by check.
use Rattle.std.proofs.Common.{◌≡◌, ℕ, ◌<◌, ◌^◌, Bool, true, false, not, List, length, Ok, Err, refl, ap, sym, ◌∙◌, arith}
use Rattle.std.specs.Str.{bytes_eq}
use Rattle.mls_wire.specs.Checks.{passed, require, ◌>>◌}
use Rattle.mls_leaf.specs.Limits.{input_limit}
use Rattle.mls_leaf.specs.KeyPackage.{key_package}
use Rattle.mls_leaf.specs.declared.key_package.KeyPackage.{KeyPackage}
use Rattle.mls_treekem_model.specs.Seeds.{sign_seed}
use Rattle.mls_suite.specs.Crypto.{Crypto}
use Rattle.mls_model.specs.Candidate.{Candidate, init_key_of, leaf_key_of, unsigned_leaf, signed_leaf, offered_leaf, unsigned_package, signed_package, package_message, new_candidate}
use Rattle.mls_model.specs.Messages.{require_within_limit}
use Rattle.mls_public_group.proofs.Limits.{past_limit, length_within}
use Rattle.mls_public_group.specs.Short.{IsBelow}
use Rattle.mls_candidate.proofs.Packages.{identity_in, package_below}

-- the KeyPackage of an identity and a seed
abbrev pub offered_by : Crypto → List ℕ → List ℕ → KeyPackage
offered_by c identity seed = signed_package c (sign_seed seed) (unsigned_package c identity seed)

abbrev made_by : Crypto → List ℕ → KeyPackage → Candidate
made_by c seed offered = record { offered = offered; init = init_key_of c seed; leaf = leaf_key_of c seed; signing = sign_seed seed }

-- the checks in order
in_order : (c : Crypto) (identity seed : List ℕ) →
    new_candidate c identity seed
    ≡ (require 57 (not (bytes_eq (c.public (init_key_of c seed)) (c.public (leaf_key_of c seed)))) >> (require_within_limit (package_message (offered_by c identity seed)) >> Ok (made_by c seed (offered_by c identity seed))))
unfolding new_candidate signed_package unsigned_package offered_leaf signed_leaf unsigned_leaf
in_order c identity seed = refl

abbrev Keys : Crypto → List ℕ → List ℕ → List ℕ → Bool → Type 0
Keys c seed a b test = (a ≡ c.public (init_key_of c seed)) × ((b ≡ c.public (leaf_key_of c seed)) × (test ≡ bytes_eq a b))

test_is : (c : Crypto) (seed a b : List ℕ) (test : Bool) → Keys c seed a b test → bytes_eq (c.public (init_key_of c seed)) (c.public (leaf_key_of c seed)) ≡ test
test_is c seed a b test k = let e1 = k.0 in let e2 = k.1.0 in let e3 = k.1.1 in rw (← e1, ← e2, e3) refl

pub same_keys : (c : Crypto) (identity seed a b : List ℕ) (test : Bool) → Keys c seed a b test → test ≡ true → new_candidate c identity seed ≡ Err 57
same_keys c identity seed a b test k e = let same = test_is c seed a b test k in rw (in_order c identity seed, same, e) refl

others : (c : Crypto) (identity seed a b : List ℕ) (test : Bool) → Keys c seed a b test → test ≡ false → new_candidate c identity seed ≡ (require_within_limit (package_message (offered_by c identity seed)) >> Ok (made_by c seed (offered_by c identity seed)))
others c identity seed a b test k e = let same = test_is c seed a b test k in rw (in_order c identity seed, same, e) refl

identity_of : (c : Crypto) (identity seed : List ℕ) → (offered_by c identity seed).leaf_node.credential.identity ≡ identity
unfolding signed_package unsigned_package offered_leaf signed_leaf unsigned_leaf
identity_of c identity seed = refl

pub long_identity : (c : Crypto) (identity seed a b : List ℕ) (test : Bool) → Keys c seed a b test → test ≡ false → input_limit < length identity → new_candidate c identity seed ≡ Err 6
long_identity c identity seed a b test k e lt =
    let longer : input_limit < length (package_message (offered_by c identity seed)) = omega (arith, identity_in (offered_by c identity seed), ap length (identity_of c identity seed)) in
    let over = past_limit _ longer in
    rw (others c identity seed a b test k e, over) refl

pub long_message : (c : Crypto) (identity seed a b : List ℕ) (test : Bool) → Keys c seed a b test → test ≡ false → (offered : KeyPackage) (message : List ℕ) (few : Bool) → offered ≡ offered_by c identity seed → message ≡ package_message offered →
    require_within_limit message ≡ require 6 few → few ≡ false → new_candidate c identity seed ≡ Err 6
long_message c identity seed a b test k e offered message few e1 e2 e3 e4 =
    let over : require_within_limit (package_message (offered_by c identity seed)) ≡ Err 6 = ap (λ (x : KeyPackage). require_within_limit (package_message x)) (sym e1) ∙ ap require_within_limit (sym e2) ∙ e3 ∙ ap (require 6) e4 in
    rw (others c identity seed a b test k e, over) refl

pub made : (c : Crypto) (identity seed a b : List ℕ) (test : Bool) → Keys c seed a b test → test ≡ false → (offered : KeyPackage) (message : List ℕ) (few : Bool) → offered ≡ offered_by c identity seed → message ≡ package_message offered →
    require_within_limit message ≡ require 6 few → few ≡ true → (init leaf signing : List ℕ) → init ≡ init_key_of c seed → leaf ≡ leaf_key_of c seed → signing ≡ sign_seed seed →
    new_candidate c identity seed ≡ Ok (record { offered = offered; init = init; leaf = leaf; signing = signing })
made c identity seed a b test k e offered message few e1 e2 e3 e4 init leaf signing f1 f2 f3 =
    let low : require_within_limit (package_message (offered_by c identity seed)) ≡ Ok passed = ap (λ (x : KeyPackage). require_within_limit (package_message x)) (sym e1) ∙ ap require_within_limit (sym e2) ∙ e3 ∙ ap (require 6) e4 in
    rw (others c identity seed a b test k e, low, e1, f1, f2, f3) refl

-- a message within the limit is of a short KeyPackage
pub message_below : (offered : KeyPackage) (message : List ℕ) (few : Bool) → key_package.Fits offered → message ≡ package_message offered → require_within_limit message ≡ require 6 few → few ≡ true → IsBelow (2 ^ 27) key_package offered
message_below offered message few fits e1 e2 e3 =
    package_below offered fits (length_within (package_message offered) (ap require_within_limit (sym e1) ∙ e2 ∙ ap (require 6) e3))

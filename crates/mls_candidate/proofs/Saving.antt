-- Saved candidates are loaded as they were, and what is loaded is good.
use Rattle.std.proofs.Common.{◌≡◌, ℕ, ◌+◌, ◌≤◌, ◌^◌, ◌==◌, Bool, true, false, List, ◌++◌, length, Ok, refl, ap, sym, subst, arith, eq-eqb}
use Rattle.std.specs.Int.{w16}
use Rattle.std.specs.Str.{bytes_eq}
use Rattle.std.proofs.lemmas.List.{length-append}
use Rattle.std.proofs.lemmas.Slice.Eq.{bytes_eq-Decides}
use Rattle.mls_wire.proofs.CheckLaws.{bind_ok, then_ok, require_ok}
use Rattle.mls_wire.specs.Checks.{passed, require}
use Rattle.mls_wire.specs.Laws.{ok_is}
use Rattle.mls_wire.specs.Reading.{opaque, uint}
use Rattle.mls_wire.specs.Whole.{whole}
use Rattle.mls_leaf.proofs.WholeLaws.{whole_again}
use Rattle.mls_leaf.specs.Faults.{Spells}
use Rattle.mls_leaf.specs.KeyPackage.{key_package}
use Rattle.mls_leaf.specs.Limits.{input_limit}
use Rattle.mls_checks.proofs.LeafLaws.{package_steps}
use Rattle.mls_checks.specs.Checks.{key_package_checks}
use Rattle.mls_suite.specs.Crypto.{Crypto}
use Rattle.mls_saved.specs.Candidate.{saved_candidate}
use Rattle.mls_saved.specs.declared.candidate.SavedCandidate.{SavedCandidate}
use Rattle.mls_model.specs.Candidate.{Candidate}
use Rattle.mls_model.specs.MemberInvariant.{IsGoodCandidate}
use Rattle.mls_model.specs.Messages.{require_within_limit}
use Rattle.mls_public_group.proofs.Limits.{length_within, read_within}
use Rattle.mls_public_group.specs.Short.{IsBelow}
use Rattle.mls_candidate.specs.Saved.{saved_parts, saved_bytes, save_candidate, candidate_of, saved_of_suite, own_key_checks, load_candidate, GoodIsLoaded, LoadedIsGood}

-- ---- how long it is

package_in : (v : SavedCandidate) → length (key_package.spell v.key_package) ≤ length (saved_candidate.spell v)
unfolding saved_candidate
package_in v =
    let p : List ℕ = key_package.spell v.key_package in
    let rest : List ℕ = opaque v.init ++ (opaque v.leaf ++ opaque v.signing) in
    omega (arith, length-append (uint w16 2) (p ++ rest), length-append p rest)

-- the KeyPackage of a saved candidate is short
pub saved_below : (bytes : List ℕ) (v : SavedCandidate) → Spells saved_candidate v bytes → whole saved_candidate input_limit bytes ≡ Ok v → IsBelow (2 ^ 27) key_package v.key_package
unfolding saved_candidate
saved_below bytes v spells e =
    record { fits = spells.fits.0; below = omega (arith, package_in v, read_within saved_candidate bytes v e, ap length spells.spelled) }

-- ---- it has a spelling

pub saved_fits : (v : SavedCandidate) → key_package.Fits v.key_package → length v.init ≡ 32 → length v.leaf ≡ 32 → length v.signing ≡ 32 → saved_candidate.Fits v
unfolding saved_candidate
saved_fits v fits i l s = (fits, (omega arith, (omega arith, omega arith)))

-- ---- what is saved is loaded

same : (a b : List ℕ) → a ≡ b → bytes_eq b a ≡ true
same a b e = (bytes_eq-Decides b a).1 (sym e)

pub good_is_loaded : GoodIsLoaded
unfolding save_candidate load_candidate saved_of_suite candidate_of own_key_checks saved_parts
good_is_loaded c k good s bytes e =
    let steps = then_ok (require_within_limit (saved_bytes k)) _ _ e in
    let is : saved_bytes k ≡ bytes = ok_is (saved_bytes k) bytes steps.1 in
    let le : length bytes ≤ input_limit = subst (λ (b : List ℕ). length b ≤ input_limit) is (length_within (saved_bytes k) steps.0) in
    let read : whole saved_candidate input_limit bytes ≡ Ok (saved_parts k) = whole_again saved_candidate input_limit bytes (saved_parts k) (record { fits = saved_fits (saved_parts k) good.package_of s.init s.leaf s.signing; spelled = sym is }) le in
    let suite : (k.offered.cipher_suite == c.number) ≡ true = eq-eqb _ _ (package_steps c k.offered good.checked).suite in
    let i : (length k.init == 32) ≡ true = eq-eqb _ _ s.init in
    let l : (length k.leaf == 32) ≡ true = eq-eqb _ _ s.leaf in
    let g : (length k.signing == 32) ≡ true = eq-eqb _ _ s.signing in
    let checked : key_package_checks c k.offered ≡ Ok passed = good.checked in
    let a = same _ _ good.init in
    let b = same _ _ good.leaf in
    let d = same _ _ good.signing in
    rw (read, suite, i, l, g, checked, a, b, d) refl

-- ---- what is loaded is good

last_ok : (n : ℕ) (test : Bool) → require n test ≡ Ok passed → test ≡ true
last_ok n true h = refl
last_ok n false h = cc

found_good : (c : Crypto) (k : Candidate) → key_package.Fits k.offered → key_package_checks c k.offered ≡ Ok passed → own_key_checks c k ≡ Ok passed → IsGoodCandidate c k
unfolding own_key_checks
found_good c k fits checked own =
    let first = require_ok 104 (bytes_eq (c.public k.init) k.offered.init_key) _ _ own in
    let second = require_ok 104 (bytes_eq (c.public k.leaf) k.offered.leaf_node.encryption_key) _ _ first.1 in
    let third = last_ok 104 (bytes_eq (c.sig_public k.signing) k.offered.leaf_node.signature_key) second.1 in
    record {
      init = sym ((bytes_eq-Decides _ _).0 first.0);
      leaf = sym ((bytes_eq-Decides _ _).0 second.0);
      signing = sym ((bytes_eq-Decides _ _).0 third);
      checked = checked;
      package_of = fits;
    }

pub loaded_is_good : LoadedIsGood
unfolding load_candidate
loaded_is_good c bytes k fits e =
    let read = bind_ok (saved_of_suite c bytes) _ _ e in
    let parts = bind_ok (candidate_of read.0) _ _ read.2 in
    let checks = then_ok (key_package_checks c parts.0.offered) _ _ parts.2 in
    let own = then_ok (own_key_checks c parts.0) _ _ checks.1 in
    let is : parts.0 ≡ k = ok_is parts.0 k own.1 in
    found_good c k fits
    (subst (λ (x : Candidate). key_package_checks c x.offered ≡ Ok passed) is checks.0)
    (subst (λ (x : Candidate). own_key_checks c x ≡ Ok passed) is own.0)

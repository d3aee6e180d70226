-- A leaf that passed its checks: where it is signed, and what each check found.
use Rattle.std.proofs.Common.{◌≡◌, ℕ, ◌==◌, Bool, true, false, not, ◌&&◌, List, [], refl, sym, eqb-true}
use Rattle.std.proofs.lemmas.Bool.{true≢false, and_parts}
use Rattle.std.proofs.lemmas.Slice.Eq.{bytes_eq-Decides}
use Rattle.std.specs.Str.{bytes_eq}
use Rattle.mls_wire.specs.Checks.{passed}
use Rattle.mls_wire.specs.CheckLaws.{required}
use Rattle.mls_wire.proofs.CheckLaws.{require_ok}
use Rattle.mls_leaf.specs.declared.leaf.LeafSource.{LeafSource}
use Rattle.mls_leaf.specs.declared.leaf.LeafSource.TheVariants.{KeyPackage as by_key_package, Update as by_update, Commit as by_commit}
use Rattle.mls_leaf.specs.Inputs.{leaf_place, leaf_node_tbs}
use Rattle.mls_checks.specs.Leaf.{is_signed, is_capable, is_of_key_package, is_of_source, has_identity_of}
use Rattle.mls_checks.specs.Checks.{key_package_checks, replacement_checks, is_package_signed}
use Rattle.mls_checks.specs.Laws.{SignedAnywhere, PackageSteps, ReplacedSteps}

leaf_anywhere : (s : LeafSource) → is_of_key_package s ≡ true → (g h : List ℕ) (i j : ℕ) → leaf_place s g i ≡ leaf_place s h j
leaf_anywhere (by_key_package before after) e g h i j = refl
leaf_anywhere by_update e g h i j = absurd (true≢false (sym e))
leaf_anywhere (by_commit hash) e g h i j = absurd (true≢false (sym e))

pub signed_anywhere : SignedAnywhere
unfolding is_signed leaf_node_tbs
signed_anywhere c x e g h i j = rw (leaf_anywhere x.source e g h i j) refl

not_true : (b : Bool) → not b ≡ true → b ≡ false
not_true true h = absurd (true≢false (sym h))
not_true false h = refl

pub package_steps : PackageSteps
unfolding key_package_checks
package_steps c k h =
    let one = require_ok 50 (is_of_key_package k.leaf_node.source) _ passed h in
    let two = require_ok 51 (is_signed c [] 0 k.leaf_node) _ passed one.1 in
    let three = require_ok 52 (is_capable c.number k.leaf_node) _ passed two.1 in
    let four = require_ok 55 (k.cipher_suite == c.number) _ passed three.1 in
    let five = require_ok 56 (is_package_signed c k) _ passed four.1 in
    let six = require_ok 57 (not (bytes_eq k.init_key k.leaf_node.encryption_key)) _ passed five.1 in
    let fit = and_parts (c.key_ok k.init_key) (c.key_ok k.leaf_node.encryption_key) (required 36 _ passed six.1) in
    record {
      source = one.0;
      signed = two.0;
      capable = three.0;
      suite = eqb-true k.cipher_suite c.number four.0;
      whole = five.0;
      differs = not_true (bytes_eq k.init_key k.leaf_node.encryption_key) six.0;
      init_fit = fit.0;
      fit = fit.1;
    }

pub replaced_steps : ReplacedSteps
unfolding replacement_checks has_identity_of
replaced_steps c new old source group i h =
    let one = require_ok 50 (is_of_source source new.source) _ passed h in
    let two = require_ok 51 (is_signed c group i new) _ passed one.1 in
    let three = require_ok 52 (is_capable c.number new) _ passed two.1 in
    let four = require_ok 53 (bytes_eq new.signature_key old.signature_key && bytes_eq new.credential.identity old.credential.identity) _ passed three.1 in
    let same = and_parts (bytes_eq new.signature_key old.signature_key) _ four.0 in
    record {
      source_is = one.0;
      signed = two.0;
      capable = three.0;
      signature = (bytes_eq-Decides new.signature_key old.signature_key).0 same.0;
      identity = (bytes_eq-Decides new.credential.identity old.credential.identity).0 same.1;
      differs = not_true (bytes_eq new.encryption_key old.encryption_key) (required 54 _ passed four.1);
    }

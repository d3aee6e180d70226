use Rattle.std.proofs.Common.{refl}
use Rattle.mls_leaf.specs.Inputs.{key_package_tbs, KeyPackageTbsFits}
use Rattle.mls_suite.proofs.LabelLaws.{signs_short}
use Rattle.mls_model.specs.Candidate.{signed_package}
use Rattle.mls_checks.proofs.SignedLaws.{written_or_wanting, written_is}
use Rattle.mls_candidate.proofs.Packages.{package_tbs_fits, package_tbs_short, package_fits}
use Rattle.mls_candidate.proofs.package.sign_package.Goals as goal

pub bytes_or_out_of_memory-requires : goal.bytes_or_out_of_memory-requires
bytes_or_out_of_memory-requires g c =
    let k = c.args.offered in
    written_or_wanting (KeyPackageTbsFits k) (key_package_tbs k) c.to_be_signed.result (package_tbs_fits k c.requires) c.to_be_signed.ensures

pub sign_with_label-requires-clause-content : goal.sign_with_label-requires-clause-content
sign_with_label-requires-clause-content g c =
    let k = c.args.offered in
    let content = written_is (KeyPackageTbsFits k) (key_package_tbs k) c.to_be_signed.result c.in_ok-text.text c.in_ok-text.ensures c.to_be_signed.ensures in
    rw (c.deref.ensures.value, content) (package_tbs_short k c.requires)

pub returns-clause-package : goal.returns-clause-package
unfolding signed_package
returns-clause-package g c =
    let k = c.args.offered in
    let content = written_is (KeyPackageTbsFits k) (key_package_tbs k) c.to_be_signed.result c.in_ok-text.text c.in_ok-text.ensures c.to_be_signed.ensures in
    rw (c.from_vec.ensures, c.in_ok-signature.ensures, c.deref.ensures.value, content) refl

pub returns-clause-fits : goal.returns-clause-fits
returns-clause-fits g c =
    package_fits _ (record { suite = c.requires.suite; key = c.requires.key; leaf = c.requires.leaf }) (rw (c.from_vec.ensures, c.in_ok-signature.ensures) (signs_short g.S.Suite.crypto g.met.S.Suite.lawful _ _ _))

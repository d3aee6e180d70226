use Rattle.mls_leaf.specs.Inputs.{key_package_tbs, KeyPackageTbsFits}
use Rattle.mls_checks.specs.Checks.{is_package_signed}
use Rattle.mls_checks.proofs.SignedLaws.{written_or_wanting, written_is, package_tbs_fits, package_tbs_short}
use Rattle.mls_checks.proofs.leaf.is_package_signed.Goals as goal

pub bytes_or_out_of_memory-requires : goal.bytes_or_out_of_memory-requires
bytes_or_out_of_memory-requires g c =
    let p = c.args.offered.now in
    written_or_wanting (KeyPackageTbsFits p) (key_package_tbs p) c.to_be_signed.result (package_tbs_fits p c.requires) c.to_be_signed.ensures

pub verify_with_label-requires-clause-content : goal.verify_with_label-requires-clause-content
verify_with_label-requires-clause-content g c =
    let p = c.args.offered.now in
    let content = written_is (KeyPackageTbsFits p) (key_package_tbs p) c.to_be_signed.result c.in_ok-content.content c.in_ok-content.ensures c.to_be_signed.ensures in
    rw (c.deref.ensures.value, content) (package_tbs_short p c.requires)

pub returns : goal.returns
unfolding is_package_signed
returns g c =
    let p = c.args.offered.now in
    let content = written_is (KeyPackageTbsFits p) (key_package_tbs p) c.to_be_signed.result c.in_ok-content.content c.in_ok-content.ensures c.to_be_signed.ensures in
    rw (c.as_slice.ensures, c.deref.ensures.value, content, c.as_slice-2.ensures) at c.verify_with_label.ensures

use Rattle.mls_leaf.specs.Inputs.{leaf_node_tbs, LeafNodeTbsFits}
use Rattle.mls_checks.specs.Leaf.{is_signed}
use Rattle.mls_checks.proofs.SignedLaws.{written_or_wanting, written_is, leaf_tbs_fits, leaf_tbs_short}
use Rattle.mls_checks.proofs.leaf.leaf_signed.Goals as goal

pub bytes_or_out_of_memory-requires : goal.bytes_or_out_of_memory-requires
bytes_or_out_of_memory-requires g c =
    let v = c.args.leaf.now in
    let group = c.args.group_id.now in
    written_or_wanting (LeafNodeTbsFits v group) (leaf_node_tbs v group c.args.index) c.to_be_signed.result (leaf_tbs_fits v group c.requires.leaf c.requires.group) c.to_be_signed.ensures

pub verify_with_label-requires-clause-content : goal.verify_with_label-requires-clause-content
verify_with_label-requires-clause-content g c =
    let v = c.args.leaf.now in
    let group = c.args.group_id.now in
    let content = written_is (LeafNodeTbsFits v group) (leaf_node_tbs v group c.args.index) c.to_be_signed.result c.in_ok-content.content c.in_ok-content.ensures c.to_be_signed.ensures in
    rw (c.deref.ensures.value, content) (leaf_tbs_short v group c.args.index c.requires.leaf c.requires.group)

pub returns : goal.returns
unfolding is_signed
returns g c =
    let v = c.args.leaf.now in
    let group = c.args.group_id.now in
    let content = written_is (LeafNodeTbsFits v group) (leaf_node_tbs v group c.args.index) c.to_be_signed.result c.in_ok-content.content c.in_ok-content.ensures c.to_be_signed.ensures in
    rw (c.as_slice.ensures, c.deref.ensures.value, content, c.as_slice-2.ensures) at c.verify_with_label.ensures

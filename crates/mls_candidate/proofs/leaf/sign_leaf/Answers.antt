use Rattle.std.proofs.Common.{refl}
use Rattle.mls_leaf.specs.Inputs.{leaf_node_tbs, LeafNodeTbsFits}
use Rattle.mls_suite.proofs.LabelLaws.{signs_short}
use Rattle.mls_model.specs.Candidate.{signed_leaf}
use Rattle.mls_checks.proofs.SignedLaws.{written_or_wanting, written_is}
use Rattle.mls_candidate.proofs.LeafLaws.{tbs_fits, tbs_short, signed_below}
use Rattle.mls_candidate.proofs.leaf.sign_leaf.Goals as goal

pub bytes_or_out_of_memory-requires : goal.bytes_or_out_of_memory-requires
bytes_or_out_of_memory-requires g c =
    let v = c.args.leaf in
    let group = c.args.group_id.now in
    written_or_wanting (LeafNodeTbsFits v group) (leaf_node_tbs v group c.args.index) c.to_be_signed.result (tbs_fits v group c.requires.leaf c.requires.group) c.to_be_signed.ensures

pub sign_with_label-requires-clause-content : goal.sign_with_label-requires-clause-content
sign_with_label-requires-clause-content g c =
    let v = c.args.leaf in
    let group = c.args.group_id.now in
    let content = written_is (LeafNodeTbsFits v group) (leaf_node_tbs v group c.args.index) c.to_be_signed.result c.in_ok-text.text c.in_ok-text.ensures c.to_be_signed.ensures in
    rw (c.deref.ensures.value, content) (tbs_short v group c.args.index c.requires.leaf c.requires.group)

pub returns-clause-leaf : goal.returns-clause-leaf
unfolding signed_leaf
returns-clause-leaf g c =
    let v = c.args.leaf in
    let group = c.args.group_id.now in
    let content = written_is (LeafNodeTbsFits v group) (leaf_node_tbs v group c.args.index) c.to_be_signed.result c.in_ok-text.text c.in_ok-text.ensures c.to_be_signed.ensures in
    rw (c.from_vec.ensures, c.in_ok-signature.ensures, c.deref.ensures.value, content) refl

pub returns-clause-below : goal.returns-clause-below
returns-clause-below g c =
    signed_below c.args.leaf c.from_vec.result c.requires.leaf (rw (c.from_vec.ensures, c.in_ok-signature.ensures) (signs_short g.S.Suite.crypto g.met.S.Suite.lawful _ _ _))

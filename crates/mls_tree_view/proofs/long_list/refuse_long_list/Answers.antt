use Rattle.std.proofs.Common.{arith}
use Rattle.mls_tree.specs.Faults.{number_of}
use Rattle.mls_tree_view.proofs.LongRefusals.{few_nodes, long_list, no_want}
use Rattle.mls_tree_view.proofs.long_list.refuse_long_list.Goals as goal

pub returns-then-height-le-MAX_HEIGHT-clause-few : goal.returns-then-height-le-MAX_HEIGHT-clause-few
returns-then-height-le-MAX_HEIGHT-clause-few c = λ cells spells.
    few_nodes c.args.nodes.now cells c.pass_all-passed.result c.height_for-height.result spells
    (c.pass_all-passed.ensures cells spells) c.height_for-height.ensures.value c.if-height-le-MAX_HEIGHT.true

pub returns-clause-refused : goal.returns-clause-refused
returns-clause-refused c = (
  λ cells spells.
      long_list c.args.nodes.now cells c.pass_all-passed.result c.height_for-height.result (number_of c.refusal.result) spells
      (c.pass_all-passed.ensures cells spells) c.height_for-height.ensures.value (let high = c.if-height-le-MAX_HEIGHT.false in omega arith) c.refusal.ensures,
  no_want c.pass_all-passed.result c.height_for-height.result (number_of c.refusal.result) c.refusal.ensures,
)

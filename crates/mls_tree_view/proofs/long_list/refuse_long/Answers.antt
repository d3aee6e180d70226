use Rattle.mls_tree_view.proofs.LongRefusals.{few_all, refused_all}
use Rattle.mls_tree_view.proofs.long_list.refuse_long.Goals as goal

pub returns-clause-refused : goal.returns-clause-refused
returns-clause-refused c = refused_all c.args.bytes.now c.in-Some.nodes c.in-Some.ensures c.refuse_long_list.result c.refuse_long_list.ensures.refused

pub returns-clause-few : goal.returns-clause-few
returns-clause-few c = few_all c.args.bytes.now c.in-Some.nodes c.in-Some.ensures c.refuse_long_list.result c.refuse_long_list.ensures.few

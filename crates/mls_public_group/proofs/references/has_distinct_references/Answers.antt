use Rattle.std.proofs.Common.{sym}
use Rattle.mls_public_group.proofs.Folding.{few_distinct}
use Rattle.mls_public_group.proofs.references.has_distinct_references.Goals as goal

pub returns-then-count-lt2 : goal.returns-then-count-lt2
returns-then-count-lt2 c = sym (few_distinct c.args.used.now c.count_adds-count.result c.count_adds-count.ensures c.if-count-lt2.true)

use Rattle.std.proofs.Common.{sym, ◌∙◌}
use Rattle.mls_world_plain.proofs.Listing.{none_next, now_found, none_found}
use Rattle.mls_world_plain.proofs.joins.first_making_for.Goals as goal

pub returns-then-adds_for-clause-first : goal.returns-then-adds_for-clause-first
returns-then-adds_for-clause-first c = now_found c.args.made.now c.args.source.now c.args.offered.now c.loop-i.i c.index-made-i.result c.loop-i-test.true c.index-made-i.is (sym c.adds_for.ensures ∙ c.if-adds_for.true) c.loop-i.invariant

pub loop-i-preserved : goal.loop-i-preserved
loop-i-preserved c = none_next c.args.made.now c.args.source.now c.args.offered.now c.loop-i.i c.index-made-i.result c.loop-i-test.true c.index-made-i.is (sym c.adds_for.ensures ∙ c.if-adds_for.false) c.loop-i.invariant

pub returns-clause-first : goal.returns-clause-first
returns-clause-first c = none_found c.args.made.now c.args.source.now c.args.offered.now c.loop-i.i c.loop-i-test.false c.loop-i.invariant

use Rattle.std.proofs.Common.{arith}
use Rattle.std.proofs.lemmas.List.{nil_from_length}
use Rattle.mls_tree.specs.Tree.{term}
use Rattle.mls_treekem.proofs.Opening.{others_placed}
use Rattle.mls_treekem.proofs.Joiners.{none_counted, counted_in, counted_out}
use Rattle.mls_treekem.proofs.joiner.+filtered_count.Goals as goal

pub returns-in_default-clause-count : goal.returns-in_default-clause-count
returns-in_default-clause-count t c = none_counted (term c.args.tree.now) c.args.places.now (nil_from_length _ c.in_default.ensures.cases)

pub filtered_count-count-requires : goal.filtered_count-count-requires
filtered_count-count-requires t c = (omega (arith, c.in-Some.ensures.cases.1), (omega (arith, c.in-Some.ensures.cases.1, c.requires.low), others_placed _ _ _ _ c.in-Some.ensures.cases.0 c.requires.placed))

pub returns-then-is_filtered-clause-count : goal.returns-then-is_filtered-clause-count
returns-then-is_filtered-clause-count t c =
    counted_in (term c.args.tree.now) c.in-Some.place.now c.in-Some.below.now c.args.places.now c.in-Some.ensures.cases.0 c.requires.placed _ c.is_filtered.ensures c.if-is_filtered.true c.filtered_count-count.result c.filtered_count-count.ensures.count

pub returns-clause-count : goal.returns-clause-count
returns-clause-count t c =
    counted_out (term c.args.tree.now) c.in-Some.place.now c.in-Some.below.now c.args.places.now c.in-Some.ensures.cases.0 c.requires.placed _ c.is_filtered.ensures c.if-is_filtered.false c.filtered_count-count.result c.filtered_count-count.ensures.count

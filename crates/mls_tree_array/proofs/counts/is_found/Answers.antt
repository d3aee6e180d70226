use Rattle.std.proofs.Common.{◌≡◌, ◌+◌, ◌-◌, ◌/◌, sym, arith}
use Rattle.mls_tree_array.proofs.Halves.{found_at, none_between}
use Rattle.mls_tree_array.proofs.counts.is_found.Goals as goal

pub returns-then-number-node-clause-found : goal.returns-then-number-node-clause-found
returns-then-number-node-clause-found c =
    let e = c.from-number.ensures in
    let f = c.if-number-node.true in
    found_at c.args.leaves.now (c.loop-start.start + (c.loop-start.end - c.loop-start.start) / 2) c.args.node (omega arith) (omega arith)

pub returns-then-number-node-clause-rising : goal.returns-then-number-node-clause-rising
returns-then-number-node-clause-rising c = λ rise.
    let e = c.from-number.ensures in
    let f = c.if-number-node.true in
    sym (found_at c.args.leaves.now (c.loop-start.start + (c.loop-start.end - c.loop-start.start) / 2) c.args.node (omega arith) (omega arith))

pub returns-clause-rising : goal.returns-clause-rising
returns-clause-rising c = λ rise.
    let past = c.loop-start-test.false in
    let order = c.loop-start.invariant.order in
    let end : c.loop-start.end ≡ c.loop-start.start = omega arith in
    let within = c.loop-start.invariant.within in
    sym (none_between c.args.leaves.now c.loop-start.start c.args.node rise (omega arith) c.loop-start.invariant.low (λ lt. rw end at c.loop-start.invariant.high (omega arith)))

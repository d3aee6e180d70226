use Rattle.mls_wire.specs.Faults.{number_of}
use Rattle.mls_leaf.proofs.CapabilityLaws.{all_left, number_shorter, found_number, other_number, no_number}
use Rattle.mls_leaf.proofs.capabilities.is_listed.Goals as goal

pub loop-next-init : goal.loop-next-init
loop-next-init c = λ listed s. all_left listed c.args.number c.args.numbers s

pub returns-then-next-number : goal.returns-then-next-number
returns-then-next-number c = λ listed s. found_number listed c.args.number c.loop-next.numbers c.u16.new.self c.in-Ok.next (c.loop-next.invariant listed s) c.in-Ok.ensures c.if-next-number.true

pub loop-next-smaller : goal.loop-next-smaller
loop-next-smaller c = number_shorter c.loop-next.numbers c.u16.new.self c.in-Ok.next c.in-Ok.ensures

pub loop-next-preserved : goal.loop-next-preserved
loop-next-preserved c = λ listed s. other_number listed c.args.number c.loop-next.numbers c.u16.new.self c.in-Ok.next (c.loop-next.invariant listed s) c.in-Ok.ensures c.if-next-number.false

pub returns : goal.returns
returns c = λ listed s. no_number listed c.args.number c.loop-next.numbers (number_of c.in_default.field-0) (c.loop-next.invariant listed s) c.in_default.ensures.0

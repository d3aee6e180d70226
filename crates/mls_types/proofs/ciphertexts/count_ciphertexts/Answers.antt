use Rattle.std.proofs.Common.{◌≡◌, ◌<◌, [], length, arith, rules}
use Rattle.std.proofs.lemmas.Result.{err_from_is_err_and}
use Rattle.mls_leaf.specs.Faults.{number_of}
use Rattle.mls_leaf.proofs.Loops.{some_left}
use Rattle.mls_types.proofs.CiphertextLaws.{counted_none, counted_more, counted_all, counting_stops, passed_shorter}
use Rattle.mls_types.proofs.ciphertexts.count_ciphertexts.Goals as goal

pub loop-reader-init : goal.loop-reader-init
loop-reader-init c = rw c.new-reader.ensures (counted_none c.args.bytes.now (λ i. omega (arith, c.type_inv.bytes i)))

pub returns-in_err-check : goal.returns-in_err-check
returns-in_err-check c =
    let p = err_from_is_err_and c.from_residual.result c.from_residual.ensures.1 in
    let some : 0 < length c.loop-reader.reader = some_left c.loop-reader.reader (search rules) in
    rw (p.1, p.2) (counting_stops c.args.bytes.now c.loop-reader.count c.loop-reader.reader (number_of c.in_err-check.field-0.0) some c.in_err-check.ensures c.loop-reader.invariant)

pub loop-reader-smaller : goal.loop-reader-smaller
loop-reader-smaller c = passed_shorter c.loop-reader.reader c.check.new.reader c.loop-reader-test.ensures.bytes c.in_ok-check.ensures

pub loop-reader-preserved : goal.loop-reader-preserved
loop-reader-preserved c = counted_more c.args.bytes.now c.loop-reader.count c.loop-reader.reader c.check.new.reader c.loop-reader-test.ensures.bytes c.in_ok-check.ensures c.loop-reader.invariant

pub returns : goal.returns
returns c =
    let nil : c.loop-reader.reader ≡ [] = search rules in
    counted_all c.args.bytes.now c.loop-reader.count c.loop-reader.reader nil c.loop-reader.invariant

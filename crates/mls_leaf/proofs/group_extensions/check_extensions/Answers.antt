use Rattle.std.proofs.Common.{◌≡◌, ◌<◌, [], length, rules}
use Rattle.std.proofs.lemmas.Result.{err_from_is_err_and}
use Rattle.mls_wire.specs.Faults.{number_of as wire_number_of}
use Rattle.mls_wire.specs.CombineReads.{without_value}
use Rattle.mls_leaf.specs.Faults.{number_of}
use Rattle.mls_leaf.specs.GroupExtensions.{allowed_extensions}
use Rattle.mls_leaf.proofs.Loops.{some_left}
use Rattle.mls_leaf.proofs.TypeMarksLaws.{passes_begin, passes_on, reads_shorter, type_past_ends, data_past_ends, passes_end}
use Rattle.mls_leaf.proofs.group_extensions.check_extensions.Goals as goal

pub loop-content-init : goal.loop-content-init
loop-content-init c = passes_begin c.no_marks-marks.result c.args.content c.no_marks-marks.ensures

pub returns-in_err-_kind : goal.returns-in_err-_kind
returns-in_err-_kind c =
    let p = err_from_is_err_and c.from_residual.result c.from_residual.ensures.1 in
    let some : 0 < length c.loop-content.content = some_left c.loop-content.content (search rules) in
    rw (p.1, p.2) (type_past_ends (without_value (allowed_extensions c.args.content)) c.loop-content.marks c.loop-content.content (number_of c.in_err-_kind.field-0.0) some c.in_err-_kind.ensures.read c.loop-content.invariant)

pub returns-in_err-_carried : goal.returns-in_err-_carried
returns-in_err-_carried c =
    let p = err_from_is_err_and c.from_residual-in_err-_carried.result c.from_residual-in_err-_carried.ensures.1 in
    let some : 0 < length c.loop-content.content = some_left c.loop-content.content (search rules) in
    rw (p.1, p.2) (data_past_ends (without_value (allowed_extensions c.args.content)) c.loop-content.marks c.loop-content.content c.read_type.new.reader c.in_ok-_kind._kind (wire_number_of c.in_err-_carried.field-0.0) some
    c.in_ok-_kind.ensures.read c.in_err-_carried.ensures.0 c.loop-content.invariant)

pub loop-content-smaller : goal.loop-content-smaller
loop-content-smaller c =
    reads_shorter c.loop-content.marks c.loop-content.content c.read_type.new.reader c.opaque.new.self c.in_ok-_carried._carried.now c.in_ok-_kind._kind c.loop-content-test.ensures.bytes c.in_ok-_kind.ensures.read c.in_ok-_carried.ensures

pub loop-content-preserved : goal.loop-content-preserved
loop-content-preserved c =
    rw c.in_ok-_kind.ensures.marked (passes_on (without_value (allowed_extensions c.args.content)) c.loop-content.marks c.loop-content.content c.read_type.new.reader c.opaque.new.self c.in_ok-_carried._carried.now c.in_ok-_kind._kind
    c.loop-content-test.ensures.bytes c.in_ok-_kind.ensures.read c.in_ok-_carried.ensures c.loop-content.invariant)

pub returns : goal.returns
returns c =
    let nil : c.loop-content.content ≡ [] = search rules in
    passes_end (without_value (allowed_extensions c.args.content)) c.loop-content.marks c.loop-content.content nil c.loop-content.invariant

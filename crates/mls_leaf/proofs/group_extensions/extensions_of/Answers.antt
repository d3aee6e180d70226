use Rattle.std.proofs.Common.{◌≡◌, ◌<◌, [], length, rules}
use Rattle.std.proofs.lemmas.Result.{err_from_is_err_and}
use Rattle.mls_leaf.specs.GroupExtensions.{allowed_extensions}
use Rattle.mls_leaf.proofs.Loops.{some_left}
use Rattle.mls_leaf.proofs.GroupExtensionsLaws.{run_new}
use Rattle.mls_leaf.proofs.TypeMarksLaws.{reads_begin, reads_on, reads_shorter, reads_end, type_ends, data_ends}
use Rattle.mls_leaf.proofs.group_extensions.extensions_of.Goals as goal

pub loop-content-init : goal.loop-content-init
loop-content-init c = rw c.new-entries.ensures.items (reads_begin c.no_marks-marks.result c.args.content c.no_marks-marks.ensures)

pub returns-in_err-kind-clause-read : goal.returns-in_err-kind-clause-read
returns-in_err-kind-clause-read c =
    let p = err_from_is_err_and c.from_residual.result c.from_residual.ensures.1 in
    let some : 0 < length c.loop-content.content = some_left c.loop-content.content (search rules) in
    rw (p.1, p.2) (type_ends (allowed_extensions c.args.content) c.loop-content.entries.items c.loop-content.marks c.loop-content.content c.in_err-kind.field-0.0 some c.in_err-kind.ensures.read c.loop-content.invariant)

pub returns-in_err-carried-clause-read : goal.returns-in_err-carried-clause-read
returns-in_err-carried-clause-read c =
    let p = err_from_is_err_and c.from_residual-in_err-carried.result c.from_residual-in_err-carried.ensures.1 in
    let some : 0 < length c.loop-content.content = some_left c.loop-content.content (search rules) in
    rw (p.1, p.2) (data_ends (allowed_extensions c.args.content) c.loop-content.entries.items c.loop-content.marks c.loop-content.content c.read_type.new.reader c.in_ok-kind.kind c.in_err-carried.field-0.0 some
    c.in_ok-kind.ensures.read c.in_err-carried.ensures c.loop-content.invariant)

pub loop-content-smaller : goal.loop-content-smaller
loop-content-smaller c =
    reads_shorter c.loop-content.marks c.loop-content.content c.read_type.new.reader c.read.new.reader c.in_ok-carried.carried c.in_ok-kind.kind c.loop-content-test.ensures.bytes c.in_ok-kind.ensures.read c.in_ok-carried.ensures

pub loop-content-preserved : goal.loop-content-preserved
loop-content-preserved c =
    rw (c.in_ok-push.ensures.items, c.in_ok-kind.ensures.marked) (reads_on (allowed_extensions c.args.content) c.loop-content.entries.items c.loop-content.marks c.loop-content.content c.read_type.new.reader c.read.new.reader c.in_ok-carried.carried c.in_ok-kind.kind
    c.loop-content-test.ensures.bytes c.in_ok-kind.ensures.read c.in_ok-carried.ensures c.loop-content.invariant)

pub returns-clause-read : goal.returns-clause-read
returns-clause-read c =
    let nil : c.loop-content.content ≡ [] = search rules in
    reads_end (allowed_extensions c.args.content) c.loop-content.entries.items c.loop-content.marks c.loop-content.content nil c.loop-content.invariant

pub returns-clause-allowed : goal.returns-clause-allowed
returns-clause-allowed c =
    let nil : c.loop-content.content ≡ [] = search rules in
    run_new (length c.args.content) [] c.args.content c.loop-content.entries.items
    (reads_end (allowed_extensions c.args.content) c.loop-content.entries.items c.loop-content.marks c.loop-content.content nil c.loop-content.invariant)

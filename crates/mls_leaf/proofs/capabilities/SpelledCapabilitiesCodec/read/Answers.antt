use Rattle.std.proofs.lemmas.Result.{err_from_is_err_and}
use Rattle.mls_leaf.specs.Leaf.{capabilities}
use Rattle.mls_leaf.proofs.CapabilityLaws.{copy_spells, part_read}
use Rattle.mls_leaf.proofs.TypeMarksLaws.{fails_now}
use Rattle.mls_leaf.proofs.capabilities.SpelledCapabilitiesCodec.read.Goals as goal

pub returns-in_err-spelled : goal.returns-in_err-spelled
returns-in_err-spelled c =
    let p = err_from_is_err_and c.from_residual.result c.from_residual.ensures.1 in
    rw (p.1, p.2) (fails_now c.in_err-spelled.field-0.0 (capabilities.read c.args.reader.now) c.in_err-spelled.ensures)

pub invariant_of-result : goal.invariant_of-result
invariant_of-result c = let part = c.in_ok-spelled.ensures in copy_spells part.value c.in_ok-spelled.spelled.now c.in_ok-bytes.bytes c.in_ok-bytes.ensures.bytes part.spells

pub returns : goal.returns
returns c = part_read c.args.reader.now c.in_ok-spelled.spelled.now c.lend_part.new.reader c.in_ok-bytes.bytes c.in_ok-bytes.ensures.bytes c.in_ok-spelled.ensures

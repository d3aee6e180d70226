use Rattle.std.proofs.Common.{◌≡◌, Err, sym, subst}
use Rattle.mls_member.specs.EarlyChecks.{early_checks as early_member_checks}
use Rattle.mls_member.proofs.EarlyChecks.{process_early}
use Rattle.mls_world_plain.specs.StoredWorld.{Seated}
use Rattle.mls_world_plain.proofs.deliveries.hand_bytes.Goals as goal

pub returns-then-is_advanced-clause-outright : goal.returns-then-is_advanced-clause-outright
returns-then-is_advanced-clause-outright g c = λ n h.
    process_early c.seat.inside.member c.args.bytes.now _ c.in-Ok-process_read.ensures.gone c.in-Ok-process_read.ensures.outright n
    (subst (λ (s : Seated). early_member_checks s.member c.args.bytes.now ≡ Err n) (sym c.seat.view_is) h)

pub returns-in-Ok-process_read-clause-outright : goal.returns-in-Ok-process_read-clause-outright
returns-in-Ok-process_read-clause-outright g c = λ n h.
    process_early c.seat.inside.member c.args.bytes.now _ c.in-Ok-process_read.ensures.gone c.in-Ok-process_read.ensures.outright n
    (subst (λ (s : Seated). early_member_checks s.member c.args.bytes.now ≡ Err n) (sym c.seat.view_is) h)

pub returns-clause-outright : goal.returns-clause-outright
returns-clause-outright g c = λ n h.
    process_early c.seat.inside.member c.args.bytes.now _ c.in-Err-process_read.ensures.gone c.in-Err-process_read.ensures.outright n
    (subst (λ (s : Seated). early_member_checks s.member c.args.bytes.now ≡ Err n) (sym c.seat.view_is) h)

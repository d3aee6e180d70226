use Rattle.std.proofs.Common.{ℕ, Result, subst}
use Rattle.std.proofs.lemmas.Result.{err_from_is_err_and}
use Rattle.mls_wire.specs.Checks.{Passed}
use Rattle.mls_exchange.specs.Calls.{PassesOutright}
use Rattle.mls_exchange.proofs.Places.{unread, has_no_fault, checked}
use Rattle.mls_exchange.proofs.exchange.Exchange.check_arrival.Goals as goal

pub returns-in_err-check_all : goal.returns-in_err-check_all
returns-in_err-check_all g c =
    let p = err_from_is_err_and c.from_residual.result c.from_residual.ensures.1 in
    rw (p.1, p.2) (unread c.args.self.now c.args.bytes.now _ c.in_err-check_all.ensures)

pub returns-in_err-group_id : goal.returns-in_err-group_id
returns-in_err-group_id g c =
    absurd (has_no_fault c.args.self.now c.args.bytes.now c.in_ok-check_all.ensures.0 c.in_ok-check_all.ensures.1 _ c.in_err-group_id.ensures)

pub returns : goal.returns
returns g c =
    let m = c.in_ok-check_all.ensures in
    subst (λ (r : Result Passed ℕ). PassesOutright r c.check_place.result)
    (checked c.args.self.now c.args.bytes.now m.0 m.1 c.in_ok-group_id.group_id.now c.in_ok-group_id.epoch c.in_ok-group_id.ensures)
    c.check_place.ensures

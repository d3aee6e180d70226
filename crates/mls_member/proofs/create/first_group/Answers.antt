use Rattle.std.proofs.Common.{◌∙◌}
use Rattle.std.proofs.lemmas.Result.{err_from_is_err_and}
use Rattle.mls_member.specs.Faults.{number_of}
use Rattle.mls_member.proofs.FirstEpoch.{public_refused}
use Rattle.mls_member.proofs.create.first_group.Goals as goal

pub returns-in_err-require_within_limit : goal.returns-in_err-require_within_limit
returns-in_err-require_within_limit g c =
    let p = err_from_is_err_and c.from_residual-in_err-require_within_limit.result c.from_residual-in_err-require_within_limit.ensures.1 in
    rw (p.1, p.2) (λ other.
    public_refused g.S.Suite.crypto c.args.leaf.now c.args.group_id.now c.args.epoch.now _ _ (number_of c.in_err-require_within_limit.field-0.0) c.in_ok-tree.ensures.context (c.deref.ensures.value ∙ c.in_ok-bytes.ensures.spelled) c.in_err-require_within_limit.ensures)

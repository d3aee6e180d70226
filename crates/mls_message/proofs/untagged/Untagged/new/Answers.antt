use Rattle.std.proofs.lemmas.Result.{err_from_is_err_and}
use Rattle.std.proofs.Common.{ℕ, ◌+◌, ◌<◌, List, length, subst, ◌∙◌}
use Rattle.mls_leaf.specs.Limits.{input_limit}
use Rattle.mls_message.proofs.Refusals.{too_large}
use Rattle.mls_message.proofs.untagged.Untagged.new.Goals as goal

pub returns-in_err-require_room : goal.returns-in_err-require_room
returns-in_err-require_room c =
    let p = err_from_is_err_and c.from_residual-in_err-require_room.result c.from_residual-in_err-require_room.ensures.1 in
    rw (p.1, p.2) (too_large c.args.content.now c.in_err-require_room.field-0.0 c.in_err-require_room.ensures.0
    (subst (λ (l : List ℕ). input_limit < length l + 33) (c.deref.ensures.value ∙ c.in_ok-bytes.ensures.1) c.in_err-require_room.ensures.1))

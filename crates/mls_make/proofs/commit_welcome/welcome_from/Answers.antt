use Rattle.std.proofs.Common.{sym, ◌∙◌}
use Rattle.std.proofs.lemmas.Result.{err_from_is_err_and}
use Rattle.mls_welcome.specs.Faults.{number_of as number_of_welcome}
use Rattle.mls_make.proofs.TwoSteps.{from_none, from_refused, from_done}
use Rattle.mls_make.proofs.commit_welcome.welcome_from.Goals as goal

pub returns-then-is_empty : goal.returns-then-is_empty
returns-then-is_empty g c = λ secrets all.
    from_none g.S.Suite.crypto c.args.speaker.now.signing.now c.args.speaker.now.leaf c.args.group.now c.args.tag.now c.args.joiner_secret.now secrets c.args.seed.now c.args.first_seal c.args.joiners.now (sym c.is_empty.ensures ∙ c.if-is_empty.true)

pub returns-in_err-message : goal.returns-in_err-message
returns-in_err-message g c = λ secrets all.
    let p = err_from_is_err_and c.from_residual.result c.from_residual.ensures.1 in
    rw (p.1, p.2) (λ other.
    from_refused g.S.Suite.crypto c.args.speaker.now.signing.now c.args.speaker.now.leaf c.args.group.now c.args.tag.now c.args.joiner_secret.now secrets c.args.seed.now c.args.first_seal c.args.joiners.now (number_of_welcome c.in_err-message.field-0.0) (sym c.is_empty.ensures ∙ c.if-is_empty.false) (c.in_err-message.ensures secrets all other))

pub returns : goal.returns
returns g c = λ secrets all.
    from_done g.S.Suite.crypto c.args.speaker.now.signing.now c.args.speaker.now.leaf c.args.group.now c.args.tag.now c.args.joiner_secret.now secrets c.args.seed.now c.args.first_seal c.args.joiners.now c.in_ok-message.message.items (sym c.is_empty.ensures ∙ c.if-is_empty.false) (c.in_ok-message.ensures secrets all)

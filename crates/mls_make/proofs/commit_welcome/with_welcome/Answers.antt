use Rattle.std.proofs.Common.{◌≡◌, List, refl, map, sym, subst}
use Rattle.std.specs.List.{zip}
use Rattle.std.specs.Option.{option_copied}
use Rattle.std.proofs.lemmas.Result.{err_from_is_err_and}
use Rattle.mls_model.specs.Proposals.{adds}
use Rattle.mls_welcome.specs.Joiners.{package_and_leaf_of}
use Rattle.mls_welcome.specs.SentSecrets.{AreSentTo}
use Rattle.mls_welcome.specs.declared.welcome_message.Joiner.{Joiner}
use Rattle.mls_make.specs.Faults.{number_of}
use Rattle.mls_make.specs.TwoSteps.{sent_as}
use Rattle.mls_make.proofs.Adds.{joiners_short, joiners_fit}
use Rattle.mls_make.proofs.TwoSteps.{sent_to, secrets_are, welcomed_fails, welcomed_done}
use Rattle.mls_make.proofs.commit_welcome.with_welcome.Goals as goal

pub returns-in_err-joiners : goal.returns-in_err-joiners
returns-in_err-joiners g c =
    let p = err_from_is_err_and c.from_residual.result c.from_residual.ensures.1 in
    rw (p.1, p.2) (λ m wants made speaks own seals other. absurd (other refl))

pub returns-in_err-group : goal.returns-in_err-group
returns-in_err-group g c =
    let p = err_from_is_err_and c.from_residual-in_err-group.result c.from_residual-in_err-group.ensures.1 in
    rw (p.1, p.2) (λ m wants made speaks own seals other. absurd (other refl))

pub welcome_from-requires-clause-short : goal.welcome_from-requires-clause-short
welcome_from-requires-clause-short g c = rw c.deref.ensures.value (joiners_short c.args.used.now c.args.sent.outcome.change.edits.added c.in_ok-joiners.joiners.items c.requires.used c.in_ok-joiners.ensures.places)

pub welcome_from-requires-clause-seals : goal.welcome_from-requires-clause-seals
welcome_from-requires-clause-seals g c = rw c.deref.ensures.value (joiners_fit c.args.first_seal c.in_ok-joiners.joiners.items (zip (adds c.args.used.now) c.args.sent.outcome.change.edits.added) c.in_ok-joiners.ensures.places c.requires.seals)

pub returns-in_err-welcome : goal.returns-in_err-welcome
returns-in_err-welcome g c =
    let p = err_from_is_err_and c.from_residual-in_err-welcome.result c.from_residual-in_err-welcome.ensures.1 in
    let places = subst (λ (l : List Joiner). map package_and_leaf_of l ≡ zip (adds c.args.used.now) c.args.sent.outcome.change.edits.added) (sym c.deref.ensures.value) c.in_ok-joiners.ensures.places in
    let sent = subst (λ (l : List Joiner). AreSentTo c.args.sent.outcome.change.edits.tree c.args.speaker.now.leaf (option_copied c.args.secrets) l) (sym c.deref.ensures.value) c.in_ok-joiners.ensures.sent in
    rw (p.1, p.2) (λ m wants made speaks own seals other.
    welcomed_fails g.S.Suite.crypto m c.args.speaker.now speaks c.args.used.now (sent_as c.args.sent) wants made c.args.seed.now (option_copied c.args.secrets) c.args.keys own c.deref.result.now places c.in_ok-group.group c.in_ok-group.ensures c.args.first_seal seals (number_of c.in_err-welcome.field-0.0)
    (c.in_err-welcome.ensures (sent_to m c.args.sent.outcome.change made c.args.sent.joiner c.args.seed.now)
    (secrets_are g.S.Suite.crypto m c.args.speaker.now speaks c.args.used.now (sent_as c.args.sent) wants made c.args.seed.now (option_copied c.args.secrets) c.args.keys own c.deref.result.now places sent) other))

pub returns : goal.returns
returns g c = λ m wants made speaks own seals.
    let places = subst (λ (l : List Joiner). map package_and_leaf_of l ≡ zip (adds c.args.used.now) c.args.sent.outcome.change.edits.added) (sym c.deref.ensures.value) c.in_ok-joiners.ensures.places in
    let sent = subst (λ (l : List Joiner). AreSentTo c.args.sent.outcome.change.edits.tree c.args.speaker.now.leaf (option_copied c.args.secrets) l) (sym c.deref.ensures.value) c.in_ok-joiners.ensures.sent in
    welcomed_done g.S.Suite.crypto m c.args.speaker.now speaks c.args.used.now (sent_as c.args.sent) wants made c.args.seed.now (option_copied c.args.secrets) c.args.keys own c.deref.result.now places c.in_ok-group.group c.in_ok-group.ensures c.args.first_seal seals _
    (c.in_ok-welcome.ensures (sent_to m c.args.sent.outcome.change made c.args.sent.joiner c.args.seed.now)
    (secrets_are g.S.Suite.crypto m c.args.speaker.now speaks c.args.used.now (sent_as c.args.sent) wants made c.args.seed.now (option_copied c.args.secrets) c.args.keys own c.deref.result.now places sent))

use Rattle.std.proofs.Common.{◌^◌, sym, subst}
use Rattle.std.proofs.lemmas.Result.{err_from_is_err_and}
use Rattle.mls_tree_model.specs.Term.{Term}
use Rattle.mls_tree.specs.Tree.{term}
use Rattle.mls_model.specs.Make.{path_seals}
use Rattle.mls_public_group.specs.Short.{HasLeavesBelow}
use Rattle.mls_make.specs.Faults.{number_of}
use Rattle.mls_make.proofs.Fitting.{commit_fits_if_short}
use Rattle.mls_make.proofs.Lengths.{used_below, path_leaf_below, seals_short}
use Rattle.mls_make.specs.OwnPath.{made_own_path}
use Rattle.mls_make.specs.TwoSteps.{sent_as}
use Rattle.mls_make.proofs.Adds.{used_short}
use Rattle.mls_make.proofs.TwoSteps.{carried_as, commit_of, sending_fails, sending_goes, first_is, first_below, own_from}
use Rattle.mls_make.proofs.new_commit.commit_from_path.Goals as goal

pub send_commit-requires-clause-fits : goal.send_commit-requires-clause-fits
send_commit-requires-clause-fits g c = commit_fits_if_short c.requires.list.0 c.requires.list.1.0 c.args.list c.args.used.now c.args.own.path c.requires.list.1.1 c.requires.used c.requires.path

pub returns-in_err-sent : goal.returns-in_err-sent
returns-in_err-sent g c =
    let p = err_from_is_err_and c.from_residual.result c.from_residual.ensures.1 in
    rw (p.1, p.2) (λ m wants speaks own other.
    sending_fails g.S.Suite.crypto m c.args.list c.args.used.now c.args.edits (term c.args.own.tree) (made_own_path c.args.own) c.args.seed.now wants (number_of c.in_err-sent.field-0.0) c.args.extensions.now
    (carried_as m c.args.speaker.now c.args.used.now c.args.extensions.now speaks c.requires.carried) own.own.edits own.own.path own.merges (c.in_err-sent.ensures.answer m speaks other))

pub with_welcome-requires-clause-used : goal.with_welcome-requires-clause-used
with_welcome-requires-clause-used g c = used_short c.args.used.now c.requires.used

pub with_welcome-requires-clause-leaves : goal.with_welcome-requires-clause-leaves
with_welcome-requires-clause-leaves g c =
    let commit = commit_of c.args.list (made_own_path c.args.own) in
    subst (λ (t : Term). HasLeavesBelow (2 ^ 27) t) (sym c.in_ok-sent.ensures.tree)
    (c.requires.leaves (used_below c.requires.list.0 c.requires.list.1.0 commit c.args.used.now c.in_ok-sent.ensures.short c.requires.list.1.1 c.requires.used) (path_leaf_below commit c.in_ok-sent.ensures.short c.requires.path))

pub with_welcome-requires-clause-seals : goal.with_welcome-requires-clause-seals
with_welcome-requires-clause-seals g c =
    let commit = commit_of c.args.list (made_own_path c.args.own) in
    first_below (path_seals c.args.own.path) _ c.path_seals-first_seal.result (seals_short c.requires.list.0 c.requires.list.1.0 commit c.args.used.now c.in_ok-sent.sent.outcome.change.edits.added c.in_ok-sent.ensures.short c.requires.list.1.1) c.path_seals-first_seal.ensures

pub returns : goal.returns
returns g c = λ m wants speaks own.
    let commit = commit_of c.args.list (made_own_path c.args.own) in
    let seals = first_is (path_seals c.args.own.path) _ c.path_seals-first_seal.result (seals_short c.requires.list.0 c.requires.list.1.0 commit c.args.used.now c.in_ok-sent.sent.outcome.change.edits.added c.in_ok-sent.ensures.short c.requires.list.1.1) c.path_seals-first_seal.ensures in
    rw (sending_goes g.S.Suite.crypto m c.args.list c.args.used.now c.args.edits (term c.args.own.tree) (made_own_path c.args.own) c.args.seed.now wants (sent_as c.in_ok-sent.sent) c.args.extensions.now
    (carried_as m c.args.speaker.now c.args.used.now c.args.extensions.now speaks c.requires.carried) own.own.edits own.own.path own.merges (c.in_ok-sent.ensures.answer m speaks))
    (c.with_welcome.ensures m wants (made_own_path c.args.own) speaks
    (own_from g.S.Suite.crypto m c.args.used.now c.args.edits c.in_ok-sent.sent.outcome.change.edits wants c.args.seed.now (made_own_path c.args.own) c.args.own.secrets _ c.args.own.keys own.own c.in_ok-sent.ensures.edits c.as_ref-secrets.ensures.value) seals)

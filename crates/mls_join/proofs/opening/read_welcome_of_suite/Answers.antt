use Rattle.std.proofs.Common.{◌≡◌, ◌==◌, false, rules}
use Rattle.mls_tree.proofs.RefusalLaws.{one_number}
use Rattle.std.proofs.lemmas.Result.{err_from_is_err_and}
use Rattle.mls_join.proofs.Welcomes.{outer_fault, suited_fault, outer_other, suited_other, never_refused, suited, welcome_short}
use Rattle.mls_join.proofs.opening.read_welcome_of_suite.Goals as goal

pub returns-in_err-view-clause-answer : goal.returns-in_err-view-clause-answer
returns-in_err-view-clause-answer g c =
    let p = err_from_is_err_and c.from_residual.result c.from_residual.ensures.1 in
    rw (p.1, p.2) (λ _. suited_fault g.S.Suite.crypto.number c.args.bytes.now _ c.in_err-view.ensures)

pub returns-in_err-view-clause-outright : goal.returns-in_err-view-clause-outright
returns-in_err-view-clause-outright g c = λ n h.
    let p = err_from_is_err_and c.from_residual.result c.from_residual.ensures.1 in
    rw (p.1, p.2) (outer_fault g.S.Suite.crypto.number c.args.bytes.now _ n c.in_err-view.ensures h)

pub returns-then-view-NUMBER-clause-answer : goal.returns-then-view-NUMBER-clause-answer
returns-then-view-NUMBER-clause-answer g c =
    let other : (c.in_ok-view.view.cipher_suite == g.S.Suite.crypto.number) ≡ false = search rules in
    λ _. suited_other g.S.Suite.crypto.number c.args.bytes.now _ c.in_ok-view.ensures other

pub returns-then-view-NUMBER-clause-outright : goal.returns-then-view-NUMBER-clause-outright
returns-then-view-NUMBER-clause-outright g c =
    let other : (c.in_ok-view.view.cipher_suite == g.S.Suite.crypto.number) ≡ false = search rules in
    one_number _ 71 (outer_other g.S.Suite.crypto.number c.args.bytes.now _ c.in_ok-view.ensures other)

pub returns-in_err-welcome-clause-outright : goal.returns-in_err-welcome-clause-outright
returns-in_err-welcome-clause-outright g c = λ n h. absurd (never_refused g.S.Suite.crypto.number c.args.bytes.now _ c.in_ok-view.ensures (search rules) n h)

pub returns-clause-answer : goal.returns-clause-answer
returns-clause-answer g c =
    rw (c.in_ok-welcome.ensures c.in_ok-view.ensures.value c.in_ok-view.ensures.shows) (suited g.S.Suite.crypto.number c.args.bytes.now _ c.in_ok-view.ensures (search rules))

pub returns-clause-outright : goal.returns-clause-outright
returns-clause-outright g c = λ n h. absurd (never_refused g.S.Suite.crypto.number c.args.bytes.now _ c.in_ok-view.ensures (search rules) n h)

pub returns-clause-short : goal.returns-clause-short
returns-clause-short g c = rw (c.in_ok-welcome.ensures c.in_ok-view.ensures.value c.in_ok-view.ensures.shows) (welcome_short c.in_ok-view.ensures.value c.in_ok-view.ensures.shows.whole.fits)

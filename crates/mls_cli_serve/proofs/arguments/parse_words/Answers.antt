use Rattle.std.proofs.Common.{refl, subst, ap, ◌∙◌, ◌≡◌, true, map}
use Rattle.clap.specs.Words.{App, app_of, is_simple, is_simple_and_free, fault_of, FailsBy}
use Rattle.clap.proofs.OnLiterals.{clap_on_literals}
use Rattle.mls_cli_serve.specs.Arguments.{mls}
use Rattle.mls_cli_serve.proofs.Matching.{matched_rows, matched_top}
use Rattle.mls_cli_serve.proofs.arguments.parse_words.Goals as goal

is_free : is_simple_and_free mls ≡ true
unfolding clap_on_literals
is_free = refl

is_plain : is_simple mls ≡ true
unfolding clap_on_literals
is_plain = refl

pub returns-clause-rows : goal.returns-clause-rows
returns-clause-rows g c =
    matched_rows c.try_get_matches_from.result (app_of c.in_ok-command.field-0) mls (map g.S.AsStr.text c.args.words.now) c.in_ok-command.ensures is_plain c.try_get_matches_from.ensures.matches

pub returns-clause-top : goal.returns-clause-top
returns-clause-top g c =
    matched_top c.try_get_matches_from.result (app_of c.in_ok-command.field-0) mls (map g.S.AsStr.text c.args.words.now) c.in_ok-command.ensures is_plain c.try_get_matches_from.ensures.matches

pub returns-clause-faults : goal.returns-clause-faults
returns-clause-faults g c =
    subst (λ (a : App). FailsBy (fault_of a (map g.S.AsStr.text c.args.words.now)) c.try_get_matches_from.result)
    c.in_ok-command.ensures
    (c.try_get_matches_from.ensures.kinds (ap is_simple_and_free c.in_ok-command.ensures ∙ is_free))

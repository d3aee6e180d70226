use Rattle.std.proofs.Common.{ap, ap₂, ◌∙◌, ◌≡◌, codes}
use Rattle.clap.specs.Words.{App, app_of, new_app, with_rule, with_subcommand}
use Rattle.mls_cli_serve.specs.Arguments.{check_app, replay_app, show_app, vectors_app, with_version}
use Rattle.mls_cli_serve.specs.ExplainArguments.{explain_rule}
use Rattle.mls_cli_serve.proofs.arguments.command.Goals as goal

pub returns : goal.returns
returns c =
    let one : app_of c.in_ok-first.first ≡ with_subcommand (new_app (codes "mls")) show_app.top =
    c.in_ok-first.ensures.shape c.in_ok-show.ensures.local
    ∙ ap₂ with_subcommand c.new.ensures.app (ap (λ (a : App). a.top) c.in_ok-show.ensures.app) in
    let two : app_of c.in_ok-second.second ≡ with_subcommand (with_subcommand (new_app (codes "mls")) show_app.top) check_app.top =
    c.in_ok-second.ensures.shape c.in_ok-check.ensures.local
    ∙ ap₂ with_subcommand one (ap (λ (a : App). a.top) c.in_ok-check.ensures.app) in
    let three : app_of c.in_ok-third.third ≡ with_subcommand (with_subcommand (with_subcommand (new_app (codes "mls")) show_app.top) check_app.top) replay_app.top =
    c.in_ok-third.ensures.shape c.in_ok-replay.ensures.local
    ∙ ap₂ with_subcommand two (ap (λ (a : App). a.top) c.in_ok-replay.ensures.app) in
    let four : app_of c.in_ok-all.all ≡ with_subcommand (with_subcommand (with_subcommand (with_subcommand (new_app (codes "mls")) show_app.top) check_app.top) replay_app.top) vectors_app.top =
    c.in_ok-all.ensures.shape c.in_ok-vectors.ensures.local
    ∙ ap₂ with_subcommand three (ap (λ (a : App). a.top) c.in_ok-vectors.ensures.app) in
    let whole : app_of c.in_ok-whole.whole ≡ with_rule (with_subcommand (with_subcommand (with_subcommand (with_subcommand (new_app (codes "mls")) show_app.top) check_app.top) replay_app.top) vectors_app.top) explain_rule =
    c.in_ok-whole.ensures.shape c.explain_arg.ensures.local
    ∙ ap₂ with_rule four c.explain_arg.ensures.rule in
    c.describe.ensures ∙ ap with_version whole

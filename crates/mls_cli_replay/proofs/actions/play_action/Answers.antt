use Rattle.std.proofs.Common.{◌≡◌, Option, List, ℕ, Bor, OnErr, option_map, refl, subst, inl, inr}
use Rattle.std.specs.List.{flat_map}
use Rattle.mls_cli_text.specs.InputOutput.{AppendsPart}
use Rattle.mls_cli_text.proofs.Pieces.{nothing_yet}
use Rattle.mls_cli_replay.specs.Actions.{outcome_in}
use Rattle.mls_cli_replay.specs.Replay.{action_entries, entry_text, expectation}
use Rattle.mls_cli_replay.specs.declared.reply.Outcome.{Outcome}
use Rattle.mls_cli_replay.proofs.Playing.{on_err, said_nonempty}
use Rattle.mls_cli_replay.proofs.actions.play_action.Goals as goal

pub returns-in_err-outcome-clause-part : goal.returns-in_err-outcome-clause-part
returns-in_err-outcome-clause-part g c =
    nothing_yet c.from_residual.result _ _ (said_nonempty c.args.action (outcome_in g.S.Suite.crypto c.args.world.now c.args.recorded.now.action) (expectation c.args.recorded.now))

pub returns-in_err-outcome-clause-stopped : goal.returns-in_err-outcome-clause-stopped
returns-in_err-outcome-clause-stopped g c =
    on_err c.from_residual.result (inl (c.in_err-outcome.ensures.part.count, c.in_err-outcome.ensures.part.world, refl))

pub returns-clause-part : goal.returns-clause-part
returns-clause-part g c =
    let expect_is : option_map (λ (t : Bor (List ℕ)). t.now) c.as_deref.result ≡ expectation c.args.recorded.now = c.as_deref.ensures.value in
    let old = g.O.Output.contents c.args.out.now in
    let new = g.O.Output.contents c.print_outcome.new.out in
    let said = subst (λ (e : Option (List ℕ)). OnErr c.print_outcome.result (AppendsPart old new (flat_map entry_text (action_entries c.args.action c.in_ok-outcome.outcome e)))) expect_is c.print_outcome.ensures.part in
    subst (λ (o : Outcome). OnErr c.print_outcome.result (AppendsPart old new (flat_map entry_text (action_entries c.args.action o (expectation c.args.recorded.now))))) c.in_ok-outcome.ensures.outcome said

pub returns-clause-stopped : goal.returns-clause-stopped
returns-clause-stopped g c = on_err c.print_outcome.result (inr c.in_ok-outcome.ensures.world)

use Rattle.std.proofs.Common.{◌∙◌, List, ap, arith, refl, subst, sym}
use Rattle.std.specs.Global.{Global}
use Rattle.std.specs.declared.string.String.{String}
use Rattle.mls_cli_replay.specs.Replay.{entry_words}
use Rattle.mls_cli_replay.proofs.Naming.{past_all}
use Rattle.mls_cli_replay.proofs.Wording.{Worded, worded_all, worded_next}
use Rattle.mls_cli_replay.proofs.record.member_texts.Goals as goal

pub returns-in-None : goal.returns-in-None
returns-in-None g c =
    worded_all c.args.world.now.seats c.loop-number.number c.loop-number.texts.items (past_all c.args.world.now.seats c.loop-number.number (sym c.in-None.ensures)) c.loop-number.invariant

pub loop-number-init : goal.loop-number-init
loop-number-init g c = subst (λ (ts : List (String Global)). Worded c.args.world.now.seats 0 ts) (sym c.new-texts.ensures.items) refl

pub loop-number-preserved : goal.loop-number-preserved
loop-number-preserved g c =
    worded_next c.args.world.now.seats c.loop-number.number c.in-Some.member.now c.in_ok-line_words-in-Some.field-0 c.loop-number.texts.items c.push.new.self.items (sym c.in-Some.ensures)
    (c.in_ok-line_words-in-Some.ensures ∙ ap entry_words c.member_line.ensures) c.in_ok-push-in-Some.ensures.items c.loop-number.invariant

pub returns : goal.returns
returns g c =
    worded_all c.args.world.now.seats c.loop-number.number c.loop-number.texts.items (omega (arith, c.member_count-number-end.ensures)) c.loop-number.invariant

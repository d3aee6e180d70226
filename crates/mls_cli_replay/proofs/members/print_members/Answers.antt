use Rattle.std.proofs.Common.{◌∙◌, sym, arith}
use Rattle.mls_cli_replay.proofs.Naming.{named_all, named_cut, named_on, past_all}
use Rattle.mls_cli_replay.proofs.Playing.{on_err}
use Rattle.mls_cli_replay.proofs.members.print_members.Goals as goal

pub returns-in_err-print-in-Some-clause-part : goal.returns-in_err-print-in-Some-clause-part
returns-in_err-print-in-Some-clause-part g c =
    on_err c.from_residual.result
    (named_cut c.args.world.now.seats _ _ _ c.loop-number.number c.in-Some.member.now (sym c.in-Some.ensures) c.loop-number.invariant.named (rw c.member_line.ensures at c.in_err-print-in-Some.ensures.part))

pub returns-in-None-clause-whole : goal.returns-in-None-clause-whole
returns-in-None-clause-whole g c =
    named_all c.args.world.now.seats _ _ c.loop-number.number (past_all c.args.world.now.seats c.loop-number.number (sym c.in-None.ensures)) c.loop-number.invariant.named

pub loop-number-preserved : goal.loop-number-preserved
loop-number-preserved g c = record {
  kept = c.in_ok-print-in-Some.ensures.fault ∙ c.loop-number.invariant.kept;
  named = named_on c.args.world.now.seats _ _ _ c.loop-number.number c.in-Some.member.now (sym c.in-Some.ensures) c.loop-number.invariant.named (rw c.member_line.ensures at c.in_ok-print-in-Some.ensures.whole);
}

pub returns-clause-whole : goal.returns-clause-whole
returns-clause-whole g c =
    named_all c.args.world.now.seats _ _ c.loop-number.number (omega (arith, c.member_count-number-end.ensures)) c.loop-number.invariant.named

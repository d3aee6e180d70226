use Rattle.std.proofs.Common.{◌∙◌, ap, sym, subst, List, arith, map, string_bytes}
use Rattle.std.proofs.lemmas.List.{length-map}
use Rattle.mls_cli_replay.specs.declared.line.ReplayLine.{ReplayLine}
use Rattle.mls_cli_replay.specs.Replay.{differences}
use Rattle.mls_cli_replay.proofs.Ending.{Compared, compared_all, compared_next, compared_none}
use Rattle.mls_cli_replay.proofs.ends.differences_of.Goals as goal

pub loop-number-init : goal.loop-number-init
loop-number-init g c =
    subst (λ (ls : List ReplayLine). Compared c.args.world.now.seats (map string_bytes c.args.texts.now) c.count-number-end.result 0 ls) (sym c.new-lines.ensures.items)
    (compared_none c.args.world.now.seats (map string_bytes c.args.texts.now) c.count-number-end.result)

pub loop-number-preserved : goal.loop-number-preserved
loop-number-preserved g c =
    compared_next c.args.world.now.seats (map string_bytes c.args.texts.now) c.count-number-end.result c.loop-number.number c.loop-number.lines.items c.add_line.new.lines.items c.in_ok-found.found
    c.loop-number-test.true c.in_ok-found.ensures c.in_ok-add_line.ensures c.loop-number.invariant

pub returns-clause-lines : goal.returns-clause-lines
returns-clause-lines g c =
    compared_all c.args.world.now.seats (map string_bytes c.args.texts.now) c.count-number-end.result c.loop-number.number c.loop-number.lines.items (omega arith) c.loop-number.invariant
    ∙ ap (differences c.args.world.now.seats (map string_bytes c.args.texts.now) 0) (omega (arith, c.count-number-end.ensures, length-map c.args.texts.now string_bytes))

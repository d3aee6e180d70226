use Rattle.std.proofs.Common.{◌++◌, ap₂, sym, ◌∙◌}
use Rattle.mls_cli_show.proofs.Numbers.{one_more}
use Rattle.mls_cli_show.proofs.numbered.list_lines.Goals as goal

pub loop-number-preserved : goal.loop-number-preserved
loop-number-preserved g c =
    let step = one_more g.T.Listed.lines c.args.items.now c.loop-number.number c.index-items-number.result c.loop-number-test.true c.index-items-number.is in
    c.in_ok-lines.ensures ∙ (ap₂ (λ xs ys. xs ++ ys) c.loop-number.invariant c.in_ok-item_lines.ensures ∙ sym step)

use Rattle.std.proofs.Common.{◌≡◌, ◌-◌, None, arith, sym, ◌∙◌, ap, take}
use Rattle.std.proofs.lemmas.List.{get_or_default}
use Rattle.mls_tree_model.specs.Arrays.{without_last_blanks}
use Rattle.mls_tree_array.proofs.Sent.{cut-front, cut-back, cut-none}
use Rattle.mls_tree_array.proofs.order.sent_len.Goals as goal

pub returns-then-is_taken-clause-cut : goal.returns-then-is_taken-clause-cut
returns-then-is_taken-clause-cut c =
    cut-front c.args.cells.now.nodes c.loop-len.len _ (omega arith) (omega arith) (c.slot.ensures ∙ get_or_default c.args.cells.now.nodes (c.loop-len.len - 1) None _ (omega arith)) (sym c.is_taken.ensures ∙ c.if-is_taken.true)
    ∙ c.loop-len.invariant.1

pub loop-len-preserved : goal.loop-len-preserved
loop-len-preserved c = (
  omega arith,
  cut-back c.args.cells.now.nodes c.loop-len.len _ (omega arith) (omega arith) (c.slot.ensures ∙ get_or_default c.args.cells.now.nodes (c.loop-len.len - 1) None _ (omega arith)) (sym c.is_taken.ensures ∙ c.if-is_taken.false)
      ∙ c.loop-len.invariant.1,
)

pub returns-clause-cut : goal.returns-clause-cut
returns-clause-cut c =
    let none : c.loop-len.len ≡ 0 = omega arith in
    sym (sym c.loop-len.invariant.1 ∙ ap (λ k. without_last_blanks (take k c.args.cells.now.nodes)) none ∙ cut-none)

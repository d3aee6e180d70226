use Rattle.std.proofs.Common.{arith, sym, ap, ◌∙◌}
use Rattle.mls_checks.specs.Leaf.{is_capable}
use Rattle.mls_tree_model.specs.Keys.{passes}
use Rattle.mls_tree_model.specs.Arrays.{term_of}
use Rattle.mls_tree.proofs.Passing.{at_first, fails_here, passes_here, at_end, capable_told}
use Rattle.mls_tree.proofs.checking.are_all_capable.Goals as goal

pub loop-i-init : goal.loop-i-init
loop-i-init c = at_first (λ j x. is_capable c.args.suite x) c.args.height c.args.cells.now.nodes c.requires.shape

pub returns-then-not-is_capable_or_blank : goal.returns-then-not-is_capable_or_blank
returns-then-not-is_capable_or_blank c =
    λ k group e.
    sym (sym (capable_told k group c.args.suite (term_of c.args.height c.args.cells.now.nodes) e) ∙ sym c.loop-i.invariant
    ∙ fails_here (λ j x. is_capable c.args.suite x) c.args.height c.args.cells.now.nodes c.requires.shape c.loop-i.i (omega arith) (sym (c.is_capable_or_blank.ensures c.loop-i.i ∙ ap (passes (λ j x. is_capable c.args.suite x) c.loop-i.i) c.leaf.ensures) ∙ c.if-not-is_capable_or_blank.true))

pub loop-i-preserved : goal.loop-i-preserved
loop-i-preserved c =
    passes_here (λ j x. is_capable c.args.suite x) c.args.height c.args.cells.now.nodes c.requires.shape c.loop-i.i (omega arith) (sym (c.is_capable_or_blank.ensures c.loop-i.i ∙ ap (passes (λ j x. is_capable c.args.suite x) c.loop-i.i) c.leaf.ensures) ∙ c.if-not-is_capable_or_blank.false)
    ∙ c.loop-i.invariant

pub returns : goal.returns
returns c =
    λ k group e.
    sym (sym (capable_told k group c.args.suite (term_of c.args.height c.args.cells.now.nodes) e) ∙ sym c.loop-i.invariant
    ∙ at_end (λ j x. is_capable c.args.suite x) c.args.height c.args.cells.now.nodes c.requires.shape c.loop-i.i (omega arith))

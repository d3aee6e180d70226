use Rattle.std.proofs.Common.{sym, ◌∙◌, arith}
use Rattle.mls_secret_tree.proofs.Passing.{find_here, find_behind, find_none}
use Rattle.mls_secret_tree.proofs.ratchet.find_key.Goals as goal

pub returns-then-k-generation : goal.returns-then-k-generation
returns-then-k-generation c = sym (find_here _ _ _ _ c.loop-k-test.true c.if-k-generation.true) ∙ c.loop-k.invariant

pub loop-k-preserved : goal.loop-k-preserved
loop-k-preserved c = find_behind _ _ _ _ c.loop-k-test.true c.if-k-generation.false ∙ c.loop-k.invariant

pub returns : goal.returns
returns c = sym (find_none c.args.generation c.args.kept.now c.loop-k.k-index (omega arith)) ∙ c.loop-k.invariant

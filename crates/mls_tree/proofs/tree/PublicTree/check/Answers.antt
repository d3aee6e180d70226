use Rattle.std.proofs.Common.{◌≡◌, ◌^◌, ◌≤◌, ap, ◌∙◌, sym, arith}
use Rattle.std.proofs.Math.Pow.{pow_mono}
use Rattle.mls_tree_model.specs.Term.{width}
use Rattle.mls_tree_model.specs.Arrays.{term_of}
use Rattle.mls_tree_model.proofs.ArrayLaws.{width-term_of}
use Rattle.mls_tree_model.proofs.SoundLaws.{within_from}
use Rattle.mls_tree.specs.Tree.{term, max_leaves}
use Rattle.mls_tree.specs.Rules.{rules_of}
use Rattle.mls_tree.proofs.Perfect.{perfect}
use Rattle.mls_tree.proofs.Checked.{good_checked}
use Rattle.mls_tree.proofs.Chilling.{warmed}
use Rattle.mls_tree.proofs.tree.PublicTree.check.Goals as goal

pub returns-clause-warms : goal.returns-clause-warms
returns-clause-warms g c = warmed c.args.self.now c.tree_hash-tree_hash.new.self c.tree_hash-tree_hash.ensures.all c.tree_hash-tree_hash.ensures.counted

pub returns-clause-good : goal.returns-clause-good
returns-clause-good g c =
    let at : term_of c.self.inside.height c.self.inside.cells.nodes ≡ term c.args.self.now = ap term c.self.view_is ∙ c.tree_hash-tree_hash.ensures.same in
    let wide = ap width (sym at) ∙ width-term_of c.self.inside.height c.self.inside.cells.nodes in
    let low : 2 ^ c.self.inside.height ≤ max_leaves = pow_mono c.self.invariant.1 in
    good_checked (rules_of g.S.Suite.crypto c.args.group_id.now) _ (term c.args.self.now) at c.check.result c.check.ensures.answer c.check.ensures.rising (perfect c.args.self.now)
    (within_from max_leaves (term c.args.self.now) (omega arith))

use Rattle.std.proofs.Common.{◌∙◌, ap}
use Rattle.mls_tree.specs.PreparedPath.{Prepared}
use Rattle.mls_tree.proofs.Following.{root_of}
use Rattle.mls_tree.proofs.prepared.PreparedPath.tree_hash.Goals as goal

pub returns : goal.returns
returns c = λ t is. ap (λ (p : Prepared). p.root) c.self.view_is ∙ root_of t c.args.self.now is

use Rattle.std.proofs.Common.{◌≡◌, drop}
use Rattle.mls_tree.specs.Tree.{term}
use Rattle.mls_model.specs.Commit.{apply_removes}
use Rattle.mls_public_group.proofs.proposal_list.apply_removes.Given as goal

abbrev pub invariant-loop-leaf : goal.invariant-loop-leaf
invariant-loop-leaf l = apply_removes (term l.tree) (drop l.leaf-index l.leaves) ≡ apply_removes (term l.fn.tree) l.leaves

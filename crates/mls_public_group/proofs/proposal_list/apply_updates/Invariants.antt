use Rattle.std.proofs.Common.{◌≡◌, drop}
use Rattle.mls_tree.specs.Tree.{term}
use Rattle.mls_model.specs.Proposals.{updates}
use Rattle.mls_model.specs.Commit.{apply_updates}
use Rattle.mls_public_group.proofs.proposal_list.apply_updates.Given as goal

abbrev pub invariant-loop-one : goal.invariant-loop-one
invariant-loop-one l = apply_updates (term l.tree) (updates (drop l.one-index l.used)) ≡ apply_updates (term l.fn.tree) (updates l.used)

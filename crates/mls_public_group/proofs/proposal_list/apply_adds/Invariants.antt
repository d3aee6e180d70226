use Rattle.std.proofs.Common.{◌≡◌, drop}
use Rattle.mls_tree.specs.Tree.{term}
use Rattle.mls_model.specs.Proposals.{adds}
use Rattle.mls_model.specs.Commit.{apply_adds}
use Rattle.mls_public_group.specs.ProposalList.{prepend_added}
use Rattle.mls_public_group.proofs.proposal_list.apply_adds.Given as goal

abbrev pub invariant-loop-one : goal.invariant-loop-one
invariant-loop-one l = prepend_added l.added.items (apply_adds (term l.tree) (adds (drop l.one-index l.used))) ≡ apply_adds (term l.fn.tree) (adds l.used)

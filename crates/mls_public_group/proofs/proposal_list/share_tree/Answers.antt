use Rattle.std.proofs.Common.{ap}
use Rattle.mls_tree.specs.Tree.{term}
use Rattle.mls_public_group.proofs.Folding.{untouched}
use Rattle.mls_public_group.proofs.proposal_list.share_tree.Goals as goal

pub returns : goal.returns
returns c =
    untouched (term c.args.tree.now) _ c.new.result.items (ap term c.in_ok-clone.ensures.cases) c.new.ensures.items

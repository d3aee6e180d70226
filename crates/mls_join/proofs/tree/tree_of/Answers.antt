use Rattle.std.proofs.Common.{◌≡◌, ◌^◌, sym, ◌∙◌}
use Rattle.std.specs.List.{each_same}
use Rattle.mls_public_group.proofs.LeavesBelow.{leaves_below}
use Rattle.mls_join.proofs.tree.tree_of.Goals as goal

pub returns-clause-below : goal.returns-clause-below
returns-clause-below c =
    let copy = c.in_ok-nodes.ensures.cases in
    let same : c.in_ok-nodes.nodes ≡ c.args.sent.now = sym copy.3 ∙ each_same _ _ copy.4.0 ∙ copy.2 in
    leaves_below (2 ^ 27) c.args.sent.now c.into_vec.result.items _ c.requires (c.into_vec.ensures ∙ same) c.in_ok-tree.ensures.answer

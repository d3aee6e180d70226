use Rattle.std.proofs.Common.{◌≡◌, sym, ◌∙◌}
use Rattle.std.specs.List.{each_same}
use Rattle.mls_cli_check.proofs.InfoLengths.{leaves_short}
use Rattle.mls_cli_check.proofs.group_info.tree_of.Goals as goal

pub returns-clause-short : goal.returns-clause-short
returns-clause-short c =
    let copy = c.in_ok-shared.ensures.cases in
    let same : c.in_ok-shared.shared ≡ c.args.nodes.now = sym copy.3 ∙ each_same _ _ copy.4.0 ∙ copy.2 in
    leaves_short c.args.nodes.now c.into_vec.result.items _ c.requires (c.into_vec.ensures ∙ same) c.in_ok-tree.ensures.answer

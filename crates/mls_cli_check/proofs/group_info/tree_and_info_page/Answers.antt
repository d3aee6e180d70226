use Rattle.std.proofs.Common.{ap}
use Rattle.mls_cli_check.specs.GroupInfo.{info_checks}
use Rattle.mls_cli_check.proofs.GroupInfos.{then_same}
use Rattle.mls_cli_check.proofs.InfoLengths.{short_id, short_parts}
use Rattle.mls_cli_check.proofs.group_info.tree_and_info_page.Goals as goal

pub tree_page-requires-clause-group : goal.tree_page-requires-clause-group
tree_page-requires-clause-group g c =
    rw c.as_slice-group_id.ensures (short_id c.args.info.now.group_context (short_parts c.args.info.now c.requires.info).context)

pub returns : goal.returns
returns g c =
    then_same c.with_info_if_good.result _ _ _ _ (rw c.as_slice-group_id.ensures at c.in_ok-page.ensures.page) (ap (info_checks g.S.Suite.crypto c.args.info.now) c.in_ok-page.ensures.same) c.with_info_if_good.ensures

use Rattle.mls_cli_place.specs.GroupFinding.{finds_tree_extensions}
use Rattle.mls_cli_place.proofs.Items.{fault_fits}
use Rattle.mls_cli_place.proofs.group.pass_info_extensions.Goals as goal

pub before-requires : goal.before-requires
before-requires c =
    let opened = c.in_ok-content.ensures in
    fault_fits finds_tree_extensions c.args.reader.now c.in_ok-content.content c.content_of.new.reader c.in_ok-content.behind c.in-Err.found opened.bytes opened.size opened.content.0 opened.content.1 c.in-Err.ensures

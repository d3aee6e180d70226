use Rattle.mls_cli_place.specs.Finding.{finds_items}
use Rattle.mls_cli_place.proofs.Items.{fault_fits}
use Rattle.mls_cli_place.proofs.vectors.ItemsLocated.locate.Goals as goal

pub before-requires : goal.before-requires
before-requires g c =
    let opened = c.in_ok-content.ensures in
    fault_fits (finds_items g.met.T.Located.finds) c.args.reader.now c.in_ok-content.content c.content_of.new.reader c.in_ok-content.behind c.in-Err.found opened.bytes opened.size opened.content.0 opened.content.1 c.in-Err.ensures

use Rattle.mls_cli_place.proofs.Items.{goes_on, is_shorter}
use Rattle.mls_cli_place.proofs.vectors.locate_items.Goals as goal

pub loop-content-smaller : goal.loop-content-smaller
loop-content-smaller g c =
    is_shorter g.T.Codec.format g.T.Codec.nonempty g.met.T.Located.finds c.loop-content.content c.locate.new.reader c.loop-content-test.ensures.bytes c.in_default.ensures

pub loop-content-preserved : goal.loop-content-preserved
loop-content-preserved g c =
    let shorter = is_shorter g.T.Codec.format g.T.Codec.nonempty g.met.T.Located.finds c.loop-content.content c.locate.new.reader c.loop-content-test.ensures.bytes c.in_default.ensures in
    goes_on g.T.Located.walk c.args.content c.loop-content.index c.loop-content.content c.locate.new.reader shorter c.in_default.ensures c.loop-content.invariant

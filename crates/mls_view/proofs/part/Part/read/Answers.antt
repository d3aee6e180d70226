use Rattle.std.proofs.Common.{◌∙◌, ap}
use Rattle.mls_leaf.proofs.WholeLaws.{spelling_passes}
use Rattle.mls_view.proofs.part.Part.read.Goals as goal

pub invariant_of-result : goal.invariant_of-result
invariant_of-result g c =
    let p = c.in_ok-bytes.ensures in
    ap g.T.Codec.format.pass p.spells.spelled ∙ spelling_passes g.T.Codec.format p.value p.spells.fits

use Rattle.std.proofs.Common.{◌∙◌, ap}
use Rattle.mls_leaf.proofs.WholeLaws.{spelling_passes}
use Rattle.mls_view.proofs.part.Part.of.Goals as goal

pub invariant_of-result : goal.invariant_of-result
invariant_of-result g c =
    let f = g.T.Codec.format in
    let t = f.lawful.takes c.args.before.now c.requires.0 c.args.behind.now c.lend_front.ensures.bytes c.requires.1 in
    ap f.pass (c.lend_front.ensures.front (f.spell c.requires.0) t.0.parts) ∙ spelling_passes f c.requires.0 t.1

pub returns : goal.returns
returns g c = λ v read.
    let f = g.T.Codec.format in
    let t = f.lawful.takes c.args.before.now v c.args.behind.now c.lend_front.ensures.bytes read in
    record { fits = t.1; spelled = c.lend_front.ensures.front (f.spell v) t.0.parts }

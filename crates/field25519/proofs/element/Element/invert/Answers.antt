use Rattle.std.proofs.Common.{◌≡◌, ◌*◌, ◌^◌, ◌∙◌}
use Rattle.curve25519.specs.Field25519.{raise}
use Rattle.curve25519.proofs.Field25519.{raise_inverse}
use Rattle.field25519.proofs.Meaning.{combined, repeated}
use Rattle.field25519.proofs.element.Element.invert.Goals as goal

pub returns : goal.returns
returns c =
    let x = c.args.self.now in
    let up : c.square_times.result ≡ raise x (1809251394333065553493296640760748560207343510400633813116524750123642650623 * 2 ^ 5) = repeated x _ _ (1809251394333065553493296640760748560207343510400633813116524750123642650623) 5 c.chain-most.ensures.most c.square_times.ensures in
    combined x _ _ _ (57896044618658097711785492504343953926634992332820282019728792003956564819936) 11 up c.chain-most.ensures.eleven c.multiply.ensures ∙ raise_inverse x

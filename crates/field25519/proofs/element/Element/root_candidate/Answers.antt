use Rattle.std.proofs.Common.{◌≡◌, ◌*◌, ◌^◌, ◌+◌, sym}
use Rattle.curve25519.specs.Field25519.{raise}
use Rattle.curve25519.proofs.Field25519.{raise-one}
use Rattle.field25519.proofs.Meaning.{combined, repeated}
use Rattle.field25519.proofs.element.Element.root_candidate.Goals as goal

pub returns : goal.returns
returns c =
    let x = c.args.self.now in
    let one : x ≡ raise x 1 = sym (raise-one x) in
    let two : c.square.result ≡ raise x (1 + 1) = combined x _ _ _ (1) (1) one one c.square.ensures in
    let up : c.square_times.result ≡ raise x (1809251394333065553493296640760748560207343510400633813116524750123642650623 * 2 ^ 2) = repeated x _ _ (1809251394333065553493296640760748560207343510400633813116524750123642650623) 2 c.chain-most.ensures.most c.square_times.ensures in
    combined x _ _ _ (7237005577332262213973186563042994240829374041602535252466099000494570602492) 2 up two c.multiply.ensures

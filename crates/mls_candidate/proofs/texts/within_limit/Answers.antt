use Rattle.std.proofs.Common.{arith, refl}
use Rattle.mls_wire.specs.Format.{IsBytes}
use Rattle.mls_candidate.proofs.Written.{within}
use Rattle.mls_candidate.proofs.texts.within_limit.Goals as goal

pub returns : goal.returns
returns c =
    let bytes : IsBytes c.args.bytes.now = λ i. omega (arith, c.type_inv.bytes i) in
    within c.args.bytes.now _ bytes refl

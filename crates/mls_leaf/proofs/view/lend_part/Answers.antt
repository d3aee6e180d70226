use Rattle.std.proofs.Common.{subst}
use Rattle.mls_wire.specs.Format.{IsBytes}
use Rattle.mls_leaf.proofs.Loops.{is_part}
use Rattle.mls_leaf.proofs.view.lend_part.Goals as goal

pub returns : goal.returns
returns g c =
    let fits : IsBytes c.args.reader.now = subst IsBytes c.rest-before.ensures c.lend_front.ensures.bytes in
    is_part g.T.Codec.format c.args.reader.now c.check.new.reader c.lend_front.result.now fits c.in_ok-check.ensures (λ front e. c.lend_front.ensures.front front (rw (c.rest-before.ensures, c.rest.ensures) e))

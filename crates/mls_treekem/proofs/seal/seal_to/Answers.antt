use Rattle.mls_treekem.proofs.Sealing.{one_sealed, one_unfit}
use Rattle.mls_treekem.proofs.seal.seal_to.Goals as goal

pub returns-in-Some-2 : goal.returns-in-Some-2
returns-in-Some-2 g c =
    one_sealed g.S.Suite.crypto c.args.context.now c.args.secret.now c.args.rnd.now c.args.key c.in-Some.pk c.in-Some.is c.in_ok-sealed.field-0 c.in_ok-sealed.ensures
    c.in-Some-2.sealed c.in-Some-2.is c.from_vec.result c.from_vec-in-Some-2.result c.from_vec.ensures c.from_vec-in-Some-2.ensures

pub returns-in-None : goal.returns-in-None
returns-in-None g c =
    λ other.
    one_unfit g.S.Suite.crypto c.args.context.now c.args.secret.now c.args.rnd.now c.args.key c.in-Some.pk c.in-Some.is c.in_ok-sealed.field-0 c.in_ok-sealed.ensures c.in-None.is

use Rattle.std.proofs.lemmas.Result.{err_from_is_err_and}
use Rattle.std.proofs.Common.{arith, ap, refl}
use Rattle.mls_wire.specs.Checks.{require_some}
use Rattle.mls_tree.specs.Tree.{term}
use Rattle.mls_treekem.specs.Faults.{number_of}
use Rattle.mls_treekem.specs.Place.{subtree_at}
use Rattle.mls_treekem.proofs.Sealing.{seals_more, seals_fail, seals_end}
use Rattle.mls_treekem.proofs.seal.Sealer.seal_all.Goals as goal

pub returns-in_err-ciphertext : goal.returns-in_err-ciphertext
returns-in_err-ciphertext g c =
    let p = err_from_is_err_and c.from_residual.result c.from_residual.ensures.1 in
    rw (p.1, p.2) (λ other.
    seals_fail g.S.Suite.crypto c.args.self.now.context.now c.args.secret.now c.args.place.now.first (subtree_at (term c.args.self.now.tree.now) c.args.place.now.beside) c.args.self.now.seed.now c.args.self.now.added.now c.args.reached.now c.args.first
    c.loop-node.node-index c.loop-node.sealed.items c.loop-node.number c.loop-node.invariant
    (omega arith) _ c.is_leaf_among.ensures c.if-is_leaf_among.false _ c.key_beside-key.ensures _ c.seal_seed_of-rnd.ensures
    (number_of c.in_err-ciphertext.field-0.0) (c.in_err-ciphertext.ensures other))

pub loop-node-preserved : goal.loop-node-preserved
loop-node-preserved g c =
    seals_more g.S.Suite.crypto c.args.self.now.context.now c.args.secret.now c.args.place.now.first (subtree_at (term c.args.self.now.tree.now) c.args.place.now.beside) c.args.self.now.seed.now c.args.self.now.added.now c.args.reached.now c.args.first
    c.loop-node.node-index c.loop-node.sealed.items c.loop-node.number c.loop-node.invariant
    (omega arith) _ c.is_leaf_among.ensures c.if-is_leaf_among.false _ c.key_beside-key.ensures _ c.seal_seed_of-rnd.ensures
    c.in_ok-ciphertext.ciphertext c.in_ok-ciphertext.ensures c.push.new.self.items c.in_ok-push.ensures.items _ refl

pub returns : goal.returns
returns g c =
    ap (require_some 36)
    (seals_end g.S.Suite.crypto c.args.self.now.context.now c.args.secret.now c.args.place.now.first (subtree_at (term c.args.self.now.tree.now) c.args.place.now.beside) c.args.self.now.seed.now c.args.self.now.added.now c.args.reached.now c.args.first
    c.loop-node.node-index c.loop-node.sealed.items c.loop-node.number c.loop-node.invariant (omega arith))

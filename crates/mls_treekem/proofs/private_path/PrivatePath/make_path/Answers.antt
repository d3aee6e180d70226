use Rattle.std.proofs.Common.{refl, ap}
use Rattle.mls_treekem.proofs.KeysAtHeights.{has_made, raised_is, made_low}
use Rattle.mls_treekem.proofs.private_path.PrivatePath.make_path.Goals as goal

pub invariant_of-self : goal.invariant_of-self
invariant_of-self g c = (made_low _ _ _ _ c.in_ok-put_keys.ensures c.new-above.ensures.items, c.self.invariant.1)

pub returns-clause-keys : goal.returns-clause-keys
returns-clause-keys g c =
    has_made g.S.Suite.crypto c.args.start.now c.args.filtered.now c.args.self.now _ _ _ c.put_keys.new.above.items c.new-above.result.items
    c.in_ok-made.ensures.pairs c.deref.ensures.value c.new-above.ensures.items c.in_ok-put_keys.ensures
    (ap (λ p. p.leaf) c.self.view_is) (ap (λ p. p.own) c.self.view_is) refl

pub returns-clause-pins : goal.returns-clause-pins
returns-clause-pins g c =
    raised_is g.S.Suite.crypto c.args.start.now c.args.filtered.now c.args.self.now _ _ _ c.put_keys.new.above.items c.new-above.result.items
    c.in_ok-made.ensures.pairs c.deref.ensures.value c.new-above.ensures.items c.in_ok-put_keys.ensures
    (ap (λ p. p.leaf) c.self.view_is) (ap (λ p. p.own) c.self.view_is) refl

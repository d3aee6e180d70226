use Rattle.std.proofs.Common.{ap, ◌<◌, ◌^◌, subst}
use Rattle.mls_treekem.proofs.Levels.{are_pairs, view_low, listed_none}
use Rattle.mls_treekem.proofs.private_path.PrivatePath.keys.Goals as goal

pub returns : goal.returns
returns c =
    are_pairs c.args.self.now _ 32
    (subst (λ n. n < 2 ^ 32) (ap (λ p. p.leaf) c.self.view_is) c.self.invariant.1)
    (view_low c.args.self.now c.self.inside.above.items 32 (ap (λ p. p.above) c.self.view_is) c.self.invariant.0)
    (listed_none _ _ _ c.in_ok-push_pairs.ensures c.new-pairs.ensures.items)

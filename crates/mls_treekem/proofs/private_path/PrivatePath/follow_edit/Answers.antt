use Rattle.std.proofs.Common.{subst, refl, ap, unwrap_or, ◌∙◌}
use Rattle.std.specs.Option.{option_copied}
use Rattle.mls_tree.specs.Tree.{term}
use Rattle.mls_treekem.specs.Place.{IsWay}
use Rattle.mls_treekem.proofs.Followed.{followed_low, has_followed, way_read, way_low}
use Rattle.mls_treekem.proofs.private_path.PrivatePath.follow_edit.Goals as goal

pub invariant_of-self : goal.invariant_of-self
invariant_of-self c =
    let w = way_read _ _ _ _ c.in_ok-places.ensures c.deref.ensures.value in
    (followed_low (term c.args.tree.now) _ c.deref.result.now c.push_kept_keys.new.above.items c.in_ok-above.above.items 32 c.in_ok-above.ensures.items c.in_ok-push_kept_keys.ensures (way_low _ _ _ w), c.self.invariant.1)

pub returns-clause-ok : goal.returns-clause-ok
returns-clause-ok c =
    let w = way_read _ _ _ _ c.in_ok-places.ensures c.deref.ensures.value in
    has_followed (option_copied c.args.own_key) (term c.args.tree.now) c.args.self.now _ c.deref.result.now c.push_kept_keys.new.above.items c.in_ok-above.above.items c.key_after-own.result
    (subst (λ p. IsWay (term c.args.tree.now) p.leaf c.deref.result.now) c.self.view_is w)
    c.in_ok-above.ensures.items c.in_ok-push_kept_keys.ensures
    (c.key_after-own.ensures ∙ ap (λ p. unwrap_or (option_copied c.args.own_key) p.own) c.self.view_is)
    (ap (λ p. p.leaf) c.self.view_is) refl refl

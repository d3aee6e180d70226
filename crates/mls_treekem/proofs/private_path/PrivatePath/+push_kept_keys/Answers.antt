use Rattle.std.proofs.Common.{refl, reverse}
use Rattle.std.proofs.lemmas.List.{nil_from_length}
use Rattle.mls_tree.specs.Tree.{term}
use Rattle.mls_treekem_model.specs.Keys.{all_keys}
use Rattle.mls_treekem.proofs.Followed.{followed_none, followed_more, key_is, plus_one}
use Rattle.mls_treekem.proofs.private_path.PrivatePath.+push_kept_keys.Goals as goal

pub returns-in_ok-push : goal.returns-in_ok-push
returns-in_ok-push t c =
    followed_more (term c.args.tree.now) (all_keys c.args.self.now) c.in-Some.place.now c.in-Some.below.now c.args.places.now c.push_kept_keys.new.above.items _ (reverse c.args.above.now.items) _
    c.in-Some.ensures.cases.0 c.in_ok-push_kept_keys.ensures c.in_ok-push.ensures.items
    (key_is _ _ _ _ _ _ c.key_at_if.ensures c.has_parent.ensures (plus_one _ _ refl))

pub returns-in_default : goal.returns-in_default
returns-in_default t c = followed_none (term c.args.tree.now) (all_keys c.args.self.now) c.args.places.now _ (nil_from_length _ c.in_default.ensures.cases)

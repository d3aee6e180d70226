use Rattle.std.specs.Option.{option_copied}
use Rattle.mls_world_plain.proofs.Naming.{walk_begun, walked_on, walked_all}
use Rattle.mls_world_plain.proofs.commit_names.names_listed.Goals as goal

pub loop-listed-init : goal.loop-listed-init
loop-listed-init g c = λ list items. walk_begun c.args.member.now.kept list c.walk-walk.result _ c.new-names.ensures.items items

pub loop-listed-preserved : goal.loop-listed-preserved
loop-listed-preserved g c = λ list items.
    walked_on c.args.member.now.kept list c.loop-listed.walk c.next.new.self c.in-Some.listed c.next.result c.loop-listed.names.items _ (option_copied c.name_listed-message.result)
    (c.loop-listed.invariant list items) c.next.ensures.step c.in-Some.is c.name_listed-message.ensures c.in_ok-push_some.ensures

pub returns : goal.returns
returns g c = λ list spells.
    walked_all c.args.member.now.kept list c.loop-listed.walk c.next.new.self c.next.result c.loop-listed.names.items
    (c.loop-listed.invariant list (c.walk-walk.ensures list spells)) c.next.ensures.step c.in_default.is

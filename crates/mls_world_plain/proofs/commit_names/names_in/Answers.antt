use Rattle.std.proofs.Common.{ℕ, List, sym, subst, ◌+◌}
use Rattle.std.specs.Option.{option_copied}
use Rattle.mls_world_plain.proofs.Naming.{NamesFrom, names_next, names_end}
use Rattle.mls_world_plain.proofs.commit_names.names_in.Goals as goal

pub loop-item-preserved : goal.loop-item-preserved
loop-item-preserved g c =
    subst (λ (ns : List (List ℕ)). NamesFrom c.args.member.now.kept c.args.list.now (c.loop-item.item-index + 1) ns) (sym c.in_ok-push_some.ensures)
    (names_next c.args.member.now.kept c.args.list.now c.loop-item.item-index c.item-item.result c.loop-item.names.items (option_copied c.name_of-message.result) c.loop-item-test.true c.item-item.is c.name_of-message.ensures c.loop-item.invariant)

pub returns : goal.returns
returns g c = names_end c.args.member.now.kept c.args.list.now c.loop-item.item-index c.loop-item.names.items c.loop-item-test.false c.loop-item.invariant

use Rattle.mls_world_plain.proofs.Beginning.{begun_stored, begun_world}
use Rattle.mls_world_plain.proofs.world.PlainWorld.begin_member.Goals as goal

pub invariant_of-self-2 : goal.invariant_of-self-2
invariant_of-self-2 g c =
    begun_stored c.self.inside.seats.items c.reserve.new.self.items c.push_reserved.new.self.items c.self.inside.made.items c.self.inside.journals.list c.begin.new.self.list _ _
    c.self.invariant c.reserve.ensures.items c.push_reserved.ensures.items c.in-Ok.ensures.ok c.in-Ok.ensures.number

pub returns-clause-ok : goal.returns-clause-ok
returns-clause-ok g c = λ e found.
    begun_world c.args.self.now c.self.inside.entrants.items c.self.inside.seats.items c.reserve.new.self.items c.push_reserved.new.self.items _ c.self.inside.made.items c.self.inside.journals.list c.begin.new.self.list
    c.args.n c.index_mut-entrant.result.now _ e _ _
    c.self.view_is c.self.invariant c.reserve.ensures.items c.push_reserved.ensures.items c.in-Ok.ensures.ok c.in-Ok.ensures.number
    c.entrant.view_is c.index_mut-entrant.ensures.value c.requires found

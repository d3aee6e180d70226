use Rattle.std.proofs.Common.{refl}
use Rattle.mls_world_plain.proofs.Beginning.{followed_world}
use Rattle.mls_world_plain.proofs.world.PlainWorld.follow_member.Goals as goal

pub returns-clause-ok : goal.returns-clause-ok
returns-clause-ok g c = λ e d found made.
    followed_world c.args.self.now c.self.inside.entrants.items c.self.inside.seats.items c.reserve.new.self.items c.push_reserved.new.self.items _ c.self.inside.made.items c.self.inside.journals.list
    c.args.n c.index_mut-entrant.result.now _ e _ c.args.made c.index-making.result.now _ d
    c.self.view_is c.self.invariant c.reserve.ensures.items c.push_reserved.ensures.items refl c.making.view_is c.requires.made c.index-making.ensures made
    c.entrant.view_is c.index_mut-entrant.ensures.value c.requires.candidate found

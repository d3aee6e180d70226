use Rattle.mls_world_plain.proofs.Listing.{AreItems}
use Rattle.mls_world_plain.proofs.EarlyChecks.{IsPast}
use Rattle.mls_world_plain.proofs.world.PlainWorld.items_of.Given as goal

abbrev pub invariant-loop-item : goal.invariant-loop-item
invariant-loop-item g l = record { items : AreItems l.self l.items l.item-index l.list.items; first : IsPast l.self l.items l.item-index }

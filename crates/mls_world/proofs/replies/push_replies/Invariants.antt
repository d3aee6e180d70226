use Rattle.std.proofs.Common.{◌≡◌, ◌++◌, take}
use Rattle.mls_model.specs.Run.{run, replies}
use Rattle.mls_world.proofs.replies.push_replies.Given as goal

abbrev pub invariant-loop-event : goal.invariant-loop-event
invariant-loop-event g l = record {
  world : l.world ≡ run g.S.Suite.crypto l.fn.world (take l.event-index l.events);
  replied : l.replies.items ≡ l.fn.replies.items ++ replies g.S.Suite.crypto l.fn.world (take l.event-index l.events);
}

-- The replies to a list of events with which a world begins.
use Rattle.std.specs.Prelude.{◌≡◌, List, ◌++◌}
use Rattle.std.specs.Global.{Vec}
use Rattle.mls_suite.specs.Crypto.{Crypto}
use Rattle.mls_model.specs.declared.event.Event.{Event}
use Rattle.mls_model.specs.declared.event.Reply.{Reply}
use Rattle.mls_model.specs.Run.{replies}
use Rattle.mls_model.specs.World.{empty_world}

-- the replies of the empty world stand behind those before
abbrev pub AreReplied : Crypto → List Event → Vec Reply → Vec Reply → Type 0
AreReplied c events before after = after.items ≡ before.items ++ replies c empty_world events

-- What a list of events does to a world, with the replies where code has them.
use Rattle.std.specs.Prelude.{List, Result}
use Rattle.std.specs.Global.{Vec}
use Rattle.mls_suite.specs.Crypto.{Crypto}
use Rattle.mls_model.specs.declared.event.Event.{Event}
use Rattle.mls_model.specs.declared.event.Reply.{Reply}
use Rattle.mls_model.specs.Answers.{Runs}
use Rattle.mls_model.specs.World.{World}

-- all events ran, with a reply to each behind those before; or memory ran out at one of them
abbrev pub RunsAll : {E : Type 0} → Crypto → List Event → World → World → Vec Reply → Vec Reply → Result (Unit {0}) E → Type 0
RunsAll c events old new before after result = Runs c events old new before.items after.items result

-- Events that stand for the same calls do the same, so what a recording does follows from its text.
use Rattle.std.specs.Prelude.{◌≡◌, List, map}
use Rattle.mls_suite.specs.Crypto.{Crypto}
use Rattle.mls_model.specs.declared.event.Event.{Event}
use Rattle.mls_model.specs.World.{World}
use Rattle.mls_model.specs.Run.{run, replies}
use Rattle.mls_cli_recording.specs.Calls.{call_view}

-- they leave the same world
abbrev pub SameRun : Type 0
SameRun = (c : Crypto) (w : World) (es fs : List Event)
    → map call_view es ≡ map call_view fs → run c w es ≡ run c w fs

-- they have the same replies
abbrev pub SameReplies : Type 0
SameReplies = (c : Crypto) (w : World) (es fs : List Event)
    → map call_view es ≡ map call_view fs → replies c w es ≡ replies c w fs

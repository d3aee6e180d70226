-- What holds of runs by their definition alone.
use Rattle.std.specs.Prelude.{◌≡◌, List, ◌++◌, length, Ok}
use Rattle.mls_suite.specs.Crypto.{Crypto}
use Rattle.mls_model.specs.declared.event.Event.{Event}
use Rattle.mls_model.specs.declared.event.Reply.{Reply}
use Rattle.mls_model.specs.World.{World}
use Rattle.mls_model.specs.Run.{answer, step, run, replies}
use Rattle.mls_model.specs.Headline.{RefusalsChangeNothing, FollowsOwn}

-- ---- lists put together

-- the world after two lists of events is that after the second, which begins where the first led
abbrev pub RunInParts : Type 0
RunInParts = (c : Crypto) (w : World) (xs ys : List Event) → run c w (xs ++ ys) ≡ run c (run c w xs) ys

-- the replies to two lists of events are those to the first, then those to the second, which begins where the first led
abbrev pub RepliesInParts : Type 0
RepliesInParts = (c : Crypto) (w : World) (xs ys : List Event) →
    replies c w (xs ++ ys) ≡ replies c w xs ++ replies c (run c w xs) ys

-- each event has one reply
abbrev pub OneReplyEach : Type 0
OneReplyEach = (c : Crypto) (w : World) (events : List Event) → length (replies c w events) ≡ length events

-- in every world a refusal is that of the first check that fails, and changes nothing
abbrev pub RefusedLeave : Type 0
RefusedLeave = (c : Crypto) (w : World) → RefusalsChangeNothing c w

-- in every world an event that isn't refused does what its call does
abbrev pub AnsweredStep : Type 0
AnsweredStep = (c : Crypto) (w : World) (e : Event) (x : Reply × World) → answer c w e ≡ Ok x → step c w e ≡ x

-- ---- the own pending commit

-- in every world an active member follows its pending commit, from wherever the bytes come, into the state that it made
abbrev pub OwnIsFollowed : Type 0
OwnIsFollowed = (c : Crypto) (w : World) → FollowsOwn c w

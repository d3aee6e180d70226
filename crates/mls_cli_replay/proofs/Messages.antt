-- The page of a message.
use Rattle.std.proofs.Common.{◌≡◌, ◌∙◌, ℕ, List, map, refl, ap, sym}
use Rattle.std.specs.Prelude.{slice_get}
use Rattle.mls_suite.specs.Crypto.{Crypto}
use Rattle.mls_model.specs.World.{World, empty_world}
use Rattle.mls_cli_recording.specs.Calls.{recorded_view}
use Rattle.mls_cli_recording.specs.CallLaws.{SameReplies, SameRun}
use Rattle.mls_cli_recording.specs.declared.reading.Recorded.{Recorded}
use Rattle.mls_cli_replay.specs.Actions.{run_all}
use Rattle.mls_cli_replay.specs.Message.{message_page, page_on}
use Rattle.mls_cli_replay.specs.Replay.{actions_of}
use Rattle.mls_cli_replay.proofs.Pages.{same_actions}

-- message n of the world that the actions leave
pub page_is : (c : Crypto) (n : ℕ) (rs : List Recorded) → message_page c n rs ≡ page_on (slice_get (run_all c empty_world (actions_of rs)).messages n)
unfolding message_page
page_is c n rs = refl

-- from a world that is the empty one, to one that the actions leave
pub page_from : (c : Crypto) (n : ℕ) (rs : List Recorded) (w v : World) → w ≡ empty_world → v ≡ run_all c w (actions_of rs) → page_on (slice_get v.messages n) ≡ message_page c n rs
page_from c n rs w v begun is =
    ap (λ (x : World). page_on (slice_get x.messages n)) (is ∙ ap (λ (x : World). run_all c x (actions_of rs)) begun)
    ∙ sym (page_is c n rs)

module _ (same_run : SameRun) (same_replies : SameReplies) where
  pub same_page : (c : Crypto) (n : ℕ) (rs ss : List Recorded) → map recorded_view rs ≡ map recorded_view ss → message_page c n rs ≡ message_page c n ss
  same_page c n rs ss same =
      page_is c n rs
      ∙ ap (λ (w : World). page_on (slice_get w.messages n)) (same_actions same_run same_replies c empty_world rs ss same).1
      ∙ sym (page_is c n ss)

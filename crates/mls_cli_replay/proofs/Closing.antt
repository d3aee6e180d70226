-- The whole of a replay: what is said of actions, and then in the end.
use Rattle.std.proofs.Common.{◌≡◌, ◌∙◌, ◌++◌, ◌&&◌, [], ℕ, Bool, true, false, List, Option, refl, ap, sym, subst, append-nil}
use Rattle.std.proofs.lemmas.Grind.{flat_map-append}
use Rattle.std.proofs.KnownBytes.{Appends-trans}
use Rattle.std.specs.List.{flat_map}
use Rattle.std.specs.Io.KnownBytes.{Appends}
use Rattle.mls_suite.specs.Crypto.{Crypto}
use Rattle.mls_model.specs.World.{World, empty_world}
use Rattle.mls_cli_text.specs.Page.{ending_status, ending_text, printout}
use Rattle.mls_cli_recording.specs.declared.reading.Recorded.{Recorded}
use Rattle.mls_cli_replay.specs.Actions.{outcomes, run_all}
use Rattle.mls_cli_replay.specs.Replay.{actions_of, all_meet, closing_entries, closing_text, ending_by, entry_text, expectations_of, final_entries, is_as_expected, is_silent, outcome_entries, played_entries, played_page}
use Rattle.mls_cli_replay.proofs.Playing.{said}

pub no_more_said : (met : Bool) → ending_text (ending_by met) ≡ []
no_more_said true = refl
no_more_said false = refl

module _ (c : Crypto) (rs : List Recorded) (lines : Option (List (List ℕ))) where
  text_is : (printout entry_text (played_page c rs lines)).text ≡ said c empty_world 0 rs ++ closing_text (run_all c empty_world (actions_of rs)).seats lines
  unfolding played_page played_entries
  text_is =
      ap (λ (t : List ℕ). flat_map entry_text (outcome_entries 0 (outcomes c empty_world (actions_of rs)) (expectations_of rs) ++ closing_entries (run_all c empty_world (actions_of rs)).seats lines) ++ t)
      (no_more_said (is_as_expected c rs lines))
      ∙ append-nil _
      ∙ flat_map-append entry_text (outcome_entries 0 (outcomes c empty_world (actions_of rs)) (expectations_of rs)) (closing_entries (run_all c empty_world (actions_of rs)).seats lines)

  status_is : (printout entry_text (played_page c rs lines)).status ≡ ending_status (ending_by (is_as_expected c rs lines))
  unfolding played_page
  status_is = refl

  -- from a world that is the empty one, to one that the actions leave
  pub text_from : (w v : World) → w ≡ empty_world → v ≡ run_all c w (actions_of rs) → (printout entry_text (played_page c rs lines)).text ≡ said c w 0 rs ++ closing_text v.seats lines
  text_from w v begun is =
      text_is
      ∙ ap (λ (x : World). said c x 0 rs ++ closing_text (run_all c x (actions_of rs)).seats lines) (sym begun)
      ∙ ap (λ (x : World). said c w 0 rs ++ closing_text x.seats lines) (sym is)

  pub met_from : (w v : World) (met same : Bool) → w ≡ empty_world → v ≡ run_all c w (actions_of rs) → met ≡ all_meet c w rs → same ≡ is_silent (final_entries v.seats lines) → (met && same) ≡ is_as_expected c rs lines
  unfolding is_as_expected
  met_from w v met same begun is meets ends =
      ap (λ (b : Bool). b && same) (meets ∙ ap (λ (x : World). all_meet c x rs) begun)
      ∙ ap (λ (b : Bool). all_meet c empty_world rs && b)
      (ends ∙ ap (λ (x : World). is_silent (final_entries x.seats lines)) (is ∙ ap (λ (x : World). run_all c x (actions_of rs)) begun))

  pub closing : (old new now : Option (List ℕ)) (w v : World) (met same : Bool) (status : ℕ) → w ≡ empty_world → v ≡ run_all c w (actions_of rs) → met ≡ all_meet c w rs
      → same ≡ is_silent (final_entries v.seats lines) → status ≡ ending_status (ending_by (met && same)) → Appends old new (said c w 0 rs) → Appends new now (closing_text v.seats lines)
      → Appends old now (printout entry_text (played_page c rs lines)).text × (status ≡ (printout entry_text (played_page c rs lines)).status)
  closing old new now w v met same status begun is meets ends answers first second = (
    subst (Appends old now) (sym (text_from w v begun is)) (Appends-trans old new now (said c w 0 rs) (closing_text v.seats lines) first second),
    answers ∙ ap (λ b. ending_status (ending_by b)) (met_from w v met same begun is meets ends) ∙ sym status_is,
  )

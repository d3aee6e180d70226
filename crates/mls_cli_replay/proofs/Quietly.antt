-- Actions, done one by one: what is said of those that aren't as expected, and what is left to do.
use Rattle.std.proofs.Common.{◌≡◌, ◌∙◌, ◌≤◌, ◌<◌, ◌++◌, ◌∷◌, [], ◌+◌, ◌&&◌, ◌==◌, ℕ, Bool, true, false, List, Option, length, map, drop, get_or, refl, ap, sym, subst, append_assoc, append-nil}
use Rattle.std.proofs.lemmas.Grind.{flat_map-append}
use Rattle.std.specs.List.{flat_map}
use Rattle.mls_suite.specs.Crypto.{Crypto}
use Rattle.mls_model.specs.World.{World, empty_world}
use Rattle.mls_cli_text.specs.Page.{ending_status, printout}
use Rattle.mls_cli_recording.specs.declared.reading.Recorded.{Recorded}
use Rattle.mls_cli_replay.specs.Actions.{outcome_in, outcomes, run_all, world_after}
use Rattle.mls_cli_replay.specs.Quiet.{quiet_action, quiet_actions, quiet_entries, quiet_page}
use Rattle.mls_cli_replay.specs.Replay.{ReplayEntry, actions_of, all_meet, all_met, closing_entries, closing_text, ending_by, entry_of, entry_text, expectation, expectations_of, final_entries, is_as_expected, is_met, is_silent}
use Rattle.mls_cli_replay.specs.declared.line.ReplayLine.{ReplayLine}
use Rattle.mls_cli_replay.specs.declared.reply.Outcome.{Outcome}
use Rattle.mls_cli_replay.proofs.Closing.{met_from, no_more_said}
use Rattle.mls_cli_replay.proofs.Ending.{lines_say, silent}
use Rattle.mls_cli_replay.proofs.Playing.{next_of, none_left, run_first, run_none}

abbrev pub quiet_from : Crypto → World → ℕ → List Recorded → List ReplayEntry
quiet_from c w i rs = quiet_actions i (outcomes c w (actions_of rs)) (expectations_of rs)

quiet_first : (c : Crypto) (w : World) (i : ℕ) (r : Recorded) (rs : List Recorded)
    → quiet_from c w i (r ∷ rs) ≡ quiet_action i (outcome_in c w r.action) (expectation r) ++ quiet_from c (world_after c w r.action) (i + 1) rs
unfolding quiet_actions outcomes
quiet_first c w i r rs = refl

quiet_none : (c : Crypto) (w : World) (i : ℕ) → quiet_from c w i [] ≡ []
unfolding quiet_actions outcomes
quiet_none c w i = refl

-- ---- before the action of number i

pub record Collected (c : Crypto) (w : World) (all : List Recorded) (i : ℕ) (v : World) (lines : List ReplayEntry) (rest : List Recorded) : Type 0 where
  pub said : quiet_from c w 0 all ≡ lines ++ quiet_from c v i rest
  pub world : run_all c w (actions_of all) ≡ run_all c v (actions_of rest)

pub collected_nothing : (c : Crypto) (w : World) (all : List Recorded) → Collected c w all 0 w [] all
collected_nothing c w all = record { said = refl; world = refl }

collected_on : (c : Crypto) (w : World) (all : List Recorded) (i : ℕ) (v : World) (lines : List ReplayEntry) (r : Recorded) (rest : List Recorded)
    → Collected c w all i v lines (r ∷ rest) → Collected c w all (i + 1) (world_after c v r.action) (lines ++ quiet_action i (outcome_in c v r.action) (expectation r)) rest
collected_on c w all i v lines r rest p = record {
  said = p.said
      ∙ ap (λ (ls : List ReplayEntry). lines ++ ls) (quiet_first c v i r rest)
      ∙ sym (append_assoc lines (quiet_action i (outcome_in c v r.action) (expectation r)) (quiet_from c (world_after c v r.action) (i + 1) rest));
  world = p.world ∙ run_first c v r rest;
}

pub collected_step : (c : Crypto) (w : World) (all : List Recorded) (i : ℕ) (v u : World) (lines new : List ReplayEntry) (o : Outcome) (expect : Option (List ℕ)) (r : Recorded)
    → i < length all → r ≡ get_or all i r → Collected c w all i v lines (drop i all) → u ≡ world_after c v r.action → o ≡ outcome_in c v r.action
    → expect ≡ expectation r → new ≡ lines ++ quiet_action i o expect → Collected c w all (i + 1) u new (drop (i + 1) all)
collected_step c w all i v u lines new o expect r lt is p stepped came expects grew =
    let before : Collected c w all i v lines (r ∷ drop (i + 1) all) = subst (Collected c w all i v lines) (next_of all i r lt is) p in
    let lines_are : new ≡ lines ++ quiet_action i (outcome_in c v r.action) (expectation r) =
    grew ∙ ap (λ (x : Outcome). lines ++ quiet_action i x expect) came ∙ ap (λ (e : Option (List ℕ)). lines ++ quiet_action i (outcome_in c v r.action) e) expects in
    subst (λ (x : World). Collected c w all (i + 1) x new (drop (i + 1) all)) (sym stepped)
    (subst (λ (ls : List ReplayEntry). Collected c w all (i + 1) (world_after c v r.action) ls (drop (i + 1) all)) (sym lines_are)
    (collected_on c w all i v lines r (drop (i + 1) all) before))

pub record CollectedAll (c : Crypto) (w : World) (all : List Recorded) (v : World) (lines : List ReplayEntry) : Type 0 where
  pub world : v ≡ run_all c w (actions_of all)
  pub said : lines ≡ quiet_from c w 0 all

pub collected_end : (c : Crypto) (w : World) (all : List Recorded) (i : ℕ) (v : World) (lines : List ReplayEntry) → length all ≤ i
    → Collected c w all i v lines (drop i all) → CollectedAll c w all v lines
collected_end c w all i v lines le p =
    let last : Collected c w all i v lines [] = subst (Collected c w all i v lines) (none_left all i le) p in
    record {
      world = sym (last.world ∙ run_none c v);
      said = sym (last.said ∙ ap (λ (ls : List ReplayEntry). lines ++ ls) (quiet_none c v i) ∙ append-nil lines);
    }

-- ---- nothing is said just where all is as expected

one_silent : (met : Bool) (k : ℕ) (o : Outcome) (e : Option (List ℕ)) (rest : List ReplayEntry) (all : Bool) → is_met o e ≡ met → is_silent rest ≡ all
    → is_silent (quiet_action k o e ++ rest) ≡ (is_met o e && all)
one_silent true k o e rest all met so = rw met so
one_silent false k o e rest all met so = rw met refl

pub silent_quiet : (k : ℕ) (os : List Outcome) (es : List (Option (List ℕ))) → is_silent (quiet_actions k os es) ≡ all_met os es
unfolding quiet_actions all_met
silent_quiet k (o ∷ os) (e ∷ es) = one_silent (is_met o e) k o e (quiet_actions (k + 1) os es) (all_met os es) refl (silent_quiet (k + 1) os es)
silent_quiet k (o ∷ os) [] = refl
silent_quiet k [] es = refl

-- ---- the page

module _ (c : Crypto) (rs : List Recorded) (lines : Option (List (List ℕ))) where
  text_is : (printout entry_text (quiet_page c rs lines)).text ≡ flat_map entry_text (quiet_from c empty_world 0 rs) ++ closing_text (run_all c empty_world (actions_of rs)).seats lines
  unfolding quiet_page quiet_entries
  text_is =
      ap (λ (t : List ℕ). flat_map entry_text (quiet_from c empty_world 0 rs ++ closing_entries (run_all c empty_world (actions_of rs)).seats lines) ++ t)
      (no_more_said (is_as_expected c rs lines))
      ∙ append-nil _
      ∙ flat_map-append entry_text (quiet_from c empty_world 0 rs) (closing_entries (run_all c empty_world (actions_of rs)).seats lines)

  status_is : (printout entry_text (quiet_page c rs lines)).status ≡ ending_status (ending_by (is_as_expected c rs lines))
  unfolding quiet_page
  status_is = refl

  -- from a world that is the empty one, to one that the actions leave
  pub quiet_text : (w v : World) (ls : List ReplayLine) → w ≡ empty_world → v ≡ run_all c w (actions_of rs) → map entry_of ls ≡ quiet_from c w 0 rs
      → (printout entry_text (quiet_page c rs lines)).text ≡ flat_map (λ (l : ReplayLine). entry_text (entry_of l)) ls ++ closing_text v.seats lines
  quiet_text w v ls begun is said =
      text_is
      ∙ ap (λ (x : World). flat_map entry_text (quiet_from c x 0 rs) ++ closing_text (run_all c x (actions_of rs)).seats lines) (sym begun)
      ∙ ap (λ (t : List ℕ). t ++ closing_text (run_all c w (actions_of rs)).seats lines) (sym (lines_say ls (quiet_from c w 0 rs) said))
      ∙ ap (λ (x : World). flat_map (λ (l : ReplayLine). entry_text (entry_of l)) ls ++ closing_text x.seats lines) (sym is)

  pub quiet_status : (w v : World) (ls : List ReplayLine) (met same : Bool) (status : ℕ) → w ≡ empty_world → v ≡ run_all c w (actions_of rs) → map entry_of ls ≡ quiet_from c w 0 rs
      → met ≡ (length ls == 0) → same ≡ is_silent (final_entries v.seats lines) → status ≡ ending_status (ending_by (met && same))
      → status ≡ (printout entry_text (quiet_page c rs lines)).status
  quiet_status w v ls met same status begun is said none ends answers =
      let meets : met ≡ all_meet c w rs = silent ls (quiet_from c w 0 rs) met said none ∙ silent_quiet 0 (outcomes c w (actions_of rs)) (expectations_of rs) in
      answers ∙ ap (λ (b : Bool). ending_status (ending_by b)) (met_from c rs lines w v met same begun is meets ends) ∙ sym status_is

-- Actions that stand for the same calls have one page.
use Rattle.std.proofs.Common.{◌≡◌, ◌∙◌, ◌&&◌, ℕ, List, [], ◌∷◌, ◌++◌, Option, map, refl, ap, sym}
use Rattle.mls_suite.specs.Crypto.{Crypto}
use Rattle.mls_model.specs.declared.event.Reply.{Reply}
use Rattle.mls_model.specs.declared.event.Source.{Source}
use Rattle.mls_model.specs.World.{World, empty_world}
use Rattle.mls_model.specs.Run.{replies}
use Rattle.mls_world_plain.specs.ActiveMembers.{active}
use Rattle.mls_cli_text.specs.Page.{Page}
use Rattle.mls_cli_recording.specs.Calls.{Call, MessageSource, RecordedAction, action_view, call_view, recorded_view, source_view}
use Rattle.mls_cli_recording.specs.Calls as call
use Rattle.mls_cli_recording.specs.CallLaws.{SameReplies, SameRun}
use Rattle.mls_cli_recording.specs.declared.actions.Action.{Action}
use Rattle.mls_cli_recording.specs.declared.actions.Action.TheVariants as action
use Rattle.mls_cli_recording.specs.declared.reading.Recorded.{Recorded}
use Rattle.mls_cli_replay.specs.Actions.{deliveries, events_in, outcome_in, outcomes, run_all, tally_of, world_after}
use Rattle.mls_cli_replay.specs.Replay.{ReplayEntry, actions_of, all_met, closing_entries, ending_by, expectation, expectations_of, final_entries, is_as_expected, is_silent, outcome_entries, played_entries, played_page}
use Rattle.mls_cli_replay.specs.declared.reply.Outcome.{Outcome}
use Rattle.mls_cli_replay.specs.declared.reply.Outcome.TheVariants as outcome

pub expects_of : (rs : List Recorded) → expectations_of rs ≡ map (λ (x : RecordedAction). x.expect) (map recorded_view rs)
expects_of [] = refl
expects_of (r ∷ rs) = ap (λ (xs : List (Option (List ℕ))). expectation r ∷ xs) (expects_of rs)

-- a page by outcomes, expectations and the world in the end
abbrev page_by : List Outcome → List (Option (List ℕ)) → World → Option (List (List ℕ)) → Page ReplayEntry
page_by os es w lines = record { entries = outcome_entries 0 os es ++ closing_entries w.seats lines; ending = ending_by (all_met os es && is_silent (final_entries w.seats lines)) }

page_is : (c : Crypto) (rs : List Recorded) (lines : Option (List (List ℕ)))
    → played_page c rs lines ≡ page_by (outcomes c empty_world (actions_of rs)) (expectations_of rs) (run_all c empty_world (actions_of rs)) lines
unfolding played_page played_entries is_as_expected
page_is c rs lines = refl

-- ---- the events of an action

same_deliveries : (s t : Source) (ks : List ℕ) → source_view s ≡ source_view t → map call_view (deliveries s ks) ≡ map call_view (deliveries t ks)
same_deliveries s t [] e = refl
same_deliveries s t (k ∷ ks) e =
    ap (λ (x : MessageSource). call.deliver k x ∷ map call_view (deliveries s ks)) e ∙ ap (λ (xs : List Call). call.deliver k (source_view t) ∷ xs) (same_deliveries s t ks e)

same_events : (w : World) (a b : Action) → action_view a ≡ action_view b → map call_view (events_in w a) ≡ map call_view (events_in w b)
same_events w (action.Event e) (action.Event f) p = let q : call_view e ≡ call_view f = cc in ap (λ (x : Call). x ∷ []) q
same_events w (action.Event e) (action.DeliverAll s) p = absurd cc
same_events w (action.DeliverAll s) (action.Event e) p = absurd cc
same_events w (action.DeliverAll s) (action.DeliverAll t) p = same_deliveries s t (active w.seats) cc

first_reply : (r s : Reply) (rs ss : List Reply) → r ∷ rs ≡ s ∷ ss → r ≡ s
first_reply r s rs ss e = cc

module _ (same_run : SameRun) (same_replies : SameReplies) where
  same_world : (c : Crypto) (w : World) (a b : Action) → action_view a ≡ action_view b → world_after c w a ≡ world_after c w b
  same_world c w a b p = same_run c w (events_in w a) (events_in w b) (same_events w a b p)

  same_outcome : (c : Crypto) (w : World) (a b : Action) → action_view a ≡ action_view b → outcome_in c w a ≡ outcome_in c w b
  unfolding replies
  same_outcome c w (action.Event e) (action.Event f) p =
      let q : call_view e ≡ call_view f = cc in
      ap (λ (r : Reply). outcome.Reply r) (first_reply _ _ _ _ (same_replies c w (e ∷ []) (f ∷ []) (ap (λ (x : Call). x ∷ []) q)))
  same_outcome c w (action.Event e) (action.DeliverAll s) p = absurd cc
  same_outcome c w (action.DeliverAll s) (action.Event e) p = absurd cc
  same_outcome c w (action.DeliverAll s) (action.DeliverAll t) p =
      ap (λ (rs : List Reply). outcome.Tally (tally_of rs)) (same_replies c w (deliveries s (active w.seats)) (deliveries t (active w.seats)) (same_deliveries s t (active w.seats) cc))

  -- ---- of all actions

  pub same_actions : (c : Crypto) (w : World) (rs ss : List Recorded) → map recorded_view rs ≡ map recorded_view ss
      → (outcomes c w (actions_of rs) ≡ outcomes c w (actions_of ss)) × (run_all c w (actions_of rs) ≡ run_all c w (actions_of ss))
  unfolding outcomes run_all
  same_actions c w [] [] p = (refl, refl)
  same_actions c w [] (s ∷ ss) p = absurd cc
  same_actions c w (r ∷ rs) [] p = absurd cc
  same_actions c w (r ∷ rs) (s ∷ ss) p =
      let first : recorded_view r ≡ recorded_view s = cc in
      let more : map recorded_view rs ≡ map recorded_view ss = cc in
      let one : action_view r.action ≡ action_view s.action = ap (λ (x : RecordedAction). x.action) first in
      let rest = same_actions c (world_after c w s.action) rs ss more in
      let left = same_world c w r.action s.action one in (
        ap (λ (o : Outcome). o ∷ outcomes c (world_after c w r.action) (actions_of rs)) (same_outcome c w r.action s.action one)
            ∙ ap (λ (v : World). outcome_in c w s.action ∷ outcomes c v (actions_of rs)) left
            ∙ ap (λ (os : List Outcome). outcome_in c w s.action ∷ os) rest.0,
        ap (λ (v : World). run_all c v (actions_of rs)) left ∙ rest.1,
      )

  pub same_page : (c : Crypto) (rs ss : List Recorded) (ls ts : Option (List (List ℕ))) → map recorded_view rs ≡ map recorded_view ss → ls ≡ ts → played_page c rs ls ≡ played_page c ss ts
  same_page c rs ss ls ts same lines =
      let both = same_actions c empty_world rs ss same in
      let expects : expectations_of rs ≡ expectations_of ss = expects_of rs ∙ ap (map (λ (x : RecordedAction). x.expect)) same ∙ sym (expects_of ss) in
      page_is c rs ls
      ∙ ap (λ (os : List Outcome). page_by os (expectations_of rs) (run_all c empty_world (actions_of rs)) ls) both.0
      ∙ ap (λ (es : List (Option (List ℕ))). page_by (outcomes c empty_world (actions_of ss)) es (run_all c empty_world (actions_of rs)) ls) expects
      ∙ ap (λ (v : World). page_by (outcomes c empty_world (actions_of ss)) (expectations_of ss) v ls) both.1
      ∙ ap (λ (x : Option (List (List ℕ))). page_by (outcomes c empty_world (actions_of ss)) (expectations_of ss) (run_all c empty_world (actions_of ss)) x) lines
      ∙ sym (page_is c ss ts)

-- What is printed of files that record the same calls.
use Rattle.std.proofs.Common.{◌≡◌, ◌∙◌, ◌&&◌, ℕ, List, ◌++◌, Option, None, Some, Result, Ok, Err, map, inl, inr, refl, ap, sym, subst}
use Rattle.serde_json.specs.Data.{Data}
use Rattle.mls_suite.specs.Crypto.{Crypto}
use Rattle.mls_model.specs.Member.{Member}
use Rattle.mls_model.specs.World.{World, empty_world}
use Rattle.mls_cli_text.specs.Page.{Page, Printout, printout}
use Rattle.mls_cli_record.specs.Record.{record_of}
use Rattle.mls_cli_recording.specs.Calls.{Recording, RecordedAction, recorded_view, recording_view}
use Rattle.mls_cli_recording.specs.CallLaws.{SameReplies, SameRun}
use Rattle.mls_cli_recording.specs.Recording.{recording}
use Rattle.mls_cli_recording.specs.declared.reading.Recorded.{Recorded}
use Rattle.mls_cli_recording.specs.declared.reading.RecordedRun.{RecordedRun}
use Rattle.mls_cli_replay.specs.Actions.{outcomes, run_all}
use Rattle.mls_cli_replay.specs.MemberTree.{IsSpelling, IsTree, IsTreeOf, IsTreeOn, member_at}
use Rattle.mls_cli_replay.specs.Message.{digits_text}
use Rattle.mls_cli_replay.specs.OneView.{AreOne, OneView, ReadAlike}
use Rattle.mls_cli_replay.specs.Quiet.{quiet_actions, quiet_entries, quiet_page}
use Rattle.mls_cli_replay.specs.Replay.{ReplayEntry, actions_of, all_met, closing_entries, ending_by, entry_text, expectations_of, final_entries, is_as_expected, is_silent, lines_of}
use Rattle.mls_cli_replay.specs.RecordedReplies.{IsRecord, IsTextPage, end_texts, reply_texts, words_of_members}
use Rattle.mls_cli_replay.specs.Reply.{outcome_text}
use Rattle.mls_cli_replay.specs.Views.{IsPrintoutOn, IsViewOf}
use Rattle.mls_cli_replay.specs.declared.view.ReplayView.{ReplayView}
use Rattle.mls_cli_replay.specs.declared.view.ReplayView.TheVariants as view
use Rattle.mls_cli_replay.specs.declared.reply.Outcome.{Outcome}
use Rattle.mls_cli_replay.proofs.Messages.{same_page as same_message}
use Rattle.mls_cli_replay.proofs.Pages.{expects_of, same_actions, same_page as replayed}

-- a page by outcomes, expectations and the world in the end
abbrev page_by : List Outcome → List (Option (List ℕ)) → World → Option (List (List ℕ)) → Page ReplayEntry
page_by os es w lines = record {
  entries = quiet_actions 0 os es ++ closing_entries w.seats lines;
  ending = ending_by (all_met os es && is_silent (final_entries w.seats lines));
}

page_is : (c : Crypto) (rs : List Recorded) (lines : Option (List (List ℕ)))
    → quiet_page c rs lines ≡ page_by (outcomes c empty_world (actions_of rs)) (expectations_of rs) (run_all c empty_world (actions_of rs)) lines
unfolding quiet_page quiet_entries is_as_expected
page_is c rs lines = refl

-- ---- trees

one_spelling : (m : Member) (p q : Page (List ℕ)) → IsSpelling m p → IsSpelling m q → p ≡ q
one_spelling m p q (inl (fits, e)) (inl (again, f)) = e ∙ sym f
one_spelling m p q (inl (fits, e)) (inr (not, f)) = absurd (not fits)
one_spelling m p q (inr (not, e)) (inl (fits, f)) = absurd (not fits)
one_spelling m p q (inr (not, e)) (inr (again, f)) = e ∙ sym f

one_tree_of : (m : Member) (p q : Page (List ℕ)) → IsTreeOf m p → IsTreeOf m q → p ≡ q
one_tree_of m p q (inl (gone, e)) (inl (again, f)) = e ∙ sym f
one_tree_of m p q (inl (gone, e)) (inr (there, f)) = absurd cc
one_tree_of m p q (inr (there, e)) (inl (gone, f)) = absurd cc
one_tree_of m p q (inr (there, e)) (inr (again, f)) = one_spelling m p q e f

one_tree_on : (found : Option Member) (p q : Page (List ℕ)) → IsTreeOn found p → IsTreeOn found q → p ≡ q
one_tree_on None p q e f = e ∙ sym f
one_tree_on (Some m) p q e f = one_tree_of m p q e f

-- ---- what was read

actions_same : (r s : RecordedRun) → recording_view r ≡ recording_view s → map recorded_view r.actions.items ≡ map recorded_view s.actions.items
actions_same r s same = ap (λ (x : Recording). x.actions) same

lines_same : (r s : RecordedRun) → recording_view r ≡ recording_view s → lines_of r ≡ lines_of s
lines_same r s same = ap (λ (x : Recording). x.final_lines) same

are_one : (asked : ReplayView) (p q : Printout) → p ≡ q → AreOne asked p q
are_one view.Replies p q e = e
are_one view.Unmet p q e = e
are_one (view.Message n) p q e = e
are_one (view.Tree k) p q e = e
are_one view.Recording p q e = inl e

module _ (same_run : SameRun) (same_replies : SameReplies) where
  same_page : (c : Crypto) (rs ss : List Recorded) (ls ts : Option (List (List ℕ))) → map recorded_view rs ≡ map recorded_view ss → ls ≡ ts → quiet_page c rs ls ≡ quiet_page c ss ts
  same_page c rs ss ls ts same lines =
      let both = same_actions same_run same_replies c empty_world rs ss same in
      let expects : expectations_of rs ≡ expectations_of ss = expects_of rs ∙ ap (map (λ (x : RecordedAction). x.expect)) same ∙ sym (expects_of ss) in
      page_is c rs ls
      ∙ ap (λ (os : List Outcome). page_by os (expectations_of rs) (run_all c empty_world (actions_of rs)) ls) both.0
      ∙ ap (λ (es : List (Option (List ℕ))). page_by (outcomes c empty_world (actions_of ss)) es (run_all c empty_world (actions_of rs)) ls) expects
      ∙ ap (λ (v : World). page_by (outcomes c empty_world (actions_of ss)) (expectations_of ss) v ls) both.1
      ∙ ap (λ (x : Option (List (List ℕ))). page_by (outcomes c empty_world (actions_of ss)) (expectations_of ss) (run_all c empty_world (actions_of ss)) x) lines
      ∙ sym (page_is c ss ts)

  one_tree_by : (c : Crypto) (k : ℕ) (rs ss : List Recorded) (p q : Printout) → map recorded_view rs ≡ map recorded_view ss → IsTree c k rs p → IsTree c k ss q → p ≡ q
  one_tree_by c k rs ss p q same (a, is, e) (b, are, f) =
      let world = (same_actions same_run same_replies c empty_world rs ss same).1 in
      let there = subst (λ (w : World). IsTreeOn (member_at w k) a) world is in
      e ∙ ap (printout digits_text) (one_tree_on (member_at (run_all c empty_world (actions_of ss)) k) a b there are) ∙ sym f

  one_record_by : (c : Crypto) (file : List ℕ) (rs ss : List Recorded) (p q : Printout) → map recorded_view rs ≡ map recorded_view ss → IsRecord c file rs p → IsRecord c file ss q → ReadAlike p q
  one_record_by c file rs ss p q same (d, is, of_rs) (e, are, of_ss) =
      let both = same_actions same_run same_replies c empty_world rs ss same in
      let data_same : d ≡ e = cc in
      let replies : reply_texts c rs ≡ reply_texts c ss = ap (map outcome_text) both.0 in
      let ends : end_texts c rs ≡ end_texts c ss = ap (λ (w : World). words_of_members w.seats) both.1 in
      let record_same : record_of (reply_texts c rs) (end_texts c rs) d ≡ record_of (reply_texts c ss) (end_texts c ss) e =
      ap (λ (ts : List (List ℕ)). record_of ts (end_texts c rs) d) replies
      ∙ ap (λ (ts : List (List ℕ)). record_of (reply_texts c ss) ts d) ends
      ∙ ap (λ (x : Data). record_of (reply_texts c ss) (end_texts c ss) x) data_same in
      inr (record_of (reply_texts c ss) (end_texts c ss) e, subst (λ (x : Data). IsTextPage x p) record_same of_rs, of_ss)

  -- ---- views

  one_of_run : (c : Crypto) (asked : ReplayView) (file : List ℕ) (r s : RecordedRun) (p q : Printout) → recording_view r ≡ recording_view s → IsViewOf c asked file r p → IsViewOf c asked file s q
      → AreOne asked p q
  one_of_run c view.Replies file r s p q same e f =
      e ∙ ap (printout entry_text) (replayed same_run same_replies c r.actions.items s.actions.items (lines_of r) (lines_of s) (actions_same r s same) (lines_same r s same)) ∙ sym f
  one_of_run c view.Unmet file r s p q same e f =
      e ∙ ap (printout entry_text) (same_page c r.actions.items s.actions.items (lines_of r) (lines_of s) (actions_same r s same) (lines_same r s same)) ∙ sym f
  one_of_run c (view.Message n) file r s p q same e f =
      e ∙ ap (printout digits_text) (same_message same_run same_replies c n r.actions.items s.actions.items (actions_same r s same)) ∙ sym f
  one_of_run c (view.Tree k) file r s p q same e f = one_tree_by c k r.actions.items s.actions.items p q (actions_same r s same) e f
  one_of_run c view.Recording file r s p q same e f = one_record_by c file r.actions.items s.actions.items p q (actions_same r s same) e f

  one_on : (c : Crypto) (asked : ReplayView) (file : List ℕ) (r : Result Recording ℕ) (p q : Printout) → IsPrintoutOn (IsViewOf c asked file) r p → IsPrintoutOn (IsViewOf c asked file) r q
      → AreOne asked p q
  one_on c asked file (Ok parts) p q (r, is, e) (s, are, f) = one_of_run c asked file r s p q (is ∙ sym are) e f
  one_on c asked file (Err n) p q e f = are_one asked p q (e ∙ sym f)

  pub one_view : OneView
  one_view c asked file p q e f = one_on c asked file (recording c.number file) p q e f

-- What is printed of a file, by what is printed of what was read of it.
use Rattle.std.proofs.Common.{◌≡◌, ◌≢◌, ◌∙◌, ℕ, List, ◌∷◌, [], Option, Result, Ok, Err, IsErr, true, inl, inr, arith, refl, ap, sym, subst}
use Rattle.std.proofs.KnownBytes.{Keeps-refl}
use Rattle.std.specs.declared.alloc.AllocError.{AllocError}
use Rattle.serde_json.specs.Data.{Data}
use Rattle.mls_suite.specs.Crypto.{Crypto}
use Rattle.mls_model.specs.Member.{Member}
use Rattle.mls_model.specs.World.{World, empty_world}
use Rattle.mls_cli_text.specs.Page.{Printout, Prints, good, page_of, printout, refused}
use Rattle.mls_cli_text.specs.declared.page.Ending.TheVariants.{Refused}
use Rattle.mls_cli_text.specs.MadePage.{PrintsMade}
use Rattle.mls_cli_text.specs.declared.page.Page as code
use Rattle.mls_cli_text.specs.declared.fault.Fault.{Fault}
use Rattle.mls_cli_text.proofs.Pages.{printed_alike}
use Rattle.mls_cli_json.specs.Faults.{number_of}
use Rattle.mls_cli_json.specs.declared.error.JsonError.{JsonError}
use Rattle.mls_cli_json.specs.declared.error.JsonError.TheVariants as error
use Rattle.mls_cli_record.specs.Record.{IsTextOf, record_of}
use Rattle.mls_cli_recording.specs.Calls.{recording_view}
use Rattle.mls_cli_recording.specs.Recording.{recording}
use Rattle.mls_cli_recording.specs.declared.reading.Recorded.{Recorded}
use Rattle.mls_cli_recording.specs.declared.reading.RecordedRun.{RecordedRun}
use Rattle.mls_cli_replay.specs.Actions.{run_all}
use Rattle.mls_cli_replay.specs.MemberTree.{IsTree, IsTreeOf, IsTreeOn, MakesTree, bytes_of, member_at}
use Rattle.mls_cli_replay.specs.Message.{digits_text}
use Rattle.mls_cli_replay.specs.RecordedReplies.{IsRecordOf, MakesText, end_texts, file_text, reply_texts}
use Rattle.mls_cli_replay.specs.Replay.{IsRefusal, PrintsOne, actions_of}
use Rattle.mls_cli_replay.specs.Views.{IsPrintoutOn}
use Rattle.mls_cli_replay.specs.declared.member_tree.TreeDigits.{TreeDigits}
use Rattle.mls_cli_replay.specs.declared.record.FileText.{FileText}
use Rattle.mls_cli_replay.proofs.PrintLaws.{prints_it}

-- what prints one kind of printout prints another that has it
pub prints_as : (Is Are : Printout → Type 0) (old new : Option (List ℕ)) (r : Result ℕ Fault) → ((p : Printout) → Is p → Are p) → PrintsOne Is old new r → PrintsOne Are old new r
prints_as Is Are old new (Ok status) so (p, is, grew, same) = (p, so p is, grew, same)
prints_as Is Are old new (Err e) so (inl kept) = inl kept
prints_as Is Are old new (Err e) so (inr (p, is, part)) = inr (p, so p is, part)

-- where nothing is written at a fault, any printout is cut
pub kept_one : (Is : Printout → Type 0) (r : Result ℕ Fault) (a : Option (List ℕ)) → IsErr r → PrintsOne Is a a r
kept_one Is (Ok x) a err = cc
kept_one Is (Err e) a err = inl (Keeps-refl a)

module _ (Is : RecordedRun → Printout → Type 0) (c : Crypto) (file : List ℕ) where
  pub of_recording : (r : RecordedRun) (p : Printout) → recording c.number file ≡ Ok (recording_view r) → Is r p → IsPrintoutOn Is (recording c.number file) p
  of_recording r p e is = rw e (r, refl, is)

  of_refusal : (e : JsonError) → (number_of e ≢ 1 → recording c.number file ≡ Err (number_of e)) → (p : Printout) → IsRefusal e p → IsPrintoutOn Is (recording c.number file) p
  of_refusal error.OutOfMemory is p never = absurd never
  of_refusal error.NotHex is p same = rw (is (λ q. omega arith)) same
  of_refusal error.BadJson is p same = rw (is (λ q. omega arith)) same

  pub refusal_printed : (e : JsonError) (old new : Option (List ℕ)) (r : Result ℕ Fault) → (number_of e ≢ 1 → recording c.number file ≡ Err (number_of e))
      → PrintsOne (IsRefusal e) old new r → PrintsOne (IsPrintoutOn Is (recording c.number file)) old new r
  refusal_printed e old new r is prints = prints_as (IsRefusal e) (IsPrintoutOn Is (recording c.number file)) old new r (of_refusal e is) prints

-- ---- trees

-- the page of a refusal alone
pub refused_is : (p : code.Page TreeDigits) (n : ℕ) → p.lines.items ≡ [] → p.ending ≡ Refused n → page_of bytes_of p ≡ refused n
refused_is p n none ends = rw (none, ends) refl

pub gone_is : (m : Member) (p : code.Page TreeDigits) → m.gone ≡ true → p.lines.items ≡ [] → p.ending ≡ Refused 40 → IsTreeOf m (page_of bytes_of p)
gone_is m p gone none ends = inl (gone, refused_is p 40 none ends)

pub tree_printed : (c : Crypto) (k : ℕ) (rs : List Recorded) (v : World) {found : Option Member} (made : Result (code.Page TreeDigits) AllocError) (old new : Option (List ℕ)) (r : Result ℕ Fault)
    → v ≡ run_all c empty_world (actions_of rs) → found ≡ member_at v k → MakesTree (IsTreeOn found) made
    → PrintsMade (λ (d : TreeDigits). digits_text (bytes_of d)) old new made r → PrintsOne (IsTree c k rs) old new r
tree_printed c k rs v {found} (Ok p) old new r is same page prints =
    let there : found ≡ member_at (run_all c empty_world (actions_of rs)) k = same ∙ ap (λ (w : World). member_at w k) is in
    prints_it (IsTree c k rs) old new r (printout digits_text (page_of bytes_of p))
    (page_of bytes_of p, subst (λ (o : Option Member). IsTreeOn o (page_of bytes_of p)) there page, refl)
    (subst (Prints old new r) (sym (printed_alike digits_text bytes_of p)) prints)
tree_printed c k rs v {found} (Err e) old new r is same page prints = subst (PrintsOne (IsTree c k rs) old new) (sym prints.0) (inl prints.1)

-- ---- recordings

abbrev text_of : FileText → List ℕ
text_of f = f.text.items

pub record_printed : (c : Crypto) (d e : Data) (rs : List Recorded) (made : Result (code.Page FileText) AllocError) (old new : Option (List ℕ)) (r : Result ℕ Fault)
    → e ≡ record_of (reply_texts c rs) (end_texts c rs) d → MakesText e made → PrintsMade (λ (f : FileText). file_text (text_of f)) old new made r → PrintsOne (IsRecordOf c d rs) old new r
record_printed c d e rs (Ok p) old new r same (text, is, page) prints =
    prints_it (IsRecordOf c d rs) old new r (printout file_text (good (text ∷ []))) (text, subst (IsTextOf text) same is, refl)
    (subst (Prints old new r) (sym (printed_alike file_text text_of p) ∙ ap (printout file_text) page) prints)
record_printed c d e rs (Err f) old new r same page prints = subst (PrintsOne (IsRecordOf c d rs) old new) (sym prints.0) (inl prints.1)

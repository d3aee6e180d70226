-- What a job reads of a file is enough for what it prints.
use Rattle.std.proofs.Common.{◌≡◌, ℕ, suc, ◌<◌, ◌≤◌, nat_lt, List, length, take, Option, Some, None, Result, Ok, Err, IfSome, inl, inr, sym, ◌∙◌, ap, subst, arith}
use Rattle.std.proofs.lemmas.Bool.{cases_lt, cond-true, cond-false, lt-ltb, le-ltb}
use Rattle.std.proofs.lemmas.List.{length-take-le, take_all}
use Rattle.mls_cli_text.specs.Form.{file_limit}
use Rattle.mls_cli_text.specs.declared.form.Form.{Form}
use Rattle.mls_cli_text.specs.Page.{Page, Printout, printout, refused}
use Rattle.mls_cli_text.specs.declared.fault.Fault.{Fault}
use Rattle.mls_cli_show.specs.Show.{page_of as show_page}
use Rattle.mls_cli_check.specs.Check.{check_page}
use Rattle.mls_cli_replay.specs.Replay.{PrintsOne}
use Rattle.mls_cli_serve.specs.declared.tasks.Job.{Job}
use Rattle.mls_cli_serve.specs.declared.tasks.Job.TheVariants as job
use Rattle.mls_cli_check.specs.Drawing.{draw_page}
use Rattle.mls_cli_check.specs.GroupInfo.{group_info_page}
use Rattle.mls_cli_draw.specs.Picture.{row_text}
use Rattle.mls_suite.specs.Glass.{glass}
use Rattle.mls_cli_serve.specs.declared.tasks.SuiteChoice.TheVariants as choice
use Rattle.mls_cli_serve.specs.Layouts.{lines_printout}
use Rattle.mls_cli_serve.specs.Pages.{checking, file_page}
use Rattle.mls_cli_serve.specs.Serving.{IsPrintout, read_of}

pub long_page : {E : Type 0} (form : Form) (text : List ℕ) (page : Page E) → file_limit form < length text → file_page form text page ≡ refused 6
long_page form text page long = cond-true (nat_lt (file_limit form) (length text)) _ _ (lt-ltb (file_limit form) (length text) long)

pub short_page : {E : Type 0} (form : Form) (text : List ℕ) (page : Page E) → length text ≤ file_limit form → file_page form text page ≡ page
short_page form text page short = cond-false (nat_lt (file_limit form) (length text)) _ _ (le-ltb (file_limit form) (length text) short)

page_of_front : {E : Type 0} (form : Form) (text : List ℕ) (page : List ℕ → Page E) → file_page form (take (suc (file_limit form)) text) (page (take (suc (file_limit form)) text)) ≡ file_page form text (page text)
page_of_front form text page =
    elim (cases_lt (file_limit form) (length text)) [
      | inl long ↦
          let most = length-take-le (suc (file_limit form)) text (omega arith) in
          long_page form (take (suc (file_limit form)) text) _ (omega arith) ∙ sym (long_page form text _ long)
      | inr short ↦ ap (λ front. file_page form front (page front)) (take_all (suc (file_limit form)) text (omega arith))
    ]

same_printout : (j : Job) (text : List ℕ) (p : Printout) → IsPrintout j (read_of j text) p → IsPrintout j text p
same_printout (job.Show file form detail layout) text p is =
    is ∙ ap (lines_printout layout) (page_of_front form text (show_page detail form))
same_printout (job.Check file form suite signatures group layout) text p is =
    is ∙ ap (lines_printout layout) (page_of_front form text (λ own. check_page (checking suite signatures) form own group.now))
same_printout (job.CheckGroupInfo file form signatures layout) text p is =
    is ∙ ap (lines_printout layout) (page_of_front form text (group_info_page glass (checking choice.Suite0001 signatures) form))
same_printout (job.Draw file form source drawing) text p is =
    is ∙ ap (printout row_text) (page_of_front form text (draw_page source drawing form))
same_printout (job.Replay file suite view progress) text p is = is
same_printout (job.DrawMember file suite member drawing progress) text p is = is
same_printout (job.Vectors file) text p is = is

prints_all : (j : Job) (text : List ℕ) (old new : Option (List ℕ)) (r : Result ℕ Fault) → PrintsOne (IsPrintout j (read_of j text)) old new r → PrintsOne (IsPrintout j text) old new r
prints_all j text old new (Ok status) (p, is, grew, same) = (p, same_printout j text p is, grew, same)
prints_all j text old new (Err e) (inl kept) = inl kept
prints_all j text old new (Err e) (inr (p, is, part)) = inr (p, same_printout j text p is, part)

pub prints_read : (remaining : Option (List ℕ)) (j : Job) (front text : List ℕ) (old new : Option (List ℕ)) (r : Result ℕ Fault) → front ≡ text → IfSome remaining (λ (all : List ℕ). text ≡ read_of j all) → PrintsOne (IsPrintout j front) old new r → IfSome remaining (λ (all : List ℕ). PrintsOne (IsPrintout j all) old new r)
prints_read None j front text old new r same is prints = tt
prints_read (Some all) j front text old new r same is prints = prints_all j all old new r (subst (λ (own : List ℕ). PrintsOne (IsPrintout j own) old new r) (same ∙ is) prints)

use Rattle.std.proofs.Common.{◌∙◌, Bool, [], inl, inr, refl, ap, subst}
use Rattle.mls_cli_text.proofs.Pages.{made_prints}
use Rattle.mls_cli_text.specs.InputOutput.{write_fails}
use Rattle.mls_cli_text.specs.Text.{entry_of, line_text}
use Rattle.mls_cli_text.specs.declared.fault.Fault.{Fault}
use Rattle.mls_cli_serve.specs.Saying.{Says, fault_text}
use Rattle.mls_cli_serve.proofs.Telling.{cause_is, stays}
use Rattle.mls_cli_serve.proofs.serving.tell.Goals as goal

pub returns-in-Ok : goal.returns-in-Ok
returns-in-Ok g c =
    let prints = made_prints line_text entry_of _ _ c.told_page.result _ _ c.told_page.ensures c.in-Ok.ensures.prints in
    inl (prints.1, prints.0, c.in-Ok.ensures.fault ∙ c.requires, stays _)

pub returns-in-Err : goal.returns-in-Err
returns-in-Err g c =
    let prints = made_prints line_text entry_of _ _ c.told_page.result _ _ c.told_page.ensures c.in-Err.ensures.prints in
    let is = cause_is c.in-Err.stopped _ c.in-Err.ensures.written (c.in-Err.ensures.fault ∙ ap (λ (b : Bool). write_fails b c.in-Err.stopped) c.requires) in
    inr (refl, prints, subst (λ (f : Fault). Says g.E.Write.contents c.args.err.now c.say_fault.new.err (fault_text [] f)) is c.say_fault.ensures)

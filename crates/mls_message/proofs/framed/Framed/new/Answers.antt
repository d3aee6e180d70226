use Rattle.std.proofs.Common.{subst, ◌∙◌}
use Rattle.std.proofs.lemmas.Result.{err_from_is_err_and}
use Rattle.mls_types.specs.declared.content.FramedContent.{FramedContent}
use Rattle.mls_message.specs.Sending.{IsRefused}
use Rattle.mls_message.proofs.Refusals.{refused_long}
use Rattle.mls_message.proofs.framed.Framed.new.Goals as goal

pub returns-in_err-bytes : goal.returns-in_err-bytes
returns-in_err-bytes c =
    let p = err_from_is_err_and c.from_residual-in_err-bytes.result c.from_residual-in_err-bytes.ensures.1 in
    λ m speaks.
    rw (p.1, p.2) (subst (λ (x : FramedContent). IsRefused m x c.in_err-bytes.field-0.0) (c.deref.ensures ∙ c.in_ok-content.ensures.ok ∙ c.in_ok-frame_content.ensures.said m speaks) (refused_long m c.deref.result.now c.in_err-bytes.field-0.0 c.in_err-bytes.ensures))

use Rattle.std.proofs.Common.{◌≡◌, ℕ, List, Result, sym, ap, ◌∙◌, subst}
use Rattle.std.proofs.lemmas.Result.{err_from_is_err_and}
use Rattle.mls_private_message.specs.PrivateContent.{private_content}
use Rattle.mls_exchange.specs.Contents.{within_limit}
use Rattle.mls_exchange.specs.Sealing.{own_content}
use Rattle.mls_exchange.specs.Calls.{GivesBytes}
use Rattle.mls_exchange.proofs.Refused.{content_refused}
use Rattle.mls_exchange.proofs.Steps.{content_unsigned, content_signed}
use Rattle.mls_exchange.proofs.exchange.Exchange.content.Goals as goal

pub returns-in_err-signature : goal.returns-in_err-signature
returns-in_err-signature g c =
    let p = err_from_is_err_and c.from_residual.result c.from_residual.ensures.1 in
    rw (p.1, p.2) (λ memory.
    content_unsigned g.S.Suite.crypto c.args.self.now c.args.plain.now.application_data.now c.args.plain.now.authenticated_data.now c.args.plain.now.padding _ (c.in_err-signature.ensures memory))

pub returns-in_err-content : goal.returns-in_err-content
returns-in_err-content g c =
    let signed =
    content_signed g.S.Suite.crypto c.args.self.now c.args.plain.now.application_data.now c.args.plain.now.authenticated_data.now c.args.plain.now.padding c.in_ok-signature.signature.items c.in_ok-signature.ensures in
    let p = err_from_is_err_and c.from_residual-in_err-content.result c.from_residual-in_err-content.ensures.1 in
    rw (p.1, p.2) (λ memory.
    signed
    ∙ content_refused c.args.plain.now.application_data.now c.in_ok-signature.signature.items c.args.plain.now.padding c.in_err-content.field-0.0
    (rw c.deref.ensures.value at c.in_err-content.ensures) memory)

pub returns : goal.returns
returns g c =
    let signed =
    content_signed g.S.Suite.crypto c.args.self.now c.args.plain.now.application_data.now c.args.plain.now.authenticated_data.now c.args.plain.now.padding c.in_ok-signature.signature.items c.in_ok-signature.ensures in
    let is : c.in_ok-content.content.items ≡ private_content c.args.plain.now.application_data.now c.in_ok-signature.signature.items c.args.plain.now.padding =
    c.in_ok-content.ensures.1 ∙ ap (λ (x : List ℕ). private_content c.args.plain.now.application_data.now x c.args.plain.now.padding) c.deref.ensures.value in
    let same : within_limit c.in_ok-content.content.items ≡ own_content g.S.Suite.crypto c.args.self.now c.args.plain.now.application_data.now c.args.plain.now.authenticated_data.now c.args.plain.now.padding =
    ap within_limit is ∙ sym signed in
    subst (λ (r : Result (List ℕ) ℕ). GivesBytes r c.within_limit.result) same c.within_limit.ensures

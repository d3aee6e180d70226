use Rattle.std.proofs.Common.{◌∙◌, ap, sym, append_assoc, List, ℕ, ◌++◌}
use Rattle.std.proofs.lemmas.Result.{err_from_is_err_and}
use Rattle.mls_leaf.proofs.Codecs.{Refuses-whole}
use Rattle.mls_types.specs.Content.{framed_content}
use Rattle.mls_types.specs.Signed.{signed_content}
use Rattle.mls_types.specs.SignedParts.{framed_content_of, auth_data, AuthDataFits}
use Rattle.mls_types.proofs.SignedParts.{signed_content_spelled, signed_content_fits, signed_content_parts_fit}
use Rattle.mls_types.proofs.signed.SignedContentCodec.write.Goals as goal

pub returns-in_err-add_framed_content : goal.returns-in_err-add_framed_content
returns-in_err-add_framed_content c =
    let p = err_from_is_err_and c.from_residual.result c.from_residual.ensures.1 in
    rw (p.1, p.2) (Refuses-whole (framed_content.Fits (framed_content_of c.args.self.now)) (signed_content.Fits c.args.self.now) c.in_err-add_framed_content.field-0.0 (λ f. (signed_content_parts_fit c.args.self.now f).0) c.in_err-add_framed_content.ensures)

pub returns-in_err-add_auth_data : goal.returns-in_err-add_auth_data
returns-in_err-add_auth_data c =
    let p = err_from_is_err_and c.from_residual-in_err-add_auth_data.result c.from_residual-in_err-add_auth_data.ensures.1 in
    rw (p.1, p.2) (Refuses-whole (AuthDataFits c.args.self.now) (signed_content.Fits c.args.self.now) c.in_err-add_auth_data.field-0.0 (λ f. (signed_content_parts_fit c.args.self.now f).1) c.in_err-add_auth_data.ensures)

pub returns : goal.returns
returns c =
    let v = c.args.self.now in
    let first = c.in_ok-add_framed_content.ensures in
    let second = c.in_ok-add_auth_data.ensures in (
      signed_content_fits v first.0 second.0,
      second.1 ∙ ap (λ (l : List ℕ). l ++ auth_data v) first.1 ∙ append_assoc c.args.writer.now (framed_content.spell (framed_content_of v)) (auth_data v) ∙ ap (λ (l : List ℕ). c.args.writer.now ++ l) (sym (signed_content_spelled v)),
    )

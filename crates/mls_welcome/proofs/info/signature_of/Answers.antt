use Rattle.std.proofs.lemmas.Result.{err_from_is_err_and}
use Rattle.std.proofs.Common.{◌<◌, List, ℕ, Err, length, codes, ap, sym, subst, ◌∙◌}
use Rattle.mls_leaf.specs.Limits.{input_limit}
use Rattle.mls_suite.specs.Labels.{sign_with_label}
use Rattle.mls_welcome.proofs.Measured.{signed_long, tbs_refused}
use Rattle.mls_welcome.proofs.info.signature_of.Goals as goal

pub returns-in_err-text-clause-refused : goal.returns-in_err-text-clause-refused
returns-in_err-text-clause-refused g c =
    let p = err_from_is_err_and c.from_residual.result c.from_residual.ensures.1 in
    rw (p.1, p.2) (λ other. tbs_refused g.S.Suite.crypto c.args.signing.now c.args.info.now c.requires c.in_err-text.field-0.0 c.in_err-text.ensures other)

pub returns-in_err-require_within_limit-clause-refused : goal.returns-in_err-require_within_limit-clause-refused
returns-in_err-require_within_limit-clause-refused g c =
    let p = err_from_is_err_and c.from_residual-in_err-require_within_limit.result c.from_residual-in_err-require_within_limit.ensures.1 in
    rw (p.1, p.2) (λ other.
    signed_long g.S.Suite.crypto c.args.signing.now c.args.info.now (subst (λ (l : List ℕ). input_limit < length l) (c.deref.ensures.value ∙ c.in_ok-text.ensures.1) c.in_err-require_within_limit.ensures.length.1)
    ∙ ap Err (sym c.in_err-require_within_limit.ensures.length.0))

pub returns-clause-signature : goal.returns-clause-signature
returns-clause-signature g c =
    c.from_vec.ensures ∙ c.in_ok-signature.ensures
    ∙ ap (sign_with_label g.S.Suite.crypto c.args.signing.now (codes "GroupInfoTBS")) (c.deref-2.ensures.value ∙ c.in_ok-text.ensures.1)

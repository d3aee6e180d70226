use Rattle.std.proofs.Common.{ap, ◌∙◌, sym}
use Rattle.std.proofs.lemmas.Result.{err_from_is_err_and}
use Rattle.mls_model.specs.Messages.{are_bytes}
use Rattle.mls_join.specs.FewNodes.{tree_in}
use Rattle.mls_join.specs.Parts.{secrets_by}
use Rattle.mls_join.proofs.FewNodes.{info_refused}
use Rattle.mls_join.proofs.opening.open_group_info.Goals as goal

pub returns-in_err-info-clause-answer : goal.returns-in_err-info-clause-answer
returns-in_err-info-clause-answer g c =
    let p = err_from_is_err_and c.from_residual-in_err-info.result c.from_residual-in_err-info.ensures.1 in
    rw (p.1, p.2) (λ other.
    info_refused g.S.Suite.crypto (secrets_by c.args.secrets) c.args.sealed.now c.in_ok-bytes.bytes.items _ c.in_ok-bytes.ensures
    (ap are_bytes (sym c.deref.ensures.value) ∙ c.in_err-info.ensures.bytes)
    (ap (tree_in g.S.Suite.crypto) (sym c.deref.ensures.value) ∙ c.in_err-info.ensures.refused other))

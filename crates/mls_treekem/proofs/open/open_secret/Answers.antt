use Rattle.std.proofs.Common.{sym, ◌∙◌, ap, refl}
use Rattle.mls_types.specs.Ciphertexts.{ciphertext_lent}
use Rattle.mls_treekem.specs.Faults.{number_of}
use Rattle.mls_treekem_model.specs.Open.{secret_of}
use Rattle.mls_treekem.proofs.Opening.{answers_by, answers_outright, opens_none, opens_some}
use Rattle.mls_treekem.proofs.open.open_secret.Goals as goal

pub returns-in-Some : goal.returns-in-Some
returns-in-Some g c =
    answers_by (λ s. s) number_of (secret_of c.deref.result.now) _ _
    (sym (opens_some _ g.S.Suite.crypto c.args.context.now c.args.key.now (ciphertext_lent c.args.sealed) _ _ _ refl refl c.in_ok-opened.ensures _ c.in-Some.is ∙ ap secret_of (sym c.deref.ensures.value)))
    (answers_outright (λ s. s) number_of _ _ c.secret_of.ensures)

pub returns-in-None : goal.returns-in-None
returns-in-None g c =
    λ _. opens_none _ g.S.Suite.crypto c.args.context.now c.args.key.now (ciphertext_lent c.args.sealed) _ _ _ refl refl c.in_ok-opened.ensures c.in-None.is

use Rattle.std.proofs.Common.{ℕ, List, ap, sym, ◌∙◌}
use Rattle.std.proofs.lemmas.Result.{err_from_is_err_and}
use Rattle.mls_world_plain.proofs.Entering.{key_taken, key_free}
use Rattle.mls_world_plain.proofs.world.PlainWorld.make_candidate.Goals as goal

pub returns-then-has_signature_key : goal.returns-then-has_signature_key
returns-then-has_signature_key g c =
    let key = c.deref.ensures.value ∙ c.in_ok-key.ensures ∙ ap (λ (l : List ℕ). g.S.Suite.crypto.sig_public l) c.sign_seed.ensures in
    λ other. key_taken g.S.Suite.crypto c.args.self.now c.args.identity.now c.args.seed.now c.deref.result.now key (sym c.if-has_signature_key.true ∙ c.has_signature_key.ensures)

pub returns-in_err-candidate : goal.returns-in_err-candidate
returns-in_err-candidate g c =
    let key = c.deref.ensures.value ∙ c.in_ok-key.ensures ∙ ap (λ (l : List ℕ). g.S.Suite.crypto.sig_public l) c.sign_seed.ensures in
    let free = key_free g.S.Suite.crypto c.args.self.now c.args.identity.now c.args.seed.now c.deref.result.now key (sym c.if-has_signature_key.false ∙ c.has_signature_key.ensures) in
    let p = err_from_is_err_and c.from_residual-in_err-candidate.result c.from_residual-in_err-candidate.ensures.1 in
    rw (p.1, p.2) (λ other. free ∙ c.in_err-candidate.ensures.answer other)

pub returns : goal.returns
returns g c =
    let key = c.deref.ensures.value ∙ c.in_ok-key.ensures ∙ ap (λ (l : List ℕ). g.S.Suite.crypto.sig_public l) c.sign_seed.ensures in
    key_free g.S.Suite.crypto c.args.self.now c.args.identity.now c.args.seed.now c.deref.result.now key (sym c.if-has_signature_key.false ∙ c.has_signature_key.ensures) ∙ c.in_ok-candidate.ensures.answer

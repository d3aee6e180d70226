use Rattle.std.proofs.lemmas.Result.{err_from_is_err_and}
use Rattle.mls_types.proofs.CiphertextLaws.{spelled_added, spelled_refused}
use Rattle.mls_types.proofs.ciphertexts.SpelledCiphertexts.write.Goals as goal

pub returns-in_err-opaque : goal.returns-in_err-opaque
returns-in_err-opaque c =
    let p = err_from_is_err_and c.from_residual.result c.from_residual.ensures.1 in
    rw (p.1, p.2) (spelled_refused c.self.inside.bytes.items c.args.self.now c.deref.result.now c.self.invariant.0 c.self.view_is c.deref.ensures.value c.in_err-opaque.field-0.0 c.in_err-opaque.ensures.0)

pub returns : goal.returns
returns c = spelled_added c.self.inside.bytes.items c.args.self.now c.deref.result.now c.self.invariant.0 c.self.view_is c.deref.ensures.value c.args.writer.now c.opaque.new.self c.in_ok-opaque.ensures

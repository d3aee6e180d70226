use Rattle.std.proofs.Common.{◌≡◌, ℕ, arith, subst}
use Rattle.std.proofs.lemmas.Result.{err_from_is_err_and}
use Rattle.mls_leaf.specs.Faults.{number_of}
use Rattle.mls_types.specs.Ciphertexts.{ciphertext_lent}
use Rattle.mls_types.proofs.CiphertextLaws.{IsFrom, from_first, from_next, found_from, missing_from, missing_past}
use Rattle.mls_types.proofs.ciphertexts.ciphertext_at.Goals as goal

pub loop-init : goal.loop-init
loop-init c = rw c.new-reader.ensures (from_first c.args.bytes.now c.requires)

pub returns-in_err-check : goal.returns-in_err-check
returns-in_err-check c =
    let p = err_from_is_err_and c.from_residual.result c.from_residual.ensures.1 in
    rw p.1 (missing_past c.args.bytes.now c.loop.counter c.args.number c.loop.reader (number_of c.in_err-check.field-0.0) c.requires c.loop.invariant c.in_err-check.ensures (omega arith))

pub loop-preserved : goal.loop-preserved
loop-preserved c = from_next c.args.bytes.now c.loop.counter c.loop.reader c.check.new.reader c.requires c.loop.invariant c.in_ok-check.ensures

pub returns-in_err-sealed : goal.returns-in_err-sealed
returns-in_err-sealed c =
    let p = err_from_is_err_and c.from_residual-in_err-sealed.result c.from_residual-in_err-sealed.ensures.1 in
    rw p.1 (missing_from c.args.bytes.now c.loop.counter c.args.number c.loop.reader (number_of c.in_err-sealed.field-0.0) c.requires c.loop.invariant c.in_err-sealed.ensures (omega arith))

pub returns : goal.returns
returns c =
    let at : c.loop.counter ≡ c.args.number = omega arith in
    found_from c.args.bytes.now c.args.number c.loop.reader c.read.new.reader (ciphertext_lent c.in_ok-sealed.sealed) c.requires (subst (λ (i : ℕ). IsFrom c.args.bytes.now i c.loop.reader) at c.loop.invariant) c.in_ok-sealed.ensures

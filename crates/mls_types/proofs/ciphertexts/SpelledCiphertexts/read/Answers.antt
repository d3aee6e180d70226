use Rattle.std.proofs.Common.{refl, List, Ok}
use Rattle.std.proofs.lemmas.Result.{err_from_is_err_and}
use Rattle.mls_leaf.proofs.Codecs.{Fails-then}
use Rattle.mls_leaf.proofs.TypeMarksLaws.{fails_now}
use Rattle.mls_leaf.specs.Faults.{items_in}
use Rattle.mls_types.specs.UpdatePath.{hpke_ciphertext}
use Rattle.mls_types.specs.declared.update_path.HpkeCiphertext.{HpkeCiphertext}
use Rattle.mls_types.proofs.ciphertexts.SpelledCiphertexts.read.Goals as goal

pub returns-in_err-count : goal.returns-in_err-count
returns-in_err-count c =
    let p = err_from_is_err_and c.from_residual-in_err-count.result c.from_residual-in_err-count.ensures.1 in
    rw (p.1, p.2, c.in_ok-content.ensures) (Fails-then c.in_err-count.field-0.0 (items_in hpke_ciphertext c.in_ok-content.content.now) (λ (xs : List HpkeCiphertext). Ok (xs, c.opaque.new.self)) (fails_now c.in_err-count.field-0.0 (items_in hpke_ciphertext c.in_ok-content.content.now) c.in_err-count.ensures))

pub invariant_of-result : goal.invariant_of-result
invariant_of-result c = rw c.in_ok-bytes.ensures.items (c.in_ok-count.ensures.are_spelled, c.in_ok-count.ensures.counted)

pub returns : goal.returns
returns c = rw (c.in_ok-content.ensures, c.in_ok-count.ensures.are_read, c.in_ok-bytes.ensures.items) refl

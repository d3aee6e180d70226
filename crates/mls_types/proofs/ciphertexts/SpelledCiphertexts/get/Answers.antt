use Rattle.std.proofs.Common.{◌∙◌, ap, List}
use Rattle.std.specs.List.{slice_get}
use Rattle.std.specs.Option.{option_map}
use Rattle.mls_types.specs.declared.update_path.HpkeCiphertext.{HpkeCiphertext}
use Rattle.mls_types.specs.Ciphertexts.{ciphertext_lent, ciphertexts_in}
use Rattle.mls_types.proofs.CiphertextLaws.{lent_if_ok}
use Rattle.mls_types.proofs.ciphertexts.SpelledCiphertexts.get.Goals as goal

pub ciphertext_at-requires : goal.ciphertext_at-requires
ciphertext_at-requires c = rw c.deref.ensures.value c.self.invariant.0

pub returns : goal.returns
returns c =
    ap (option_map ciphertext_lent) c.ok.ensures.value
    ∙ lent_if_ok (slice_get (ciphertexts_in c.deref.result.now) c.args.number) c.ciphertext_at.result c.ciphertext_at.ensures
    ∙ ap (λ (xs : List HpkeCiphertext). slice_get xs c.args.number) (ap ciphertexts_in c.deref.ensures.value ∙ c.self.view_is)

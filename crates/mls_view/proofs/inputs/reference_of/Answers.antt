use Rattle.std.proofs.Common.{refl, ap, ◌∙◌}
use Rattle.sha2.specs.Sha256.{sha256}
use Rattle.mls_wire.specs.Reading.{uint}
use Rattle.mls_kdf.specs.Kdf.{ref_hash}
use Rattle.mls_view.proofs.SliceInputs.{referenced}
use Rattle.mls_view.proofs.inputs.reference_of.Goals as goal

pub returns : goal.returns
unfolding ref_hash uint
returns c = c.hash.ensures ∙ ap sha256 (referenced c.as_slice.result.now c.as_bytes.result.now c.as_slice-2.result.now _ c.args.said.now c.args.auth.now c.args.label.now
    (c.as_slice.ensures ∙ c.content_header-label_header.ensures) c.as_bytes.ensures.value (c.as_slice-2.ensures ∙ c.content_header-value_header.ensures) c.to_be_bytes-format.ensures refl)

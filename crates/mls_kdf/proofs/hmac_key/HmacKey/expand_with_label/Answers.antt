use Rattle.std.proofs.Common.{◌≡◌, ℕ, List, ◌++◌, length, ◌+◌, arith, ap, ◌∙◌}
use Rattle.std.specs.Prelude.{codes}
use Rattle.mls_wire.specs.Reading.{header}
use Rattle.mls_kdf.specs.Kdf.{expand_with_label, kdf_label, mls_label}
use Rattle.mls_kdf.proofs.Lists.{vectors_after}
use Rattle.mls_kdf.proofs.hmac_key.HmacKey.expand_with_label.Goals as goal

length_of_label : (label : List ℕ) → 8 + length label ≡ length (codes "MLS 1.0 " ++ label)
length_of_label label = omega arith

pub returns-clause-ok : goal.returns-clause-ok
unfolding expand_with_label kdf_label mls_label
returns-clause-ok c =
    let label_header : c.content_header-label_header.result ≡ header (length (codes "MLS 1.0 " ++ c.args.label.now)) =
    c.content_header-label_header.ensures ∙ ap header (length_of_label c.args.label.now) in
    let info = vectors_after c.to_be_bytes-length.result c.as_slice.result.now (codes "MLS 1.0 ") c.as_bytes.result.now c.as_slice-2.result.now c.args.context.now in
    rw (info, c.to_be_bytes-length.ensures, c.as_slice.ensures, label_header, c.as_bytes.ensures.value, c.as_slice-2.ensures, c.content_header-context_header.ensures) at c.expand.ensures.ok

use Rattle.std.proofs.Common.{◌≡◌, ℕ, List, [], ◌++◌, length, ◌+◌, arith, ap, ◌∙◌, append_assoc}
use Rattle.std.specs.Prelude.{codes}
use Rattle.mls_wire.specs.Reading.{header}
use Rattle.mls_kdf.specs.Kdf.{mls_label}
use Rattle.mls_suite.specs.Labels.{content_with_label}
use Rattle.mls_suite.proofs.labels.content_with_label.Goals as goal

length_of_label : (label : List ℕ) → 8 + length label ≡ length (codes "MLS 1.0 " ++ label)
length_of_label label = omega arith

-- five pieces, one after another
pieces : (a p l b c : List ℕ) → (((([] ++ a) ++ p) ++ l) ++ b) ++ c ≡ (a ++ (p ++ l)) ++ (b ++ c)
pieces a p l b c = simp append_assoc

pub returns : goal.returns
unfolding content_with_label mls_label
returns c =
    let label_header : c.content_header-label_header.result ≡ header (length (codes "MLS 1.0 " ++ c.args.label.now)) =
    c.content_header-label_header.ensures ∙ ap header (length_of_label c.args.label.now) in
    rw (
      c.in_ok-extend_from_slice-5.ensures.items,
      c.in_ok-extend_from_slice-4.ensures.items,
      c.in_ok-extend_from_slice-3.ensures.items,
      c.in_ok-extend_from_slice-2.ensures.items,
      c.in_ok-extend_from_slice.ensures.items,
      c.in_ok-bytes.ensures.items,
      c.as_slice.ensures,
      label_header,
      c.as_bytes.ensures.value,
      c.as_slice-2.ensures,
      c.content_header-content_header.ensures,
    )
    (pieces (header (length (codes "MLS 1.0 " ++ c.args.label.now))) (codes "MLS 1.0 ") c.args.label.now (header (length c.args.content.now)) c.args.content.now)

use Rattle.std.proofs.Common.{refl}
use Rattle.mls_wire.specs.Reading.{uint}
use Rattle.mls_view.proofs.inputs.join_signed_pieces.Goals as goal

pub returns : goal.returns
unfolding uint
returns c = rw (c.in_ok-extend_from_slice-3.ensures.items, c.in_ok-extend_from_slice-2.ensures.items, c.in_ok-extend_from_slice.ensures.items, c.in_ok-bytes.ensures.items) refl

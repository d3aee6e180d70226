use Rattle.std.proofs.Common.{refl, ap, arith, ℕ, List, Result}
use Rattle.mls_wire.specs.Reading.{◌>>=◌}
use Rattle.mls_wire.specs.Combine.{case, others, nothing}
use Rattle.mls_wire.specs.CombineReads.{seen_read}
use Rattle.mls_types.specs.PublicMessage.{wire_format, WireFormats, make_wire_format}
use Rattle.mls_leaf.proofs.Cases.{read_other}
use Rattle.mls_types.proofs.public_message.WireFormatCodec.read.Goals as goal

pub returns-in-5 : goal.returns-in-5
unfolding wire_format
returns-in-5 c = rw (c.in_ok-u16.ensures, c.in-5.is) refl

pub returns-in_default : goal.returns-in_default
unfolding wire_format
returns-in_default c =
    let bytes = c.u16.new.self in
    let t = c.in_ok-u16.field-0 in
    rw c.in_ok-u16.ensures (ap (λ (x : Result (WireFormats × List ℕ) ℕ). x >>= seen_read make_wire_format)
    (read_other 1 t nothing (case 3 nothing (case 4 nothing (case 5 nothing (others 7)))) bytes 7 (λ e. absurd (omega arith))
    (read_other 3 t nothing (case 4 nothing (case 5 nothing (others 7))) bytes 7 (λ e. absurd (omega arith))
    (read_other 4 t nothing (case 5 nothing (others 7)) bytes 7 (λ e. absurd (omega arith))
    (read_other 5 t nothing (others 7) bytes 7 (λ e. absurd (omega arith)) refl)))))

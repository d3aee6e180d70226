-- The format of sender data (RFC 9420, 6.3.2).
use Rattle.std.specs.Prelude.{ℕ, List, length, ◌==◌, if◌then◌else◌, Option, Some, None, Result, Ok, Err, refl}
use Rattle.mls_wire.specs.Format.{Format}
use Rattle.mls_wire.specs.Combine.{◌⨾◌, image, uint32}
use Rattle.mls_wire.specs.CombineReads.{IsNonempty}
use Rattle.mls_leaf.specs.Nonempty.{uint32_nonempty, first_nonempty}
use Rattle.mls_private_message.specs.declared.sender_data.SenderData.{SenderData}

-- SenderData (RFC 9420, 6.3.2): uint32 leaf_index, uint32 generation, reuse_guard[4], here as a uint32
unfoldable pub sender_data : Format SenderData
sender_data = image (uint32 ⨾ uint32 ⨾ uint32)
    (λ x. record { leaf_index = x.0; generation = x.1.0; reuse_guard = x.1.1 })
    (λ v. (v.leaf_index, (v.generation, v.reuse_guard)))
    (λ v. refl) (λ x _. refl)

pub sender_data_nonempty : IsNonempty sender_data
unfolding sender_data
sender_data_nonempty v fits =
    first_nonempty uint32 (uint32 ⨾ uint32) uint32_nonempty
    (v.leaf_index, (v.generation, v.reuse_guard)) fits

-- the value, where no byte is left behind it
abbrev pub only_value : Result (SenderData × List ℕ) ℕ → Option SenderData
only_value (Err n) = None
only_value (Ok x) = if length x.1 == 0 then Some x.0 else None

-- the sender data that all of the bytes spell, if they spell one
unfoldable pub whole_sender_data : List ℕ → Option SenderData
whole_sender_data bytes = only_value (sender_data.read bytes)

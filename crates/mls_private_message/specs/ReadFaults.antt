-- Which numbers the readings of private messages answer.
use Rattle.std.specs.Prelude.{◌==◌, if◌then◌else◌, Ok, Err, refl}
use Rattle.std.specs.Int.{w8}
use Rattle.std.proofs.Common.{lit<}
use Rattle.mls_wire.specs.Reading.{mark_at, uint_at}
use Rattle.mls_wire.specs.ReadFaults.{HasFaults, PassesWith, answered_then, answered_if, uint_answered, pair_faults, behind_faults, mark_faults, seen_answered, byte_string_faults, uint32_faults, uint64_faults}
use Rattle.mls_private_message.specs.SenderData.{sender_data}
use Rattle.mls_private_message.specs.PrivateMessage.{application_type, private_fields, private_message}

pub sender_data_faults : HasFaults sender_data
unfolding sender_data
sender_data_faults =
    let parts = pair_faults uint32_faults (pair_faults uint32_faults uint32_faults) in
    record { answers = seen_answered _ parts }

application_type_faults : PassesWith application_type
unfolding mark_at
application_type_faults = record {
  answers = λ bytes. answered_then (uint_at w8 bytes) (λ n. if n.0 == 1 then Ok n.1 else Err 7)
      (uint_answered w8 bytes) (λ n. answered_if (n.0 == 1) (Ok n.1) (Err 7) tt refl);
}

private_fields_faults : HasFaults private_fields
unfolding private_fields
private_fields_faults =
    let sealed =
    pair_faults byte_string_faults (pair_faults byte_string_faults byte_string_faults) in
    let parts =
    pair_faults byte_string_faults
    (pair_faults uint64_faults (behind_faults application_type_faults sealed)) in
    record { answers = seen_answered _ parts }

pub private_message_faults : HasFaults private_message
unfolding private_message
private_message_faults =
    behind_faults (mark_faults 1 7 (lit< tt) refl)
    (behind_faults (mark_faults 2 7 (lit< tt) refl) private_fields_faults)

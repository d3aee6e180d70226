-- Which numbers the readings of commits, contents and messages answer.
use Rattle.std.specs.Prelude.{refl}
use Rattle.std.proofs.Common.{lit<}
use Rattle.mls_wire.specs.ReadFaults.{HasFaults, mark_faults, pair_faults, behind_answered, seen_answered, others_faults, case_faults, by_uint8_faults, by_uint16_faults, vector_faults, optional_faults, byte_string_faults, nothing_faults, uint32_faults, uint64_faults}
use Rattle.mls_leaf.specs.ReadFaults.{key_package_faults, proposal_faults}
use Rattle.mls_types.specs.GroupReadFaults.{update_path_faults, group_info_faults, welcome_faults}
use Rattle.mls_types.specs.Commit.{proposal_or_ref, proposal_or_ref_nonempty, commit}
use Rattle.mls_types.specs.Content.{sender, content, framed_content}
use Rattle.mls_types.specs.Signed.{signed_tail, signed_content}
use Rattle.mls_types.specs.PublicMessage.{wire_format, public_message, authenticated_content}
use Rattle.mls_types.specs.Message.{mls_message}

pub proposal_or_ref_faults : HasFaults proposal_or_ref
unfolding proposal_or_ref
proposal_or_ref_faults =
    let cases = by_uint8_faults (case_faults 1 proposal_faults (case_faults 2 byte_string_faults (others_faults 7 refl))) in
    record { answers = seen_answered _ cases }

pub commit_faults : HasFaults commit
unfolding commit
commit_faults =
    let parts = pair_faults (vector_faults proposal_or_ref proposal_or_ref_nonempty proposal_or_ref_faults) (optional_faults update_path_faults) in
    record { answers = seen_answered _ parts }

pub sender_faults : HasFaults sender
unfolding sender
sender_faults =
    let cases = by_uint8_faults (case_faults 1 uint32_faults (others_faults 7 refl)) in
    record { answers = seen_answered _ cases }

pub content_faults : HasFaults content
unfolding content
content_faults =
    let cases = by_uint8_faults (case_faults 1 byte_string_faults (case_faults 2 proposal_faults (case_faults 3 commit_faults (others_faults 7 refl)))) in
    record { answers = seen_answered _ cases }

pub framed_content_faults : HasFaults framed_content
unfolding framed_content
framed_content_faults =
    let parts = pair_faults byte_string_faults (pair_faults uint64_faults (pair_faults sender_faults (pair_faults byte_string_faults content_faults))) in
    record { answers = seen_answered _ parts }

signed_tail_faults : HasFaults signed_tail
unfolding signed_tail
signed_tail_faults =
    let signed = case_faults 2 (pair_faults proposal_faults byte_string_faults) (case_faults 3 (pair_faults commit_faults (pair_faults byte_string_faults byte_string_faults)) (others_faults 7 refl)) in
    let cases = by_uint8_faults (case_faults 1 (pair_faults byte_string_faults byte_string_faults) signed) in
    record { answers = seen_answered _ cases }

pub signed_content_faults : HasFaults signed_content
unfolding signed_content
signed_content_faults =
    let parts = pair_faults byte_string_faults (pair_faults uint64_faults (pair_faults sender_faults (pair_faults byte_string_faults signed_tail_faults))) in
    record { answers = seen_answered _ parts }

pub wire_format_faults : HasFaults wire_format
unfolding wire_format
wire_format_faults =
    let cases = by_uint16_faults (case_faults 1 nothing_faults (case_faults 3 nothing_faults (case_faults 4 nothing_faults (case_faults 5 nothing_faults (others_faults 7 refl))))) in
    record { answers = seen_answered _ cases }

pub public_message_faults : HasFaults public_message
unfolding public_message
public_message_faults = record { answers = seen_answered _ (pair_faults signed_content_faults byte_string_faults) }

pub authenticated_content_faults : HasFaults authenticated_content
unfolding authenticated_content
authenticated_content_faults = record { answers = seen_answered _ (pair_faults wire_format_faults signed_content_faults) }

pub mls_message_faults : HasFaults mls_message
unfolding mls_message
mls_message_faults =
    let cases = by_uint16_faults (case_faults 1 public_message_faults (case_faults 3 welcome_faults (case_faults 4 group_info_faults (case_faults 5 key_package_faults (others_faults 7 refl))))) in
    record { answers = behind_answered _ (mark_faults 1 7 (lit< tt) refl) (seen_answered _ cases) }

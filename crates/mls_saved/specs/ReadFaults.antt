-- Which numbers the readings of saved forms answer.
use Rattle.std.specs.Prelude.{refl}
use Rattle.std.proofs.Common.{lit<}
use Rattle.mls_wire.specs.Combine.{optional, byte_string}
use Rattle.mls_wire.specs.ReadFaults.{HasFaults, mark_faults, pair_faults, behind_answered, seen_answered, vector_faults, optional_faults, case_faults, others_faults, by_uint8_faults, byte_string_faults, nothing_faults, uint32_faults}
use Rattle.mls_leaf.specs.Node.{node}
use Rattle.mls_leaf.specs.Nonempty.{optional_nonempty}
use Rattle.mls_leaf.specs.ReadFaults.{node_faults, key_package_faults, proposal_faults}
use Rattle.mls_types.specs.GroupReadFaults.{group_context_faults}
use Rattle.mls_types.specs.GroupInfo.{ratchet_tree}
use Rattle.mls_saved.specs.State.{saved_keys, saved_state}
use Rattle.mls_saved.specs.Kept.{saved_proposal, saved_proposal_nonempty}
use Rattle.mls_saved.specs.Member.{standing, saved_pending, saved_member}
use Rattle.mls_saved.specs.Candidate.{saved_candidate}

tree_faults : HasFaults ratchet_tree
tree_faults = vector_faults (optional node) (optional_nonempty node) (optional_faults node_faults)

keys_faults : HasFaults saved_keys
keys_faults = vector_faults (optional byte_string) (optional_nonempty byte_string) (optional_faults byte_string_faults)

pub saved_state_faults : HasFaults saved_state
unfolding saved_state
saved_state_faults =
    let parts = pair_faults group_context_faults (pair_faults tree_faults (pair_faults byte_string_faults (pair_faults byte_string_faults (pair_faults uint32_faults (pair_faults byte_string_faults keys_faults))))) in
    record { answers = seen_answered _ parts }

pub saved_proposal_faults : HasFaults saved_proposal
unfolding saved_proposal
saved_proposal_faults =
    let parts = pair_faults byte_string_faults (pair_faults byte_string_faults (pair_faults proposal_faults (pair_faults uint32_faults (optional_faults byte_string_faults)))) in
    record { answers = seen_answered _ parts }

pub standing_faults : HasFaults standing
unfolding standing
standing_faults =
    let cases = by_uint8_faults (case_faults 0 nothing_faults (case_faults 1 nothing_faults (others_faults 7 refl))) in
    record { answers = seen_answered _ cases }

pub saved_pending_faults : HasFaults saved_pending
unfolding saved_pending
saved_pending_faults = record { answers = seen_answered _ (pair_faults byte_string_faults saved_state_faults) }

pub saved_member_faults : HasFaults saved_member
unfolding saved_member
saved_member_faults =
    let parts = pair_faults standing_faults (pair_faults saved_state_faults (pair_faults byte_string_faults (pair_faults (vector_faults saved_proposal saved_proposal_nonempty saved_proposal_faults) (optional_faults saved_pending_faults)))) in
    record { answers = behind_answered _ (mark_faults 1 7 (lit< tt) refl) (seen_answered _ parts) }

pub saved_candidate_faults : HasFaults saved_candidate
unfolding saved_candidate
saved_candidate_faults =
    let parts = pair_faults key_package_faults (pair_faults byte_string_faults (pair_faults byte_string_faults byte_string_faults)) in
    record { answers = behind_answered _ (mark_faults 2 7 (lit< tt) refl) (seen_answered _ parts) }

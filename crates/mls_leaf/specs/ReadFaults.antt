-- Which numbers the readings of leaves, key packages, proposals and nodes answer.
use Rattle.std.specs.Prelude.{refl}
use Rattle.std.proofs.Common.{lit<}
use Rattle.mls_wire.specs.Combine.{uint16}
use Rattle.mls_wire.specs.ReadFaults.{HasFaults, mark_faults, empty_faults, pair_faults, behind_faults, behind_answered, seen_answered, others_faults, case_faults, by_uint8_faults, by_uint16_faults, vector_faults, byte_string_faults, nothing_faults, uint16_faults, uint32_faults, uint64_faults}
use Rattle.mls_leaf.specs.Nonempty.{uint16_nonempty}
use Rattle.mls_leaf.specs.Leaf.{uint16s, credential, capabilities, leaf_source, leaf_node}
use Rattle.mls_leaf.specs.KeyPackage.{key_package}
use Rattle.mls_leaf.specs.GroupExtensions.{group_extensions_faults}
use Rattle.mls_leaf.specs.Proposal.{proposal}
use Rattle.mls_leaf.specs.ParentNode.{parent_node_faults}
use Rattle.mls_leaf.specs.Node.{node}
use Rattle.mls_leaf.specs.Extension.{extension}

pub credential_faults : HasFaults credential
unfolding credential
credential_faults = record { answers = behind_answered _ (mark_faults 1 11 (lit< tt) refl) (seen_answered _ byte_string_faults) }

uint16s_faults : HasFaults uint16s
uint16s_faults = vector_faults uint16 uint16_nonempty uint16_faults

pub capabilities_faults : HasFaults capabilities
unfolding capabilities
capabilities_faults =
    let parts = pair_faults uint16s_faults (pair_faults uint16s_faults (pair_faults uint16s_faults (pair_faults uint16s_faults uint16s_faults))) in
    record { answers = seen_answered _ parts }

pub leaf_source_faults : HasFaults leaf_source
unfolding leaf_source
leaf_source_faults =
    let cases = by_uint8_faults (case_faults 1 (pair_faults uint64_faults uint64_faults) (case_faults 2 nothing_faults (case_faults 3 byte_string_faults (others_faults 7 refl)))) in
    record { answers = seen_answered _ cases }

pub leaf_node_faults : HasFaults leaf_node
unfolding leaf_node
leaf_node_faults =
    let parts = pair_faults byte_string_faults (pair_faults byte_string_faults (pair_faults credential_faults (pair_faults capabilities_faults (pair_faults leaf_source_faults (behind_faults (empty_faults 14 refl) byte_string_faults))))) in
    record { answers = seen_answered _ parts }

pub key_package_faults : HasFaults key_package
unfolding key_package
key_package_faults =
    let parts = pair_faults uint16_faults (pair_faults byte_string_faults (pair_faults leaf_node_faults (behind_faults (empty_faults 14 refl) byte_string_faults))) in
    record { answers = behind_answered _ (mark_faults 1 7 (lit< tt) refl) (seen_answered _ parts) }

pub proposal_faults : HasFaults proposal
unfolding proposal
proposal_faults =
    let cases = by_uint16_faults (case_faults 1 key_package_faults (case_faults 2 leaf_node_faults (case_faults 3 uint32_faults (case_faults 7 group_extensions_faults (others_faults 12 refl))))) in
    record { answers = seen_answered _ cases }

pub node_faults : HasFaults node
unfolding node
node_faults =
    let cases = by_uint8_faults (case_faults 1 leaf_node_faults (case_faults 2 parent_node_faults (others_faults 7 refl))) in
    record { answers = seen_answered _ cases }

pub extension_faults : HasFaults extension
unfolding extension
extension_faults = record { answers = seen_answered _ (pair_faults uint16_faults byte_string_faults) }

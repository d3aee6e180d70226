-- The walks over leaves, key packages and proposals find the faults that reading answers.
use Rattle.std.specs.Prelude.{◌^◌}
use Rattle.std.specs.Int.{w16, w8}
use Rattle.std.proofs.Common.{lit<}
use Rattle.mls_wire.specs.Combine.{◌⨾◌, byte_string, empty_vector, mark, nothing, uint16, uint32, uint64}
use Rattle.mls_wire.specs.Laws.{wide16, wide8}
use Rattle.mls_leaf.specs.GroupExtensions.{group_extensions}
use Rattle.mls_leaf.specs.KeyPackage.{key_package}
use Rattle.mls_leaf.specs.Leaf.{capabilities, credential, leaf_node, leaf_source, uint16s}
use Rattle.mls_leaf.specs.Proposal.{proposal}
use Rattle.mls_cli_place.specs.Finding.{Finds, chooses_case, chooses_none, finds_field, finds_nothing, finds_one, finds_skip, finds_tagged, finds_then, places_in}
use Rattle.mls_cli_place.specs.Leaf.{capabilities_walk, credential_walk, key_package_walk, leaf_node_walk, leaf_source_walk, proposal_walk}

pub credential_finds : Finds credential_walk credential.pass
unfolding credential_walk credential
credential_finds = finds_then (finds_field _ (finds_skip (mark 1 11 (lit< tt)))) (finds_field _ (finds_one byte_string))

pub capabilities_finds : Finds capabilities_walk capabilities.pass
unfolding capabilities_walk capabilities
capabilities_finds =
    finds_then (finds_field _ (finds_one uint16s)) (finds_then (finds_field _ (finds_one uint16s)) (finds_then (finds_field _ (finds_one uint16s))
    (finds_then (finds_field _ (finds_one uint16s)) (finds_field _ (finds_one uint16s)))))

pub leaf_source_finds : Finds leaf_source_walk leaf_source.pass
unfolding leaf_source_walk leaf_source
leaf_source_finds =
    let lifetime = finds_then (finds_field _ (finds_one uint64)) (finds_field _ (finds_one uint64)) in
    finds_tagged w8 (2 ^ 8) wide8 (places_in _)
    (chooses_case 1 (uint64 ⨾ uint64) (finds_field _ lifetime) (chooses_case 2 nothing finds_nothing (chooses_case 3 byte_string (finds_field _ (finds_one byte_string)) (chooses_none 7))))

pub leaf_node_finds : Finds leaf_node_walk leaf_node.pass
unfolding leaf_node_walk leaf_node
leaf_node_finds =
    finds_then (finds_field _ (finds_one byte_string)) (finds_then (finds_field _ (finds_one byte_string)) (finds_then (finds_field _ credential_finds)
    (finds_then (finds_field _ capabilities_finds) (finds_then leaf_source_finds
    (finds_then (finds_field _ (finds_skip (empty_vector 14))) (finds_field _ (finds_one byte_string)))))))

pub key_package_finds : Finds key_package_walk key_package.pass
unfolding key_package_walk key_package
key_package_finds =
    finds_then (finds_field _ (finds_skip (mark 1 7 (lit< tt)))) (finds_then (finds_field _ (finds_one uint16)) (finds_then (finds_field _ (finds_one byte_string))
    (finds_then (finds_field _ leaf_node_finds) (finds_then (finds_field _ (finds_skip (empty_vector 14))) (finds_field _ (finds_one byte_string))))))

pub proposal_finds : Finds proposal_walk proposal.pass
unfolding proposal_walk proposal
proposal_finds =
    finds_tagged w16 (2 ^ 16) wide16 (places_in _)
    (chooses_case 1 key_package (finds_field _ key_package_finds) (chooses_case 2 leaf_node (finds_field _ leaf_node_finds)
    (chooses_case 3 uint32 (finds_field _ (finds_one uint32)) (chooses_case 7 group_extensions (finds_field _ (finds_one group_extensions)) (chooses_none 12)))))

-- The walks over messages find the faults that reading answers.
use Rattle.std.specs.Prelude.{◌^◌}
use Rattle.std.specs.Int.{w16, w8}
use Rattle.std.proofs.Common.{lit<}
use Rattle.mls_wire.specs.Combine.{◌⨾◌, byte_string, mark, uint16, uint32, uint64}
use Rattle.mls_wire.specs.Laws.{wide16, wide8}
use Rattle.mls_leaf.specs.KeyPackage.{key_package}
use Rattle.mls_leaf.specs.Proposal.{proposal}
use Rattle.mls_types.specs.Commit.{commit, proposal_or_ref, proposal_or_ref_nonempty}
use Rattle.mls_types.specs.Content.{sender}
use Rattle.mls_types.specs.GroupInfo.{group_info}
use Rattle.mls_types.specs.Message.{mls_message}
use Rattle.mls_types.specs.PublicMessage.{public_message}
use Rattle.mls_types.specs.Signed.{signed_content, signed_tail}
use Rattle.mls_types.specs.UpdatePath.{hpke_ciphertext, hpke_ciphertext_nonempty, update_path, update_path_node, update_path_node_nonempty}
use Rattle.mls_types.specs.Welcome.{encrypted_group_secrets, encrypted_group_secrets_nonempty, welcome}
use Rattle.mls_cli_place.specs.Finding.{Finds, chooses_case, chooses_none, finds_field, finds_one, finds_optional, finds_skip, finds_tagged, finds_then, finds_vector, places_in, places_in_both}
use Rattle.mls_cli_place.specs.GroupFinding.{group_info_finds}
use Rattle.mls_cli_place.specs.LeafFinding.{key_package_finds, leaf_node_finds, proposal_finds}
use Rattle.mls_cli_place.specs.Message.{body_walk, commit_walk, encrypted_group_secrets_walk, hpke_ciphertext_walk, mls_message_walk, proposal_or_ref_walk, public_message_walk, sender_walk, signature_walk, signed_content_walk, signed_tail_walk, tag_walk, update_path_node_walk, update_path_walk, welcome_walk}

pub hpke_ciphertext_finds : Finds hpke_ciphertext_walk hpke_ciphertext.pass
unfolding hpke_ciphertext_walk hpke_ciphertext
hpke_ciphertext_finds = finds_then (finds_field _ (finds_one byte_string)) (finds_field _ (finds_one byte_string))

pub update_path_node_finds : Finds update_path_node_walk update_path_node.pass
unfolding update_path_node_walk update_path_node
update_path_node_finds = finds_then (finds_field _ (finds_one byte_string)) (finds_field _ (finds_vector hpke_ciphertext hpke_ciphertext_nonempty hpke_ciphertext_finds))

pub update_path_finds : Finds update_path_walk update_path.pass
unfolding update_path_walk update_path
update_path_finds = finds_then (finds_field _ leaf_node_finds) (finds_field _ (finds_vector update_path_node update_path_node_nonempty update_path_node_finds))

pub proposal_or_ref_finds : Finds proposal_or_ref_walk proposal_or_ref.pass
unfolding proposal_or_ref_walk proposal_or_ref
proposal_or_ref_finds = finds_tagged w8 (2 ^ 8) wide8 (places_in _) (chooses_case 1 proposal (finds_field _ proposal_finds) (chooses_case 2 byte_string (finds_field _ (finds_one byte_string)) (chooses_none 7)))

pub commit_finds : Finds commit_walk commit.pass
unfolding commit_walk commit
commit_finds = finds_then (finds_field _ (finds_vector proposal_or_ref proposal_or_ref_nonempty proposal_or_ref_finds)) (finds_field _ (finds_optional update_path update_path_finds))

pub sender_finds : Finds sender_walk sender.pass
unfolding sender_walk sender
sender_finds = finds_tagged w8 (2 ^ 8) wide8 (places_in _) (chooses_case 1 uint32 (finds_field _ (finds_one uint32)) (chooses_none 7))

signature_finds : Finds signature_walk byte_string.pass
signature_finds = finds_field _ (finds_field _ (finds_one byte_string))

tag_finds : Finds tag_walk byte_string.pass
tag_finds = finds_field _ (finds_field _ (finds_one byte_string))

signed_tail_finds : Finds signed_tail_walk signed_tail.pass
unfolding signed_tail_walk signed_tail
signed_tail_finds =
    finds_tagged w8 (2 ^ 8) wide8 (places_in_both _ _)
    (chooses_case 1 (byte_string ⨾ byte_string) (finds_then (finds_field _ (finds_field _ (finds_one byte_string))) signature_finds)
    (chooses_case 2 (proposal ⨾ byte_string) (finds_then (finds_field _ (finds_field _ proposal_finds)) signature_finds)
    (chooses_case 3 (commit ⨾ byte_string ⨾ byte_string) (finds_then (finds_field _ (finds_field _ commit_finds)) (finds_then signature_finds tag_finds)) (chooses_none 7))))

pub signed_content_finds : Finds signed_content_walk signed_content.pass
unfolding signed_content_walk signed_content
signed_content_finds =
    finds_then (finds_field _ (finds_field _ (finds_one byte_string))) (finds_then (finds_field _ (finds_field _ (finds_one uint64)))
    (finds_then (finds_field _ (finds_field _ sender_finds)) (finds_then (finds_field _ (finds_field _ (finds_one byte_string))) signed_tail_finds)))

pub public_message_finds : Finds public_message_walk public_message.pass
unfolding public_message_walk public_message
public_message_finds = finds_then signed_content_finds (finds_field _ (finds_one byte_string))

pub encrypted_group_secrets_finds : Finds encrypted_group_secrets_walk encrypted_group_secrets.pass
unfolding encrypted_group_secrets_walk encrypted_group_secrets
encrypted_group_secrets_finds = finds_then (finds_field _ (finds_one byte_string)) (finds_field _ hpke_ciphertext_finds)

pub welcome_finds : Finds welcome_walk welcome.pass
unfolding welcome_walk welcome
welcome_finds =
    finds_then (finds_field _ (finds_one uint16)) (finds_then (finds_field _ (finds_vector encrypted_group_secrets encrypted_group_secrets_nonempty encrypted_group_secrets_finds)) (finds_field _ (finds_one byte_string)))

pub mls_message_finds : Finds mls_message_walk mls_message.pass
unfolding mls_message_walk body_walk mls_message
mls_message_finds =
    finds_then (finds_field _ (finds_skip (mark 1 7 (lit< tt))))
    (finds_tagged w16 (2 ^ 16) wide16 (places_in _)
    (chooses_case 1 public_message (finds_field _ public_message_finds) (chooses_case 3 welcome (finds_field _ welcome_finds)
    (chooses_case 4 group_info (finds_field _ group_info_finds) (chooses_case 5 key_package (finds_field _ key_package_finds) (chooses_none 7))))))

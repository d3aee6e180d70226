-- Which numbers the readings of group contexts, group infos, update paths and welcomes answer.
use Rattle.std.specs.Prelude.{◌≡◌, ℕ, ◌==◌, true, List, length, Option, Some, None, Ok, Err, refl}
use Rattle.std.specs.Int.{w16}
use Rattle.std.proofs.Common.{lit<}
use Rattle.mls_wire.specs.Reading.{◌>>=◌, uint_at, opaque_at}
use Rattle.mls_wire.specs.Format.{Format}
use Rattle.mls_wire.specs.ReadFaults.{is_fault, Answered, HasFaults, answered_then, answered_if, uint_answered, opaque_answered, ended_answered, mark_faults, pair_faults, behind_answered, seen_answered, vector_faults, optional_faults, byte_string_faults, uint16_faults, uint32_faults, uint64_faults}
use Rattle.mls_leaf.specs.GroupExtensions.{group_extensions_faults}
use Rattle.mls_leaf.specs.Node.{node}
use Rattle.mls_leaf.specs.Nonempty.{optional_nonempty}
use Rattle.mls_leaf.specs.ReadFaults.{leaf_node_faults, node_faults}
use Rattle.mls_wire.specs.Combine.{optional}
use Rattle.mls_wire.specs.CombineReads.{require_end}
use Rattle.mls_types.specs.Enclosed.{entire, at_most_one}
use Rattle.mls_types.specs.UpdatePath.{hpke_ciphertext, hpke_ciphertext_nonempty, update_path_node, update_path_node_nonempty, update_path}
use Rattle.mls_types.specs.GroupContext.{group_context}
use Rattle.mls_types.specs.GroupInfo.{ratchet_tree, tree_extension, tree_extension_nonempty, group_info_extensions, group_info}
use Rattle.mls_types.specs.Welcome.{encrypted_group_secrets, encrypted_group_secrets_nonempty, group_secrets, welcome}
use Rattle.mls_types.specs.EnclosedReads.{Whole, alone, one_at, with_rest, all_at}

-- ---- contents that are inputs of their own

entire_answered : {V : Type 0} (a : Format V) → HasFaults a → (bytes : List ℕ) → Answered ((entire a).read bytes)
entire_answered a h bytes = answered_then (a.read bytes) require_end (h.answers bytes) ended_answered

second_answered : {V : Type 0} (fault : ℕ) → is_fault fault ≡ true → (x : V × List ℕ) → Answered (alone fault x)
second_answered {V} fault is x =
    answered_if {A = Option V} (length x.1 == 0) (Ok (Some x.0)) (uint_at w16 x.1 >>= λ _. Err fault) tt (answered_then (uint_at w16 x.1) (λ _. Err fault) (uint_answered w16 x.1) (λ _. is))

one_answered : {V : Type 0} (a : Format V) (fault : ℕ) → is_fault fault ≡ true → HasFaults a → (bytes : List ℕ) → Answered (one_at a fault bytes)
one_answered {V} a fault is h bytes =
    answered_if {A = Option V} (length bytes == 0) (Ok None) (a.read bytes >>= alone fault) tt (answered_then (a.read bytes) (alone fault) (h.answers bytes) (second_answered fault is))

enclosed_answered : {V : Type 0} (w : Whole V) → ((bytes : List ℕ) → Answered (w.read bytes)) → (bytes : List ℕ) → Answered (opaque_at bytes >>= all_at w)
enclosed_answered w h bytes = answered_then (opaque_at bytes) (all_at w) (opaque_answered bytes) (λ x. answered_then (w.read x.0) (λ v. with_rest x.1 v) (h x.0) (λ v. tt))

-- ---- update paths

pub hpke_ciphertext_faults : HasFaults hpke_ciphertext
unfolding hpke_ciphertext
hpke_ciphertext_faults = record { answers = seen_answered _ (pair_faults byte_string_faults byte_string_faults) }

pub update_path_node_faults : HasFaults update_path_node
unfolding update_path_node
update_path_node_faults =
    let parts = pair_faults byte_string_faults (vector_faults hpke_ciphertext hpke_ciphertext_nonempty hpke_ciphertext_faults) in
    record { answers = seen_answered _ parts }

pub update_path_faults : HasFaults update_path
unfolding update_path
update_path_faults =
    let parts = pair_faults leaf_node_faults (vector_faults update_path_node update_path_node_nonempty update_path_node_faults) in
    record { answers = seen_answered _ parts }

-- ---- group contexts and group infos

pub group_context_faults : HasFaults group_context
unfolding group_context
group_context_faults =
    let parts = pair_faults uint16_faults (pair_faults byte_string_faults (pair_faults uint64_faults (pair_faults byte_string_faults (pair_faults byte_string_faults group_extensions_faults)))) in
    record { answers = behind_answered _ (mark_faults 1 7 (lit< tt) refl) (seen_answered _ parts) }

ratchet_tree_faults : HasFaults ratchet_tree
ratchet_tree_faults = vector_faults (optional node) (optional_nonempty node) (optional_faults node_faults)

tree_extension_faults : HasFaults tree_extension
tree_extension_faults = record { answers = behind_answered _ (mark_faults 2 14 (lit< tt) refl) (enclosed_answered (entire ratchet_tree) (entire_answered ratchet_tree ratchet_tree_faults)) }

group_info_extensions_faults : HasFaults group_info_extensions
unfolding group_info_extensions
group_info_extensions_faults = record { answers = enclosed_answered (at_most_one tree_extension tree_extension_nonempty 14) (one_answered tree_extension 14 refl tree_extension_faults) }

pub group_info_faults : HasFaults group_info
unfolding group_info
group_info_faults =
    let parts = pair_faults group_context_faults (pair_faults group_info_extensions_faults (pair_faults byte_string_faults (pair_faults uint32_faults byte_string_faults))) in
    record { answers = seen_answered _ parts }

-- ---- welcomes

pub encrypted_group_secrets_faults : HasFaults encrypted_group_secrets
unfolding encrypted_group_secrets
encrypted_group_secrets_faults = record { answers = seen_answered _ (pair_faults byte_string_faults hpke_ciphertext_faults) }

pub group_secrets_faults : HasFaults group_secrets
unfolding group_secrets
group_secrets_faults = record { answers = seen_answered _ (pair_faults byte_string_faults (pair_faults (optional_faults byte_string_faults) byte_string_faults)) }

pub welcome_faults : HasFaults welcome
unfolding welcome
welcome_faults =
    let parts = pair_faults uint16_faults (pair_faults (vector_faults encrypted_group_secrets encrypted_group_secrets_nonempty encrypted_group_secrets_faults) byte_string_faults) in
    record { answers = seen_answered _ parts }

-- The format of parents (RFC 9420, 7.1).
use Rattle.std.specs.Prelude.{ℕ, ◌+◌, nat_le, List, length, Result, refl}
use Rattle.mls_wire.specs.Format.{Format}
use Rattle.mls_wire.specs.ReadFaults.{HasFaults, pair_faults, seen_answered, guarded_faults, vector_from_faults, byte_string_faults, uint32_faults}
use Rattle.mls_wire.specs.Combine.{◌⨾◌, image, with_test, byte_string, uint32}
use Rattle.mls_wire.specs.Stateful.{vector_from}
use Rattle.mls_wire.specs.CombineReads.{IsNonempty}
use Rattle.mls_wire.specs.StatefulReads.{Rule, run_at}
use Rattle.mls_leaf.specs.Nonempty.{byte_string_nonempty, first_nonempty, uint32_nonempty}
use Rattle.mls_leaf.specs.Parent.{Parent}

-- ---- (RFC 9420, section 7.1) encryption_key<V>, parent_hash<V>, unmerged_leaves: uint32<V>, strictly rising

-- an entry that is no less than a bound
abbrev pub entry_from : ℕ → Format ℕ
entry_from low = with_test uint32 (nat_le low) 13

pub entry_from_nonempty : (low : ℕ) → IsNonempty (entry_from low)
entry_from_nonempty low v fits = uint32_nonempty v fits.0

-- behind an entry the next one is above it
abbrev pub rising_rule : Rule ℕ ℕ
rising_rule = record { item = entry_from; next = λ low entry. entry + 1; nonempty = entry_from_nonempty }

-- the rising entries that all of the bytes spell
abbrev pub rising_entries : List ℕ → Result (List ℕ) ℕ
rising_entries bytes = run_at rising_rule (length bytes) 0 bytes

-- ParentNode (RFC 9420, 7.1): an entry of its list that is not above the one before it is `NotRising` (13)
unfoldable pub parent_node : Format Parent
parent_node = image (byte_string ⨾ byte_string ⨾ vector_from rising_rule 0)
    (λ x. record { encryption_key = x.0; parent_hash = x.1.0; unmerged_leaves = x.1.1 })
    (λ v. (v.encryption_key, (v.parent_hash, v.unmerged_leaves)))
    (λ v. refl) (λ x _. refl)

pub parent_node_nonempty : IsNonempty parent_node
unfolding parent_node
parent_node_nonempty v fits = first_nonempty byte_string (byte_string ⨾ vector_from rising_rule 0) byte_string_nonempty (v.encryption_key, (v.parent_hash, v.unmerged_leaves)) fits

entry_faults : (low : ℕ) → HasFaults (entry_from low)
entry_faults low = guarded_faults (nat_le low) 13 refl uint32_faults

pub parent_node_faults : HasFaults parent_node
unfolding parent_node
parent_node_faults =
    let parts = pair_faults byte_string_faults (pair_faults byte_string_faults (vector_from_faults rising_rule 0 entry_faults)) in
    record { answers = seen_answered _ parts }

-- Which numbers the readings of a saved secret tree answer.
use Rattle.std.specs.Prelude.{ℕ, zero, suc, ◌^◌, nat_le, Bool, true, false, List, ◌==◌, length, refl}
use Rattle.std.specs.Int.{w8}
use Rattle.mls_wire.specs.CombineReads.{body_read}
use Rattle.mls_wire.specs.Reading.{uint_at}
use Rattle.mls_wire.specs.Format.{Format}
use Rattle.mls_wire.specs.ReadFaults.{HasFaults, Answered, answered_then, pair_faults, seen_answered, guarded_faults, vector_faults, byte_string_faults, uint_answered, uint32_faults, uint64_faults}
use Rattle.mls_treemath.specs.Limits.{max_height}
use Rattle.mls_secret_tree.specs.Held.{Held, Whole, LeafRatchet}
use Rattle.mls_secret_tree.specs.Saved.{sized, saved_key, saved_key_nonempty, next_number, saved_ratchet, make_parted, leaf_body, parent_body, saved_leaf, saved_parent, saved_held, make_tree, body_if, tree_body, saved_tree}

sized_faults : (n : ℕ) → HasFaults (sized n)
unfolding sized
sized_faults n = guarded_faults (λ b. length b == n) 4 refl byte_string_faults

pub saved_key_faults : HasFaults saved_key
unfolding saved_key
saved_key_faults =
    let parts = pair_faults uint32_faults (pair_faults (sized_faults 16) (sized_faults 12)) in
    record { answers = seen_answered _ parts }

next_faults : HasFaults next_number
unfolding next_number
next_faults = guarded_faults (λ n. nat_le n (2 ^ 32)) 7 refl uint64_faults

pub saved_ratchet_faults : HasFaults saved_ratchet
unfolding saved_ratchet
saved_ratchet_faults =
    let keys = vector_faults saved_key saved_key_nonempty saved_key_faults in
    let parts = pair_faults next_faults (pair_faults (sized_faults 32) keys) in
    record { answers = seen_answered _ parts }

leaf_answered : (t : ℕ) (bytes : List ℕ) → Answered ((leaf_body t).read bytes)
leaf_answered zero bytes = seen_answered Whole (sized_faults 32) bytes
leaf_answered (suc zero) bytes = seen_answered LeafRatchet saved_ratchet_faults bytes
leaf_answered (suc (suc t)) bytes = refl

parent_answered : (child : Format Held) → HasFaults child → (t : ℕ) (bytes : List ℕ)
    → Answered ((parent_body child t).read bytes)
parent_answered child h zero bytes = seen_answered Whole (sized_faults 32) bytes
parent_answered child h (suc zero) bytes = seen_answered make_parted (pair_faults h h) bytes
parent_answered child h (suc (suc t)) bytes = refl

leaf_faults : HasFaults saved_leaf
unfolding saved_leaf
leaf_faults = record {
  answers = λ bytes. answered_then (uint_at w8 bytes) (body_read leaf_body)
      (uint_answered w8 bytes) (λ t. leaf_answered t.0 t.1);
}

parent_faults : (child : Format Held) → HasFaults child → HasFaults (saved_parent child)
unfolding saved_parent
parent_faults child h = record {
  answers = λ bytes. answered_then (uint_at w8 bytes) (body_read (parent_body child))
      (uint_answered w8 bytes) (λ t. parent_answered child h t.0 t.1);
}

held_faults : (height : ℕ) → HasFaults (saved_held height)
unfolding saved_held
held_faults zero = leaf_faults
held_faults (suc height) = parent_faults (saved_held height) (held_faults height)

body_answered : (allowed : Bool) (height : ℕ) (bytes : List ℕ)
    → Answered ((body_if allowed height).read bytes)
body_answered true height bytes = seen_answered (make_tree height) (held_faults height) bytes
body_answered false height bytes = refl

pub saved_tree_faults : HasFaults saved_tree
unfolding saved_tree
saved_tree_faults = record {
  answers = λ bytes. answered_then (uint_at w8 bytes) (body_read tree_body)
      (uint_answered w8 bytes) (λ t. body_answered (nat_le t.0 max_height) t.0 t.1);
}

use Rattle.std.proofs.Common.{◌≡◌, ℕ, ◌≤◌, ◌++◌, List, length, replicate, drop, ◌∙◌, ap}
use Rattle.std.specs.Int.{w128, from_be_bytes}
use Rattle.aes128gcm.specs.Parts.{block_number}
use Rattle.aes128gcm.proofs.Parts.{filled}
use Rattle.aes128gcm.proofs.gcm.block_number.Goals as goal

read : (part got : List ℕ) (n : ℕ) → got ≡ part → length part ≤ 16 → n ≡ from_be_bytes w128 (got ++ drop (length part) (replicate 16 0)) → n ≡ block_number part
unfolding block_number
read part got n e h m = m ∙ ap (λ z. from_be_bytes w128 z) (ap (λ z. z ++ drop (length part) (replicate 16 0)) e ∙ filled part h)

pub returns : goal.returns
returns c = read c.args.part.now c.copy_from_slice.new.self c.from_be_bytes.result c.copy_from_slice.ensures.after c.requires c.from_be_bytes.ensures

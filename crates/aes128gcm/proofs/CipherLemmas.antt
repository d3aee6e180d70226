-- The length of a ciphered block.
use Rattle.std.proofs.Common.{◌≡◌, ℕ, List, length, refl, ◌∙◌}
use Rattle.aes128gcm.specs.Aes.{cipher, rounds, round_key, last_round, add_round_key, shift_rows, sub_bytes}
use Rattle.aes128gcm.proofs.Streams.{length-xor_with}

length-shift_rows : (s : List ℕ) → length (shift_rows s) ≡ 16
unfolding shift_rows
length-shift_rows s = refl

length-last_round : (s k : List ℕ) → length (last_round s k) ≡ 16
unfolding last_round add_round_key
length-last_round s k = length-xor_with (shift_rows (sub_bytes s)) k ∙ length-shift_rows (sub_bytes s)

pub length-cipher : (key block : List ℕ) → length (cipher key block) ≡ 16
unfolding cipher
length-cipher key block = length-last_round (rounds key block 9) (round_key key 10)

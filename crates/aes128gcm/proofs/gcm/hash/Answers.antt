use Rattle.std.proofs.Common.{◌≡◌, ℕ, ◌*◌, ◌%◌, ◌^◌, List, length, ◌++◌, ◌∙◌}
use Rattle.std.specs.Int.{w64, to_be_bytes}
use Rattle.aes128gcm.specs.Gcm.{ghash, hash_input, bit_length}
use Rattle.aes128gcm.specs.Parts.{absorb_padded}
use Rattle.aes128gcm.proofs.GhashLemmas.{ghash-input}
use Rattle.aes128gcm.proofs.gcm.hash.Goals as goal

hashed : (h s t r : ℕ) (aad ct a b p : List ℕ) → s ≡ absorb_padded h 0 aad → t ≡ absorb_padded h s ct
    → a ≡ to_be_bytes w64 (length aad * 8 % 2 ^ 64) → b ≡ to_be_bytes w64 (length ct * 8 % 2 ^ 64) → p ≡ a ++ b → r ≡ absorb_padded h t p → r ≡ ghash h (hash_input aad ct)
unfolding bit_length
hashed h s t r aad ct a b p e f g k l m = m ∙ rw (l, g, k, f, e) (ghash-input h aad ct)

pub returns : goal.returns
returns c = hashed c.args.h.now c.absorb.result c.absorb-y.result c.absorb-2.result c.args.aad.now c.args.ct.now c.to_be_bytes.result c.to_be_bytes-2.result c.concat_lengths.result
    c.absorb.ensures c.absorb-y.ensures c.to_be_bytes.ensures c.to_be_bytes-2.ensures c.concat_lengths.ensures c.absorb-2.ensures

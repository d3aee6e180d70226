use Rattle.std.proofs.Common.{◌≡◌, ℕ, List, replicate, refl, ap, sym, ◌∙◌}
use Rattle.std.specs.Int.{w128, to_be_bytes}
use Rattle.aes128gcm.specs.Aes.{xor_with, cipher}
use Rattle.aes128gcm.specs.Gcm.{first_block, hash_key, hash_input, ghash, tag}
use Rattle.aes128gcm.specs.Parts.{count_block, block_number}
use Rattle.aes128gcm.proofs.CipherLemmas.{length-cipher}
use Rattle.aes128gcm.proofs.GhashLemmas.{block_number-whole}
use Rattle.aes128gcm.proofs.GcmStreams.{first-count_block, gctr-one}
use Rattle.aes128gcm.proofs.gcm.tag.Goals as goal

subkey : (key : List ℕ) → block_number (cipher key (replicate 16 0)) ≡ hash_key key
unfolding hash_key
subkey key = block_number-whole (cipher key (replicate 16 0)) (length-cipher key (replicate 16 0))

tagged : (key nonce aad ct zero_block first bytes new : List ℕ) (h s : ℕ) → zero_block ≡ cipher key (replicate 16 0) → h ≡ block_number zero_block
    → s ≡ ghash h (hash_input aad ct) → bytes ≡ to_be_bytes w128 s → first ≡ cipher key (count_block nonce 1) → new ≡ xor_with bytes first → new ≡ tag key nonce aad ct
unfolding tag
tagged key nonce aad ct zero_block first bytes new h s a b d e f g =
    let k : h ≡ hash_key key = b ∙ ap block_number a ∙ subkey key in
    let n : bytes ≡ to_be_bytes w128 (ghash (hash_key key) (hash_input aad ct)) = e ∙ ap (to_be_bytes w128) (d ∙ ap (λ z. ghash z (hash_input aad ct)) k) in
    g ∙ ap (xor_with bytes) f ∙ ap (λ z. xor_with bytes (cipher key z)) (sym (first-count_block nonce)) ∙ ap (λ z. xor_with z (cipher key (first_block nonce))) n
    ∙ gctr-one key (first_block nonce) (to_be_bytes w128 (ghash (hash_key key) (hash_input aad ct))) refl

pub returns : goal.returns
returns c = tagged c.args.key.now c.args.nonce.now c.args.aad.now c.args.ct.now c.encrypt.result c.encrypt-2.result c.to_be_bytes-tag.result c.xor_into.new.bytes c.block_number.result c.hash.result
    c.encrypt.ensures c.block_number.ensures (c.hash.ensures ∙ ap (λ h. ghash h (hash_input c.args.aad.now c.args.ct.now)) c.new-h.ensures) c.to_be_bytes-tag.ensures (rw c.count_block.ensures at c.encrypt-2.ensures) c.xor_into.ensures

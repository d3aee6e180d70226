use Rattle.std.proofs.Common.{◌≡◌, ap, ◌∙◌, append-nil, map}
use Rattle.std.specs.Prelude.{bit_xor}
use Rattle.mls_kdf.specs.Kdf.{padded_key}
use Rattle.mls_kdf.proofs.keyed_hash.KeyedHash.new.Goals as goal

pub returns : goal.returns
unfolding padded_key
returns c =
    let inner : c.xor_with_byte.result ≡ padded_key 0x36 c.args.key.now = c.xor_with_byte.ensures ∙ ap (λ b. map (λ k. bit_xor k 0x36) b) c.key_block-block.ensures in
    let outer : c.xor_with_byte-2.result ≡ padded_key 0x5c c.args.key.now = c.xor_with_byte-2.ensures ∙ ap (λ b. map (λ k. bit_xor k 0x5c) b) c.key_block-block.ensures in
    record {
      inner = rw (append-nil, ← inner) c.new_with_prefix.ensures;
      outer = rw (← outer) c.new_with_prefix-2.ensures;
    }

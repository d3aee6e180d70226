use Rattle.std.proofs.Common.{◌≡◌, ℕ, ◌<◌, ◌^◌, ◌++◌, List, [], ◌∷◌, refl, ◌∙◌, rules}
use Rattle.std.proofs.Math.Nat.{mod-eq_of_lt}
use Rattle.std.specs.Int.{w32, to_be_bytes}
use Rattle.aes128gcm.specs.Parts.{count_block}
use Rattle.aes128gcm.proofs.Parts.{joined_at}
use Rattle.aes128gcm.proofs.gcm.count_block.Goals as goal

counted : (nonce : List ℕ) (i : ℕ) → i < 2 ^ 32 → nonce ++ to_be_bytes w32 i ≡ count_block nonce i
unfolding count_block
counted nonce i h = rw (mod-eq_of_lt h) refl

pub returns : goal.returns
returns c = let e = c.copy_from_slice.ensures in let f = c.copy_from_slice-2.ensures in let t = c.to_be_bytes.ensures in
    rw (e.after, f.after, t) (joined_at c.args.nonce.now (to_be_bytes w32 c.args.i) (0 ∷ 0 ∷ 0 ∷ 0 ∷ []) 12 4 c.told-nonce refl ∙ counted c.args.nonce.now c.args.i (search rules))

use Rattle.std.proofs.Common.{[], ◌∷◌, refl, rules}
use Rattle.aes128gcm.proofs.Parts.{joined_at}
use Rattle.aes128gcm.proofs.gcm.concat_lengths.Goals as goal

pub returns : goal.returns
returns c = let e = c.copy_from_slice.ensures in let f = c.copy_from_slice-2.ensures in rw (e.after, f.after) (joined_at c.args.a c.args.b (0 ∷ 0 ∷ 0 ∷ 0 ∷ 0 ∷ 0 ∷ 0 ∷ 0 ∷ []) 8 8 (search rules) refl)

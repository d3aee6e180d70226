-- The inverse of each byte, by computation.
use Rattle.std.proofs.Common.{◌≡◌, ℕ, suc, zero, Bool, true, ◌==◌, refl, arith, eqb-true}
use Rattle.aes128gcm.specs.Aes.{times, multiples_sum, multiple, xtimes, inverse}
use Rattle.aes128gcm.specs.Laws.{InverseInverts}
use Rattle.aes128gcm.proofs.AllBelow.{all_below, all_below-at}

inverts : ℕ → Bool
inverts n = times (suc n) (inverse (suc n)) == 1

all_invert : all_below inverts 255 ≡ true
unfolding all_below inverts times multiples_sum multiple xtimes inverse
all_invert = refl

pub inverse_inverts : InverseInverts
unfolding inverts
inverse_inverts zero above below = absurd (omega arith)
inverse_inverts (suc n) above below = eqb-true _ _ (all_below-at inverts 255 n all_invert (omega arith))

use Rattle.std.proofs.Common.{◌≡◌, ℕ, ◌-◌, ◌^◌, ◌<◌, sym, ap, ◌∙◌, mod-eq_of_lt}
use Rattle.std.specs.Int.Bits.{bit_and, bit_xor, xor_assoc, xor_self, xor_zero_l}
use Rattle.std.proofs.lemmas.Nat.{and_mask, and_comm, xor_lt}
use Rattle.field25519.proofs.digits.select.Goals as goal

picked : (x y : ℕ) → x < 2 ^ 64 → y < 2 ^ 64 → bit_xor x (bit_and (2 ^ 64 - 1) (bit_xor x y)) ≡ y
picked x y hx hy =
    ap (bit_xor x) (and_comm (2 ^ 64 - 1) (bit_xor x y) ∙ and_mask (bit_xor x y) 64 ∙ mod-eq_of_lt (xor_lt 64 x y hx hy))
    ∙ sym (xor_assoc x x y) ∙ ap (λ t. bit_xor t y) (xor_self x) ∙ xor_zero_l y

pub returns-clause-second : goal.returns-clause-second
returns-clause-second c e = rw e (picked c.args.x c.args.y c.ranges.x.fits c.ranges.y.fits)

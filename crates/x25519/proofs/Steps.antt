-- What the code's steps compute, in the ladder's terms.
use Rattle.std.specs.Prelude.{◌≡◌, ℕ, zero, suc, ◌+◌, ◌-◌, ◌/◌, ◌%◌, ◌^◌, ◌<◌, refl}
use Rattle.std.proofs.Common.{sym, ap, ap₂, ◌∙◌, add-one, arith}
use Rattle.std.specs.Int.Bits.{bit_xor}
use Rattle.std.proofs.lemmas.Nat.{xor_lt}
use Rattle.std.proofs.Math.Nat.{pow-suc, div-div-eq-div-mul}
use Rattle.curve25519.specs.Field25519.{field, residue}
use Rattle.curve25519.specs.Ladder.{State, swap, advance, ladder_step, ladder, exchange}
use Rattle.curve25519.specs.X25519.{a24}
use Rattle.curve25519.proofs.Field25519.{residue-zero, residue-one}

-- the ladder by one bit more
pub ladder_more : (u : field.Of) (j n : ℕ) (t : State field) → j < 255
    → t ≡ ladder_step field a24 u (n / 2 ^ (254 - j) % 2) (ladder field a24 u j (n / 2 ^ (255 - j)))
    → t ≡ ladder field a24 u (j + 1) (n / 2 ^ (255 - (j + 1)))
unfolding ladder
ladder_more u j n t low e =
    e ∙ ap₂ (λ b m. ladder_step field a24 u (b % 2) (ladder field a24 u j m)) (ap (λ x. n / 2 ^ x) (rest j low)) (halve ∙ ap (λ x. n / 2 ^ x / 2) (rest j low))
    ∙ ap (λ x. ladder field a24 u x (n / 2 ^ (255 - (j + 1)))) (sym (add-one j))
  where
    rest : (j : ℕ) → j < 255 → 254 - j ≡ 255 - (j + 1)
    rest j low = omega arith

    whole : (j : ℕ) → j < 255 → 255 - j ≡ suc (254 - j)
    whole j low = omega arith

    halve : n / 2 ^ (255 - j) ≡ n / 2 ^ (254 - j) / 2
    halve = ap (λ x. n / 2 ^ x) (whole j low) ∙ ap (λ x. n / x) (pow-suc 2 (254 - j)) ∙ sym (div-div-eq-div-mul n (2 ^ (254 - j)) 2)

-- the first state, whatever the scalar
pub first : (u a b c d : field.Of) (n : ℕ) → a ≡ residue 1 → b ≡ residue 0 → c ≡ u → d ≡ residue 1 → ◌≡◌ {A = State field} (a, b, c, d) (ladder field a24 u 0 n)
unfolding ladder
first u a b c d n ea eb ec ed i = ((ea ∙ residue-one) i, (eb ∙ residue-zero) i, ec i, (ed ∙ residue-one) i)

-- a swap for the last bit and one for the next are one for both
twice_swapped : (l b : ℕ) (t : State field) → l < 2 → b < 2 → swap field (bit_xor l b) t ≡ swap field b (swap field l t)
twice_swapped zero zero t hl hb = refl
twice_swapped zero (suc zero) t hl hb = refl
twice_swapped (suc zero) zero t hl hb = refl
twice_swapped (suc zero) (suc zero) t hl hb = refl
twice_swapped (suc (suc l)) b t hl hb = absurd (omega (arith, hl))
twice_swapped zero (suc (suc b)) t hl hb = absurd (omega (arith, hb))
twice_swapped (suc zero) (suc (suc b)) t hl hb = absurd (omega (arith, hb))

pub both_low : (l b : ℕ) → l < 2 → b < 2 → bit_xor l b < 2
both_low l b hl hb = xor_lt 1 l b hl hb

-- a step of the code, whose last swap is still to come
pub stepped : (u : field.Of) (l b j n : ℕ) (s t : State field) → l < 2 → b < 2 → j < 255 → b ≡ n / 2 ^ (254 - j) % 2
    → swap field l s ≡ ladder field a24 u j (n / 2 ^ (255 - j)) → t ≡ advance field a24 u (swap field (bit_xor l b) s)
    → swap field b t ≡ ladder field a24 u (j + 1) (n / 2 ^ (255 - (j + 1)))
stepped u l b j n s t hl hb low eb es et =
    ladder_more u j n (swap field b t) low
    (ap (swap field b) (et ∙ ap (advance field a24 u) (twice_swapped l b s hl hb ∙ ap (swap field b) es))
    ∙ ap (λ k. ladder_step field a24 u k (ladder field a24 u j (n / 2 ^ (255 - j)))) eb)

-- four steps are the ladder of four bits at 8
pub four_steps : (u : field.Of) (t0 t1 t2 t3 t4 : State field) → t0 ≡ ladder field a24 u 0 0
    → t1 ≡ advance field a24 u (swap field 1 t0) → t2 ≡ advance field a24 u (swap field 1 t1)
    → t3 ≡ advance field a24 u (swap field 0 t2) → t4 ≡ advance field a24 u (swap field 0 t3)
    → t4 ≡ ladder field a24 u 4 8
unfolding ladder
four_steps u t0 t1 t2 t3 t4 e0 e1 e2 e3 e4 =
    e4 ∙ ap (advance field a24 u) (e3 ∙ ap (advance field a24 u) (e2 ∙ ap (λ t. advance field a24 u (swap field 1 t)) (e1 ∙ ap (λ t. advance field a24 u (swap field 1 t)) e0)))

-- no bit gives the first state
pub no_bit : (u : field.Of) (m n : ℕ) → ladder field a24 u 0 m ≡ ladder field a24 u 0 n
unfolding ladder
no_bit u m n = refl

-- all of 255 bits
pub all_bits : (n : ℕ) → n / 2 ^ (255 - 255) ≡ n
all_bits n = omega arith

pub constant : residue 121665 ≡ a24
unfolding a24
constant = refl

-- x_2 / z_2 is what the exchange gives
pub exchanged : (bits k : ℕ) (u : field.Of) (s : State field) (r : field.Of) → s ≡ ladder field a24 u bits k → r ≡ field.mul s.0 (field.inv s.1) → r ≡ exchange field a24 bits k u
unfolding exchange
exchanged bits k u s r e er = er ∙ ap (λ (t : State field). field.mul t.0 (field.inv t.1)) e

-- The Montgomery ladder of RFC 7748, section 5.
use Rattle.std.specs.Prelude.{ℕ, zero, suc, ◌/◌, ◌%◌}
use Rattle.curve25519.specs.Numbers.{Numbers}

module _ (f : Numbers) where
  open f use {Of, nil, one, add, mul, neg, inv}

  -- x_2, z_2, x_3, z_3
  abbrev pub State : Type 0
  State = Of × Of × Of × Of

  -- cswap
  abbrev pub swap : ℕ → State → State
  swap zero t = t
  swap (suc n) t = (t.2, t.3, t.0, t.1)

  -- A, AA, B, BB, E, C, D, DA and CB of the RFC, and the new state
  abbrev pub advance : Of → Of → State → State
  advance a24 x1 t =
      let a = add t.0 t.1 in
      let aa = mul a a in
      let b = add t.0 (neg t.1) in
      let bb = mul b b in
      let e = add aa (neg bb) in
      let c = add t.2 t.3 in
      let d = add t.2 (neg t.3) in
      let da = mul d a in
      let cb = mul c b in
      let sum = add da cb in
      let difference = add da (neg cb) in
      (mul aa bb, mul e (add aa (mul a24 e)), mul sum sum, mul x1 (mul difference difference))

  -- one step, which swaps before and after where the bit is 1
  abbrev pub ladder_step : Of → Of → ℕ → State → State
  ladder_step a24 u bit t = swap bit (advance a24 u (swap bit t))

  -- the state after the given number of bits of k, the highest first
  unfoldable pub ladder : Of → Of → ℕ → ℕ → State
  ladder a24 u zero k = (one, nil, u, one)
  ladder a24 u (suc bits) k = ladder_step a24 u (k % 2) (ladder a24 u bits (k / 2))

  -- x_2 * z_2^(p - 2)
  unfoldable pub exchange : Of → ℕ → ℕ → Of → Of
  exchange a24 bits k u = mul (ladder a24 u bits k).0 (inv (ladder a24 u bits k).1)

-- Points on bytes: RFC 8032, section 5.1.
use Rattle.std.specs.Prelude.{ℕ, ◌+◌, ◌-◌, ◌*◌, ◌/◌, ◌%◌, ◌^◌, ◌==◌, Bool, List, Option, Some, None, cond, nat_lt}
use Rattle.curve25519.specs.Field25519.{prime, field, residue, least, raise}
use Rattle.curve25519.specs.Curve25519.{d, root_of_minus_one, Point}
use Rattle.field25519.specs.Bytes.{decode_little, encode}
open field use {Of, one, add, mul, neg, inv}

-- the point that adds up with this one to the neutral point
abbrev pub negative : Point → Point
negative p = (neg p.0, p.1)

-- two numbers of the field are one
abbrev pub same : Of → Of → Bool
same x y = least x == least y

-- 5.1.2: y in 255 bits, and on top the lowest bit of x
abbrev pub encode_point : Point → List ℕ
encode_point p = encode (least p.1 + 2 ^ 255 * (least p.0 % 2))

-- 5.1.3, step 2: x^2 = (y^2 - 1) / (d y^2 + 1)
abbrev pub x_squared : Of → Of
x_squared y = mul (add (mul y y) (neg one)) (inv (add (mul d (mul y y)) one))

-- 5.1.3, step 3: the candidate root of z is z to the (p + 3) / 8
abbrev pub candidate : Of → Of
candidate z = raise z (2 ^ 252 - 2)

-- the candidate, or that times a square root of -1
abbrev pub square_root : Of → Of
square_root z = cond (same (mul (candidate z) (candidate z)) z) (candidate z) (mul root_of_minus_one (candidate z))

-- 5.1.3, step 4: the root with the lowest bit that is asked for; 0 has no other root
abbrev pub choose_sign : Of → Of → ℕ → Option Point
choose_sign x y sign = cond (least x % 2 == sign) (Some (x, y)) (cond (least x == 0) None (Some (neg x, y)))

-- the point with this y, where x^2 has a root
abbrev pub with_y : Of → ℕ → Option Point
with_y y sign =
    cond (same (mul (square_root (x_squared y)) (square_root (x_squared y))) (x_squared y))
    (choose_sign (square_root (x_squared y)) y sign)
    None

-- 5.1.3: a y below p and a sign
abbrev pub decode_point : List ℕ → Option Point
decode_point b =
    cond (nat_lt (decode_little b % 2 ^ 255) prime)
    (with_y (residue (decode_little b % 2 ^ 255)) (decode_little b / 2 ^ 255))
    None

-- The sum of points in extended coordinates, as RFC 8032, section 5.1.4, has it.
use Rattle.curve25519.specs.Numbers.{Numbers}
use Rattle.curve25519.specs.Extended.{Extended}

module _ (f : Numbers) where
  open f use {Of, nil, one, add, mul, neg}

  -- nine products and no case
  abbrev pub add_extended : Of → Extended f → Extended f → Extended f
  add_extended d a b =
      let e = add (mul a.0 b.1) (mul a.1 b.0) in
      let k = mul d (mul a.3 b.3) in
      let m = mul a.2 b.2 in
      let f = add m (neg k) in
      let g = add m k in
      let h = add (mul a.1 b.1) (mul a.0 b.0) in
      (mul e f, mul g h, mul f g, mul e h)

  abbrev pub extended_origin : Extended f
  extended_origin = (nil, one, one, nil)

-- The numbers modulo p, and their operations.
use Rattle.std.specs.Prelude.{ℕ, ◌+◌, ◌-◌, ◌*◌, ◌%◌, ◌<◌}
use Rattle.curve25519.specs.Numbers.{Numbers}
use Rattle.curve25519.specs.Powers.{power}

module _ (p : ℕ) (below : (n : ℕ) → n % p < p) where
  -- a number below p
  abbrev pub Residue : Type 0
  Residue = (n : ℕ) × (n < p)

  -- the number modulo p that n is
  unfoldable pub of : ℕ → Residue
  of n = (n % p, below n)

  -- the inverse is the power p - 2, as RFC 7748 and RFC 8032 compute it
  unfoldable pub modulo : Numbers
  unfolding of
  modulo = record {
    Of = Residue;
    nil = of 0;
    one = of 1;
    add = λ x y. of (x.0 + y.0);
    mul = λ x y. of (x.0 * y.0);
    neg = λ x. of (p - x.0);
    inv = λ x. of (power p x.0 (p - 2));
  }

-- The laws of the numbers modulo a prime.
use Rattle.std.proofs.Common.{◌≡◌, ◌≢◌, ◌⊎◌, inl, inr, ℕ, ◌+◌, ◌-◌, ◌*◌, ◌%◌, ◌<◌, refl, sym, ap, ◌∙◌, add_comm, add_assoc, add-zero, mul_comm, mul_assoc, mul-one, mul-zero, mul-add, mod-eq_of_lt, arith}
use Rattle.std.proofs.Math.Nat.{mod-add-mod, add-mod-mod, add-mod, mod_self}
use Rattle.std.proofs.lemmas.Nat.{mul-mod_first, mul-mod_second}
use Rattle.std.proofs.lemmas.Bool.{cases_eq}
use native.Mathlib.Fin.{val_path}
use Prim.Native.Nat.{Fin}
use Rattle.curve25519.specs.Modular.{of as residue, modulo}
use Rattle.curve25519.proofs.Ring.{IsRing}
use Rattle.curve25519.specs.Powers.{power}
use Rattle.curve25519.proofs.Powers.{power-suc}

module _ (p : ℕ) (below : (n : ℕ) → n % p < p) (odd : 2 < p) where
  above : 0 < p
  above = omega (arith, odd)

  abbrev of : ℕ → Fin p
  of = residue p below

  pub of_val : (n : ℕ) → (of n).0 ≡ n % p
  unfolding residue
  of_val n = refl

  pub of_same : (m n : ℕ) → m % p ≡ n % p → of m ≡ of n
  unfolding residue
  of_same m n e = val_path e

  pub of_self : (x : Fin p) → of x.0 ≡ x
  unfolding residue
  of_self x = val_path (mod-eq_of_lt x.1)

  pub modular : IsRing (modulo p below)
  unfolding residue modulo
  modular = record {
    add-comm = λ x y. ap of (add_comm x.0 y.0);
    add-assoc = λ x y z. of_same ((x.0 + y.0) % p + z.0) (x.0 + (y.0 + z.0) % p)
        (mod-add-mod (x.0 + y.0) p z.0 ∙ ap (λ t. t % p) (add_assoc x.0 y.0 z.0) ∙ sym (add-mod-mod x.0 (y.0 + z.0) p));
    add-nil = λ x. of_same (x.0 + 0 % p) x.0 (add-mod-mod x.0 0 p ∙ ap (λ t. t % p) (add-zero x.0)) ∙ of_self x;
    mul-comm = λ x y. ap of (mul_comm x.0 y.0);
    mul-assoc = λ x y z. of_same (x.0 * y.0 % p * z.0) (x.0 * (y.0 * z.0 % p))
        (mul-mod_first (x.0 * y.0) z.0 p ∙ ap (λ t. t % p) (mul_assoc x.0 y.0 z.0) ∙ sym (mul-mod_second x.0 (y.0 * z.0) p));
    mul-one = λ x. of_same (x.0 * (1 % p)) x.0 (mul-mod_second x.0 1 p ∙ ap (λ t. t % p) (mul-one x.0)) ∙ of_self x;
    mul-nil = λ x. of_same (x.0 * (0 % p)) 0 (mul-mod_second x.0 0 p ∙ ap (λ t. t % p) (mul-zero x.0));
    distrib = λ x y z. of_same (x.0 * ((y.0 + z.0) % p)) (x.0 * y.0 % p + x.0 * z.0 % p)
        (mul-mod_second x.0 (y.0 + z.0) p ∙ ap (λ t. t % p) (mul-add x.0 y.0 z.0) ∙ add-mod (x.0 * y.0) (x.0 * z.0) p);
    add-neg = λ x. of_same (x.0 + (p - x.0) % p) 0
        (add-mod-mod x.0 (p - x.0) p ∙ ap (λ t. t % p) (omega (arith, x.1)) ∙ mod_self p ∙ sym (mod-eq_of_lt above));
  }

  -- the inverse is one, if p is prime and so has Fermat's law
  pub mul-inv : ((a : ℕ) → a % p ≢ 0 → power p a (p - 1) ≡ 1) → (x : Fin p) → x ≢ of 0 → of (x.0 * (of (power p x.0 (p - 2))).0) ≡ of 1
  unfolding residue
  mul-inv fermat x h =
      of_same (x.0 * (power p x.0 (p - 2) % p)) 1
      (mul-mod_second x.0 (power p x.0 (p - 2)) p ∙ sym (power-suc p x.0 (p - 2)) ∙ ap (power p x.0) (omega (arith, odd))
      ∙ fermat x.0 (λ e. h (sym (of_self x) ∙ of_same x.0 0 (e ∙ sym (mod-eq_of_lt above)))) ∙ sym (mod-eq_of_lt (omega (arith, odd))))

  pub decide : (x y : Fin p) → (x ≡ y) ⊎ (x ≢ y)
  decide x y = same (cases_eq x.0 y.0)
    where
      same : (x.0 ≡ y.0) ⊎ (x.0 ≡ y.0 → ⊥) → (x ≡ y) ⊎ (x ≢ y)
      same (inl h) = inl (val_path h)
      same (inr h) = inr (λ e. h (ap (λ (x : Fin p). x.0) e))

  pub two≢nil : of ((of 1).0 + (of 1).0) ≢ of 0
  unfolding residue
  two≢nil e = absurd (omega (arith, odd, two (ap (λ (x : Fin p). x.0) e)))
    where
      two : (1 % p + 1 % p) % p ≡ 0 % p → ◌≡◌ {A = ℕ} 2 0
      two e = sym (mod-eq_of_lt odd) ∙ add-mod 1 1 p ∙ e ∙ mod-eq_of_lt above

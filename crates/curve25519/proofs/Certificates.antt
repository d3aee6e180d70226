-- A certificate of primality that the kernel computes.
use Rattle.std.proofs.Common.{◌≡◌, ◌≢◌, ℕ, suc, ◌/◌, ◌%◌, ◌^◌, Bool, true, false, ◌&&◌, not, eqb, ltb, eqb-true, ltb-true, List, [], ◌∷◌, refl, sym, ◌∙◌}
use Rattle.std.proofs.lemmas.Bool.{eqb-false}
use Rattle.curve25519.proofs.Evaluation.{and_parts}
use Rattle.curve25519.specs.Powers.{power}
use Rattle.curve25519.proofs.Powers.{power_mod, power_is}
use Rattle.curve25519.proofs.Prime.{IsPrime, product, EachPrime, EachProper, lucas, fermat}

abbrev pub each_proper : ℕ → ℕ → ℕ → ℕ → List ℕ → Bool
each_proper f p g n [] = true
each_proper f p g n (q ∷ qs) = (ltb (n / q) (2 ^ f) && not (eqb (power_mod f p g (n / q)) 1)) && each_proper f p g n qs

abbrev pub passes : ℕ → ℕ → ℕ → ℕ → List ℕ → Bool
passes f p g n qs = (ltb 1 p && (eqb p (suc n) && eqb n (product qs))) && ((ltb n (2 ^ f) && eqb (power_mod f p g n) 1) && each_proper f p g n qs)

not_true : (b : Bool) → not b ≡ true → b ≡ false
not_true true e = sym e
not_true false e = refl

proper_from : (f p g n : ℕ) (qs : List ℕ) → each_proper f p g n qs ≡ true → EachProper p g n qs
proper_from f p g n [] e = tt
proper_from f p g n (q ∷ qs) e =
    let both = and_parts (ltb (n / q) (2 ^ f) && not (eqb (power_mod f p g (n / q)) 1)) (each_proper f p g n qs) e in
    let here = and_parts (ltb (n / q) (2 ^ f)) (not (eqb (power_mod f p g (n / q)) 1)) both.0 in
    (λ h. eqb-false (power_mod f p g (n / q)) 1 (not_true (eqb (power_mod f p g (n / q)) 1) here.1) (power_is f p g (n / q) (ltb-true (n / q) (2 ^ f) here.0) ∙ h), proper_from f p g n qs both.1)

pub record Facts (p n : ℕ) : Type 0 where
  pub prime : IsPrime p
  pub fermat : (a : ℕ) → a % p ≢ 0 → power p a n ≡ 1

pub certified : (f p g n : ℕ) (qs : List ℕ) → passes f p g n qs ≡ true → EachPrime qs → Facts p n
certified f p g n qs e primes =
    let a = and_parts (ltb 1 p && (eqb p (suc n) && eqb n (product qs))) ((ltb n (2 ^ f) && eqb (power_mod f p g n) 1) && each_proper f p g n qs) e in
    let b = and_parts (ltb 1 p) (eqb p (suc n) && eqb n (product qs)) a.0 in
    let c = and_parts (eqb p (suc n)) (eqb n (product qs)) b.1 in
    let d = and_parts (ltb n (2 ^ f) && eqb (power_mod f p g n) 1) (each_proper f p g n qs) a.1 in
    let h = and_parts (ltb n (2 ^ f)) (eqb (power_mod f p g n) 1) d.0 in
    let big = ltb-true 1 p b.0 in
    let full = sym (power_is f p g n (ltb-true n (2 ^ f) h.0)) ∙ eqb-true (power_mod f p g n) 1 h.1 in
    record {
      prime = lucas p g big n qs (eqb-true p (suc n) c.0) (eqb-true n (product qs) c.1) primes (proper_from f p g n qs d.1) full;
      fermat = fermat p g big n qs (eqb-true p (suc n) c.0) (eqb-true n (product qs) c.1) primes (proper_from f p g n qs d.1) full;
    }

-- The suite to copy is lawful.
use Rattle.std.specs.Prelude.{◌≡◌, ℕ, Bool, true, false, List, ◌++◌, length, replicate, is_some, if◌then◌else◌, Some, None, refl}
use Rattle.std.proofs.Common.{arith, length-append, lit<}
use Rattle.std.proofs.lemmas.List.{length-replicate, length-take-le}
use Rattle.mls_suite.specs.Crypto.{Lawful, Sealing}
use Rattle.mls_test_suite.specs.Bare.{key_from, is_key, open_sealing, bare_seal, bare}

-- each list is brought to 32
pub length-key_from : (xs : List ℕ) → length (key_from xs) ≡ 32
length-key_from xs = length-take-le 32 (xs ++ replicate 32 0) (omega (arith, length-append xs (replicate 32 0), length-replicate {A = ℕ} 32 0))

is_fitted : (sk : List ℕ) → is_key (key_from sk) ≡ true
is_fitted sk = rw (length-key_from sk) refl

some_where : (b : Bool) (s : Sealing) → is_some (if b then Some s else None) ≡ b
some_where true s = refl
some_where false s = refl

seals : (pk pt : List ℕ) → is_some (bare_seal pk pt) ≡ is_key pk
unfolding bare_seal
seals pk pt = some_where (is_key pk) (open_sealing pt)

opened : (sk pt : List ℕ) (s : Sealing) → bare_seal (key_from sk) pt ≡ Some s → Some s.ct ≡ Some pt
unfolding bare_seal
opened sk pt s e =
    let made : Some (open_sealing pt) ≡ Some s = rw (is_fitted sk) at e in
    (let same : open_sealing pt ≡ s = cc in rw (← same) refl)

pub bare_lawful : Lawful bare
bare_lawful = record {
  unseals = λ sk info pt rnd s e. opened sk pt s e;
  verifies = λ sk m. refl;
  opens = λ key nonce aad pt. refl;
  public_ok = is_fitted;
  seals = λ pk info pt rnd. seals pk pt;
  public_short = λ sk. omega (arith, length-key_from sk);
  sig_public_short = λ sk. omega (arith, length-key_from sk);
  sign_short = λ sk m. omega arith;
  number_short = lit< tt;
}

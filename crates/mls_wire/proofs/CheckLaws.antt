-- What follows from a chain of checks that answers Ok: each part did, and the rest did.
use Rattle.std.proofs.Common.{◌≡◌, ℕ, Bool, true, false, Option, Some, None, Result, Ok, Err, refl}
use Rattle.mls_wire.specs.Checks.{Passed, passed, require, require_some, ◌>>◌}
use Rattle.mls_wire.specs.Reading.{◌>>=◌}

pub bind_ok : {A B : Type 0} (r : Result A ℕ) (f : A → Result B ℕ) (y : B) → (r >>= f) ≡ Ok y → (x : A) × (r ≡ Ok x) × (f x ≡ Ok y)
bind_ok (Ok x) f y h = (x, refl, h)
bind_ok (Err n) f y h = cc

pub then_ok : {B : Type 0} (r : Result Passed ℕ) (q : Result B ℕ) (y : B) → (r >> q) ≡ Ok y → (r ≡ Ok passed) × (q ≡ Ok y)
then_ok (Ok passed) q y h = (refl, h)
then_ok (Err n) q y h = cc

pub require_ok : {B : Type 0} (n : ℕ) (test : Bool) (q : Result B ℕ) (y : B) → (require n test >> q) ≡ Ok y → (test ≡ true) × (q ≡ Ok y)
require_ok n true q y h = (refl, h)
require_ok n false q y h = cc

pub given_ok : {A : Type 0} (n : ℕ) (o : Option A) (x : A) → require_some n o ≡ Ok x → o ≡ Some x
given_ok n (Some y) x h = cc
given_ok n None x h = cc

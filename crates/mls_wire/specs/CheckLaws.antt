-- What follows from a chain of checks that answers Ok: each part did, and the rest did.
use Rattle.std.specs.Prelude.{◌≡◌, ℕ, Bool, true, false, Ok, refl}
use Rattle.mls_wire.specs.Checks.{Passed, require}

-- where a check answers Ok, its test holds
pub required : (n : ℕ) (test : Bool) (y : Passed) → require n test ≡ Ok y → test ≡ true
required n true y h = refl
required n false y h = cc

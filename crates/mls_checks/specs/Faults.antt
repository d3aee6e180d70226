-- The numbers of the checks, and what a call answers that checks.
use Rattle.std.specs.Prelude.{ℕ, Result}
use Rattle.mls_wire.specs.Checks.{Answers, Passed, passed}
use Rattle.mls_checks.specs.declared.error.CheckError.{CheckError}
use Rattle.mls_checks.specs.declared.error.CheckError.TheVariants.{OutOfMemory, BadKey, LeafSource, LeafSignature, LeafCapability, LeafIdentityChanged, LeafKeySame, KeyPackageSuite, KeyPackageSignature, InitKeySame}

-- the number that the program answers
abbrev pub number_of : CheckError → ℕ
number_of OutOfMemory = 1
number_of BadKey = 36
number_of LeafSource = 50
number_of LeafSignature = 51
number_of LeafCapability = 52
number_of LeafIdentityChanged = 53
number_of LeafKeySame = 54
number_of KeyPackageSuite = 55
number_of KeyPackageSignature = 56
number_of InitKeySame = 57

-- a call passes where the checks do, or answers the number of the first that fails, unless memory runs out
abbrev pub ChecksAs : Result Passed ℕ → Result (Unit {0}) CheckError → Type 0
ChecksAs checks result = Answers (λ _. passed) number_of checks result

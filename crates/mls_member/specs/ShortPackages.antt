-- KeyPackages whose length has been tested.
use Rattle.std.specs.Prelude.{◌≡◌, ◌+◌, Result, Ok, Err}
use Rattle.mls_leaf.specs.Faults.{Refuses}
use Rattle.mls_leaf.specs.KeyPackage.{key_package}
use Rattle.mls_leaf.specs.Limits.{input_limit}
use Rattle.mls_leaf.specs.declared.error.LeafError.{LeafError}
use Rattle.mls_leaf.specs.declared.key_package.KeyPackage.{KeyPackage}
use Rattle.mls_public_group.specs.Short.{IsBelow}

-- the KeyPackage has a spelling, of no more bytes than an input (RFC 9420, 10)
abbrev pub IsShortPackage : KeyPackage → Type 0
IsShortPackage k = IsBelow (input_limit + 1) key_package k

-- The call answers the KeyPackage itself, or refuses one that isn't short with `TooLong` (6) or `OutOfMemory`.
abbrev pub TestsLength : KeyPackage → Result KeyPackage LeafError → Type 0
TestsLength k (Ok tested) = tested ≡ k
TestsLength k (Err e) = Refuses (IsShortPackage k) e

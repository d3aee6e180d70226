-- A KeyPackage that is too long.
use Rattle.mls_leaf.specs.Faults.{Refuses}
use Rattle.mls_leaf.specs.declared.error.LeafError.{LeafError}
use Rattle.mls_leaf.specs.declared.error.LeafError.TheVariants.{Wire, BadTag, UnsupportedCredential, UnsupportedProposal, NotRising, ExtensionNotAllowed}
use Rattle.mls_wire.specs.declared.WireError.TheVariants.{OutOfMemory, Truncated, Trailing, BadLength, NotMinimal, TooLong}

-- what refuses a weaker condition refuses a stronger one
pub refuses_stronger : (P Q : Type 0) (e : LeafError) → (P → Q) → Refuses Q e → Refuses P e
refuses_stronger P Q (Wire OutOfMemory) f h = tt
refuses_stronger P Q (Wire Truncated) f h = h
refuses_stronger P Q (Wire Trailing) f h = h
refuses_stronger P Q (Wire BadLength) f h = h
refuses_stronger P Q (Wire NotMinimal) f h = h
refuses_stronger P Q (Wire TooLong) f h = λ p. h (f p)
refuses_stronger P Q BadTag f h = h
refuses_stronger P Q UnsupportedCredential f h = h
refuses_stronger P Q UnsupportedProposal f h = h
refuses_stronger P Q NotRising f h = h
refuses_stronger P Q ExtensionNotAllowed f h = h

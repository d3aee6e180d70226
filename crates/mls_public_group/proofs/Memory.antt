-- Where a value has a spelling, an encoding is refused for want of memory alone.
use Rattle.std.proofs.Common.{◌≡◌, refl}
use Rattle.mls_wire.specs.declared.WireError.TheVariants as wire
use Rattle.mls_leaf.specs.Faults.{Refuses, number_of}
use Rattle.mls_leaf.specs.declared.error.LeafError.{LeafError}
use Rattle.mls_leaf.specs.declared.error.LeafError.TheVariants.{Wire, BadTag, UnsupportedCredential, UnsupportedProposal, NotRising, ExtensionNotAllowed}

pub memory_alone : (P : Type 0) (e : LeafError) → P → Refuses P e → number_of e ≡ 1
memory_alone P (Wire wire.OutOfMemory) fits h = refl
memory_alone P (Wire wire.TooLong) fits h = absurd (h fits)
memory_alone P (Wire wire.Truncated) fits h = absurd h
memory_alone P (Wire wire.Trailing) fits h = absurd h
memory_alone P (Wire wire.BadLength) fits h = absurd h
memory_alone P (Wire wire.NotMinimal) fits h = absurd h
memory_alone P BadTag fits h = absurd h
memory_alone P UnsupportedCredential fits h = absurd h
memory_alone P UnsupportedProposal fits h = absurd h
memory_alone P NotRising fits h = absurd h
memory_alone P ExtensionNotAllowed fits h = absurd h

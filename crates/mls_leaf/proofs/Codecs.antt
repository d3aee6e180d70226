-- What the fields' calls give the whole.
use Rattle.std.proofs.Common.{ℕ, Result, ap, append_assoc}
use Rattle.mls_wire.specs.Reading.{◌>>=◌}
use Rattle.mls_wire.specs.declared.WireError.TheVariants as wire
use Rattle.mls_leaf.specs.declared.error.LeafError.{LeafError}
use Rattle.mls_leaf.specs.declared.error.LeafError.TheVariants.{Wire, BadTag, UnsupportedCredential, UnsupportedProposal, NotRising, ExtensionNotAllowed}
use Rattle.mls_leaf.specs.Faults.{Fails, Refuses}

-- what a part has no spelling for, the whole has none for
pub Refuses-whole : (P Q : Type 0) (e : LeafError) → (Q → P) → Refuses P e → Refuses Q e
Refuses-whole P Q (Wire wire.OutOfMemory) h r = tt
Refuses-whole P Q (Wire wire.Truncated) h r = r
Refuses-whole P Q (Wire wire.Trailing) h r = r
Refuses-whole P Q (Wire wire.BadLength) h r = r
Refuses-whole P Q (Wire wire.NotMinimal) h r = r
Refuses-whole P Q (Wire wire.TooLong) h r = λ q. r (h q)
Refuses-whole P Q BadTag h r = r
Refuses-whole P Q UnsupportedCredential h r = r
Refuses-whole P Q UnsupportedProposal h r = r
Refuses-whole P Q NotRising h r = r
Refuses-whole P Q ExtensionNotAllowed h r = r

-- a fault of the first part is the fault of the whole
pub Fails-then : {A B : Type 0} (e : LeafError) (r : Result A ℕ) (f : A → Result B ℕ) → Fails e r → Fails e (r >>= f)
Fails-then (Wire wire.OutOfMemory) r f h = tt
Fails-then {A} {B} (Wire wire.Truncated) r f h = ap (λ (x : Result A ℕ). x >>= f) h
Fails-then {A} {B} (Wire wire.Trailing) r f h = ap (λ (x : Result A ℕ). x >>= f) h
Fails-then {A} {B} (Wire wire.BadLength) r f h = ap (λ (x : Result A ℕ). x >>= f) h
Fails-then {A} {B} (Wire wire.NotMinimal) r f h = ap (λ (x : Result A ℕ). x >>= f) h
Fails-then {A} {B} (Wire wire.TooLong) r f h = ap (λ (x : Result A ℕ). x >>= f) h
Fails-then {A} {B} BadTag r f h = ap (λ (x : Result A ℕ). x >>= f) h
Fails-then {A} {B} UnsupportedCredential r f h = ap (λ (x : Result A ℕ). x >>= f) h
Fails-then {A} {B} UnsupportedProposal r f h = ap (λ (x : Result A ℕ). x >>= f) h
Fails-then {A} {B} NotRising r f h = ap (λ (x : Result A ℕ). x >>= f) h
Fails-then {A} {B} ExtensionNotAllowed r f h = ap (λ (x : Result A ℕ). x >>= f) h

pub ruleset codecs = (append_assoc, Fails-then, Refuses-whole)

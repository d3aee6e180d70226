-- What calls promise that lend views of bytes.
use Rattle.std.specs.Prelude.{◌≡◌, ℕ, List, [], ◌∷◌, Option, Some, None, Result, Ok, Err}
use Rattle.std.specs.List.{flat_map, AllByRecursion}
use Rattle.mls_wire.specs.Format.{Format}
use Rattle.mls_wire.specs.Combine.{vector}
use Rattle.mls_wire.specs.declared.WireError.TheVariants as wire
use Rattle.mls_wire.specs.CombineReads.{IsNonempty}
use Rattle.mls_wire.specs.Whole.{whole}
use Rattle.mls_leaf.specs.declared.error.LeafError.{LeafError}
use Rattle.mls_leaf.specs.declared.error.LeafError.TheVariants.{Wire}
use Rattle.mls_leaf.specs.Faults.{Spells, number_of}

-- The view shows the value at the front.
pub record Lends {V X : Type 0} (format : Format V) (Shows : X → V → Type 0) (old : List ℕ) (x : X) (new : List ℕ) : Type 0 where
  pub value : V
  pub is_read : format.read old ≡ Ok (value, new)
  pub shows : Shows x value

-- A call on a reader lends a view of the value at the front, or answers the first fault. It takes no memory.
abbrev pub LendsView : {V X : Type 0} → Format V → (X → V → Type 0) → List ℕ → Result X LeafError → List ℕ → Type 0
LendsView format Shows old (Ok x) new = Lends format Shows old x new
LendsView format Shows old (Err e) new = format.read old ≡ Err (number_of e)

-- What a call returned is the value that the bytes spell, or memory ran out.
abbrev pub Owns : {V : Type 0} → Format V → List ℕ → Result V LeafError → Type 0
Owns format bytes (Ok v) = Spells format v bytes
Owns format bytes (Err e) = e ≡ Wire wire.OutOfMemory

-- What a call returned is this value, or memory ran out.
abbrev pub IsOwned : {V : Type 0} → V → Result V LeafError → Type 0
IsOwned shown (Ok v) = v ≡ shown
IsOwned shown (Err e) = e ≡ Wire wire.OutOfMemory

-- ---- what is shown of any value

-- Of whatever value the bytes spell, the view shows it.
abbrev pub ShowsSpelled : {V X : Type 0} → Format V → (X → V → Type 0) → List ℕ → X → Type 0
ShowsSpelled {V} format Shows bytes x = (v : V) → Spells format v bytes → Shows x v

-- Whatever value was read in front of the bytes left, these bytes spell it.
abbrev pub SpellsRead : {V : Type 0} → Format V → List ℕ → List ℕ → List ℕ → Type 0
SpellsRead {V} format before behind bytes = (v : V) → format.read before ≡ Ok (v, behind) → Spells format v bytes

-- Whatever value the view shows, a call returned it, or memory ran out.
abbrev pub OwnsShown : {V X : Type 0} → (X → V → Type 0) → X → Result V LeafError → Type 0
OwnsShown {V} Shows x result = (v : V) → Shows x v → IsOwned v result

-- ---- whole inputs

-- The view shows the value that all of the bytes spell.
pub record LendsAll {V X : Type 0} (format : Format V) (limit : ℕ) (Shows : X → V → Type 0) (bytes : List ℕ) (x : X) : Type 0 where
  pub value : V
  pub is_read : whole format limit bytes ≡ Ok value
  pub shows : Shows x value

-- A call lends a view of the value that all of the bytes spell, or answers the first fault. It takes no memory.
abbrev pub LendsWhole : {V X : Type 0} → Format V → ℕ → (X → V → Type 0) → List ℕ → Result X LeafError → Type 0
LendsWhole format limit Shows bytes (Ok x) = LendsAll format limit Shows bytes x
LendsWhole format limit Shows bytes (Err e) = whole format limit bytes ≡ Err (number_of e)

-- ---- items, one after the other

-- The bytes spell these items, one after the other.
pub record AreItems {V : Type 0} (format : Format V) (vs : List V) (bytes : List ℕ) : Type 0 where
  pub fit : AllByRecursion format.Fits vs
  pub spelled : bytes ≡ flat_map format.spell vs

-- A step of a walk over items: nothing is left, or it lends the next item, and the others are left.
abbrev pub LendsNextItem : {V : Type 0} → Format V → List V → Option (List ℕ) → List ℕ → Type 0
LendsNextItem format [] None new = new ≡ []
LendsNextItem format [] (Some part) new = ⊥
LendsNextItem format (v ∷ vs) None new = ⊥
LendsNextItem format (v ∷ vs) (Some part) new = Spells format v part × AreItems format vs new

-- A walk begins with the items of a vector, whatever items the bytes of the vector spell.
abbrev pub WalksItems : {V : Type 0} → (format : Format V) → IsNonempty format → List ℕ → List ℕ → Type 0
WalksItems {V} format nonempty bytes walk = (vs : List V) → Spells (vector format nonempty) vs bytes → AreItems format vs walk

-- A step of a walk lends the next item, whatever items are left.
abbrev pub StepsItems : {V : Type 0} → Format V → List ℕ → Option (List ℕ) → List ℕ → Type 0
StepsItems {V} format old result new = (vs : List V) → AreItems format vs old → LendsNextItem format vs result new

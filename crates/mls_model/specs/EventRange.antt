-- What Rust's types say of the events that code can have, and statements over lists have to say for themselves.
use Rattle.std.specs.Prelude.{◌<◌, ◌^◌}
use Rattle.std.specs.List.{AllByRecursion}
use Rattle.mls_wire.specs.Format.{IsBytes}
use Rattle.mls_model.specs.declared.event.Source.{Source}
use Rattle.mls_model.specs.declared.event.Source.TheVariants.{Given, Message}
use Rattle.mls_model.specs.declared.event.WorldItem.{WorldItem}
use Rattle.mls_model.specs.declared.event.WorldItem.TheVariants.{RefOf, Add, Remove, Extensions}
use Rattle.mls_model.specs.declared.event.Event.{Event}
use Rattle.mls_model.specs.declared.event.Event.TheVariants as event

-- the given bytes of a source are bytes
abbrev pub IsSourceInRange : Source → Type 0
IsSourceInRange (Given bytes) = IsBytes bytes.items
IsSourceInRange (Message n) = Unit {0}

-- an item of a commit call's list has a source in range, or a leaf of 32 bits (RFC 9420, 12.1.3)
abbrev pub IsItemInRange : WorldItem → Type 0
IsItemInRange (RefOf source) = IsSourceInRange source
IsItemInRange (Add source) = IsSourceInRange source
IsItemInRange (Remove leaf) = leaf < 2 ^ 32
IsItemInRange (Extensions list) = Unit {0}

-- the given bytes of an event are bytes, and the leaves that a commit call removes have 32 bits; of its other parts
-- nothing is asked
unfoldable pub IsInRange : Event → Type 0
IsInRange (event.ProposeAdd k source) = IsSourceInRange source
IsInRange (event.Commit k items path seed) = AllByRecursion IsItemInRange items.items
IsInRange (event.Deliver k source) = IsSourceInRange source
IsInRange (event.Join n source) = IsSourceInRange source
IsInRange other = Unit {0}

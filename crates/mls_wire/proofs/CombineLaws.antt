-- The laws of formats that are put together.
use Rattle.std.proofs.Common.{ℕ, List, []}
use Rattle.mls_wire.specs.Format.{Takes}

abbrev nothing_is : List ℕ → Unit {0} → List ℕ → Type 0
nothing_is bytes v rest = Takes bytes [] rest × Unit {0}

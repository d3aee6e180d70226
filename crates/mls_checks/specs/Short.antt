-- How long the values are that calls are made with.
use Rattle.std.specs.Prelude.{◌<◌, ◌^◌, length}
use Rattle.mls_wire.specs.Format.{Format}

-- the value has a spelling, and one of fewer than 2^28 bytes
pub record IsShort {V : Type 0} (format : Format V) (v : V) : Type 0 where
  pub fits : format.Fits v
  pub short : length (format.spell v) < 2 ^ 28

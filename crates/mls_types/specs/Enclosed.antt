-- Vectors whose content is an input of its own, read to its end (RFC 9420, 2.1.2 and 12.4.3.3).
use Rattle.std.specs.Prelude.{ℕ, ◌<◌, ◌^◌, length, Option}
use Rattle.mls_wire.specs.Reading.{◌>>=◌, opaque, opaque_at}
use Rattle.mls_wire.specs.Format.{Format}
use Rattle.mls_wire.specs.CombineLaws.{entire_takes, entire_again, entire_passes}
use Rattle.mls_wire.specs.CombineReads.{IsNonempty, require_end, ended_past}
use Rattle.mls_types.specs.EnclosedReads.{OneFits, Whole, all_at, one_at, one_past, one_spelling_of, whole_past}
use Rattle.mls_types.specs.EnclosedLaws.{enclosed_lawful, enclosed_passes, one_again, one_passes, one_takes}

-- ---- one value, and no byte behind it

-- one value; bytes left behind it are `Trailing` (3)
abbrev pub entire : {V : Type 0} → Format V → Whole V
entire a = record {
  spell = a.spell;
  Fits = a.Fits;
  read = λ bytes. a.read bytes >>= require_end;
  takes = entire_takes a;
  again = entire_again a;
  pass = λ bytes. a.pass bytes >>= ended_past;
  passes = entire_passes a;
}

-- ---- no value or one

-- no value, or one; where a second follows its type is read, and this fault is answered
abbrev pub at_most_one : {V : Type 0} (a : Format V) → IsNonempty a → ℕ → Whole (Option V)
at_most_one a nonempty fault = record {
  spell = one_spelling_of a;
  Fits = OneFits a;
  read = one_at a fault;
  takes = one_takes a fault;
  again = one_again a nonempty fault;
  pass = one_past a fault;
  passes = one_passes a fault;
}

-- ---- behind a header

-- a vector whose content is read whole
abbrev pub in_vector : {V : Type 0} → Whole V → Format V
in_vector w = record {
  spell = λ v. opaque (w.spell v);
  Fits = λ v. w.Fits v × (length (w.spell v) < 2 ^ 30);
  read = λ bytes. opaque_at bytes >>= all_at w;
  lawful = enclosed_lawful w;
  pass = λ bytes. opaque_at bytes >>= whole_past w;
  passes = enclosed_passes w;
}

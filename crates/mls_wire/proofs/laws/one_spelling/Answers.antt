use Rattle.std.specs.Int.{w8, w16, w32, w64}
use Rattle.std.specs.Prelude.{◌^◌}
use Rattle.mls_wire.specs.Laws.{uint_lawful, wide8, wide16, wide32, wide64, opaque_lawful}
use Rattle.mls_wire.proofs.LawsLemmas.{length_lawful}
use Rattle.mls_wire.proofs.laws.one_spelling.Goals as goal

pub returns : goal.returns
returns c = record {
  uint8 = uint_lawful w8 (2 ^ 8) wide8;
  uint16 = uint_lawful w16 (2 ^ 16) wide16;
  uint32 = uint_lawful w32 (2 ^ 32) wide32;
  uint64 = uint_lawful w64 (2 ^ 64) wide64;
  lengths = length_lawful;
  byte_strings = opaque_lawful;
}

use Rattle.std.proofs.Common.{take}
use Rattle.mls_kdf.specs.Kdf.{joined_pieces}
use Rattle.sha2.specs.Hashers.{Holds256}
use Rattle.mls_kdf.proofs.keyed_hash.hash.Given as goal

abbrev pub invariant-loop-piece : goal.invariant-loop-piece
invariant-loop-piece l = Holds256 l.hasher (joined_pieces (take l.piece-index l.pieces))

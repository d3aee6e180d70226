use Rattle.std.proofs.Common.{ℕ, List, take, ◌++◌}
use Rattle.mls_kdf.specs.Kdf.{joined_pieces}
use Rattle.mls_kdf.specs.Keyed.{IsKeyed}
use Rattle.mls_kdf.proofs.keyed_hash.KeyedHash.update_all.Given as goal

abbrev pub invariant-loop-piece : goal.invariant-loop-piece
invariant-loop-piece l = (key text : List ℕ) → IsKeyed l.initial.self key text → IsKeyed l.self key (text ++ joined_pieces (take l.piece-index l.pieces))

use Rattle.std.proofs.Common.{◌*◌, ◌++◌, length, take}
use Rattle.std.specs.Int.{w32}
use Rattle.std.specs.List.{flat_map}
use Rattle.mls_wire.specs.Reading.{header, uint}
use Rattle.mls_tree_hash.specs.Feeds.{Feeds}
use Rattle.mls_tree_hash.proofs.pieces.add_entries.Given as goal

abbrev pub invariant-loop-entry : goal.invariant-loop-entry
invariant-loop-entry l = Feeds l.fn.feed (header (4 * length l.entries) ++ flat_map (uint w32) (take l.entry-index l.entries)) l.feed

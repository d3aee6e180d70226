use Rattle.std.proofs.Common.{◌*◌, length, refl, arith}
use Rattle.std.specs.Int.{w32}
use Rattle.mls_wire.specs.Reading.{header, uint}
use Rattle.mls_tree_hash.proofs.Feeding.{feeds_first, feeds_more, feeds_all, length-flat_map}
use Rattle.mls_tree_hash.proofs.pieces.add_entries.Goals as goal

pub loop-entry-init : goal.loop-entry-init
loop-entry-init c = feeds_first c.add_header.ensures

pub loop-entry-preserved : goal.loop-entry-preserved
loop-entry-preserved c =
    feeds_more (header (4 * length c.args.entries.now)) (uint w32) c.args.entries.now c.loop-entry.entry-index c.loop-entry-test.true c.loop-entry.invariant c.add_u32.ensures

pub returns : goal.returns
unfolding uint
returns c =
    feeds_all header (uint w32) c.args.entries.now (4 * length c.args.entries.now) c.loop-entry.entry-index (length-flat_map (uint w32) 4 c.args.entries.now (λ x. refl)) (omega arith) c.loop-entry.invariant

use Rattle.std.proofs.Common.{length}
use Rattle.mls_wire.specs.CombineReads.{without_value}
use Rattle.mls_wire.specs.StatefulReads.{run_at}
use Rattle.mls_leaf.proofs.RunLoops.{is_shorter, past_goes_on_from}
use Rattle.mls_leaf.specs.ParentNode.{entry_from, entry_from_nonempty, rising_rule}
use Rattle.mls_leaf.proofs.parent_node.check_rising.Goals as goal

pub loop-content-smaller : goal.loop-content-smaller
loop-content-smaller c = is_shorter (entry_from c.loop-content.least) (entry_from_nonempty c.loop-content.least) c.loop-content.content c.read_entry.new.reader c.in_ok-entry.entry c.loop-content-test.ensures.bytes c.in_ok-entry.ensures

pub loop-content-preserved : goal.loop-content-preserved
loop-content-preserved c =
    rw c.from-least.ensures (past_goes_on_from rising_rule (without_value (run_at rising_rule (length c.args.content) 0 c.args.content)) c.loop-content.least c.loop-content.content c.read_entry.new.reader c.in_ok-entry.entry c.loop-content-test.ensures.bytes c.in_ok-entry.ensures c.loop-content.invariant)

use Rattle.std.proofs.Common.{◌≡◌, [], length, rules}
use Rattle.mls_wire.specs.StatefulReads.{run_at}
use Rattle.mls_leaf.proofs.RunLoops.{is_shorter, goes_on_from, is_done_from}
use Rattle.mls_leaf.specs.ParentNode.{entry_from, entry_from_nonempty, rising_rule}
use Rattle.mls_leaf.proofs.ParentLaws.{run_rises}
use Rattle.mls_leaf.proofs.parent_node.rising_of.Goals as goal

pub loop-content-smaller : goal.loop-content-smaller
loop-content-smaller c = is_shorter (entry_from c.loop-content.least) (entry_from_nonempty c.loop-content.least) c.loop-content.content c.read_entry.new.reader c.in_ok-entry.entry c.loop-content-test.ensures.bytes c.in_ok-entry.ensures

pub loop-content-preserved : goal.loop-content-preserved
loop-content-preserved c =
    rw (c.in_ok-push.ensures.items, c.from-least.ensures) (goes_on_from rising_rule (run_at rising_rule (length c.args.content) 0 c.args.content) c.loop-content.entries.items c.loop-content.least c.loop-content.content c.read_entry.new.reader c.in_ok-entry.entry c.loop-content-test.ensures.bytes c.in_ok-entry.ensures c.loop-content.invariant)

pub returns-clause-rises : goal.returns-clause-rises
returns-clause-rises c =
    let nil : c.loop-content.content ≡ [] = search rules in
    run_rises (length c.args.content) 0 c.args.content c.loop-content.entries.items
    (is_done_from rising_rule (run_at rising_rule (length c.args.content) 0 c.args.content) c.loop-content.entries.items c.loop-content.least c.loop-content.content nil c.loop-content.invariant)

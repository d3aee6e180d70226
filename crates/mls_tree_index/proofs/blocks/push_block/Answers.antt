use Rattle.std.proofs.Common.{◌∙◌, ap}
use Rattle.mls_tree_index.specs.Block.{BlockEntries}
use Rattle.mls_tree_index.proofs.BlockLaws.{own_pushed, pushed_block}
use Rattle.mls_tree_index.proofs.blocks.push_block.Goals as goal

pub returns-clause-blocks : goal.returns-clause-blocks
returns-clause-blocks c =
    pushed_block c.args.list.now.items c.push.new.self.items c.of.result c.args.entries.now c.in_ok-push.ensures.items
    (ap (λ (v : BlockEntries). v.entries) c.of.ensures ∙ c.in_ok-block.ensures.items)

pub returns-clause-own : goal.returns-clause-own
returns-clause-own c =
    own_pushed c.args.list.now.items c.push.new.self.items c.of.result c.in_ok-push.ensures.items (ap (λ (v : BlockEntries). v.shared) c.of.ensures)

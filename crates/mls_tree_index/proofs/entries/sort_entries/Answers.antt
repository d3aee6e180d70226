use Rattle.std.proofs.Common.{rules}
use Rattle.std.proofs.lemmas.Fn.{always_returns_same}
use Rattle.std.proofs.lemmas.List.MinMax.{ranks_by}
use Rattle.mls_tree_index.specs.Keys.{key_in}
use Rattle.mls_tree_index.specs.Entries.{fronted}
use Rattle.mls_tree_index.proofs.KeyFronts.{front_total}
use Rattle.mls_tree_index.proofs.SortLaws.{entries_moved, ascends}
use Rattle.mls_tree_index.proofs.entries.sort_entries.Goals as goal

pub returns-clause-entries : goal.returns-clause-entries
returns-clause-entries c = entries_moved (key_in c.args.kind c.args.cells.now.nodes) _ _ c.sort_unstable_by.ensures.permutation c.in_ok-entries.ensures

pub returns-clause-ascend : goal.returns-clause-ascend
returns-clause-ascend c =
    let at = key_in c.args.kind c.args.cells.now.nodes in
    ascends at _ (entries_moved at _ _ c.sort_unstable_by.ensures.permutation c.in_ok-entries.ensures)
    (c.sort_unstable_by.ensures.sorted _ (ranks_by front_total (fronted at)) (always_returns_same _ _ _ (λ a r f k. search rules)))

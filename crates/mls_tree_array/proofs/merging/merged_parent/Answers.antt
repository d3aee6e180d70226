use Rattle.std.proofs.Common.{sym, ◌∙◌, ap}
use Rattle.std.proofs.lemmas.Bool.{true≢false}
use Rattle.mls_leaf.specs.Parent.{rises}
use Rattle.mls_tree_array.proofs.Merged.{rises_none}
use Rattle.mls_tree_array.proofs.merging.merged_parent.Goals as goal

pub unreachable-requires : goal.unreachable-requires
unreachable-requires c = true≢false (sym rises_none ∙ ap rises (sym (c.from_vec.ensures ∙ c.new.ensures.items)) ∙ c.in-Err.ensures.1)

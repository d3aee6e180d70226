use Rattle.std.proofs.Common.{sym, ◌∙◌}
use Rattle.std.proofs.lemmas.List.Sorted.{IsNonDecreasingBy-from_sort}
use Rattle.mls_tree_array.proofs.Others.{not_others, are_others, leaves_moved}
use Rattle.mls_tree_array.proofs.witnesses.are_others.Goals as goal

pub returns-then-not-others_among : goal.returns-then-not-others_among
returns-then-not-others_among c =
    sym (not_others c.args.first c.args.end c.args.node c.args.leaves.now c.args.nodes.now (sym c.others_among.ensures ∙ c.if-not-others_among.true))

pub returns : goal.returns
returns c =
    c.leaves_among.ensures
    ∙ leaves_moved c.args.first c.args.end c.args.node c.args.leaves.now c.args.nodes.now _ c.sort_unstable.ensures.permutation
    ∙ sym (are_others c.args.first c.args.end c.args.node c.args.leaves.now c.args.nodes.now (sym c.others_among.ensures ∙ c.if-not-others_among.false))

pub leaves_among-requires-clause-sorted : goal.leaves_among-requires-clause-sorted
leaves_among-requires-clause-sorted c = IsNonDecreasingBy-from_sort (λ x. x) _ c.sort_unstable.ensures.sorted

use Rattle.std.proofs.Common.{sym, ◌∙◌, ap}
use Rattle.mls_tree_model.specs.Node.{source_hash}
use Rattle.mls_tree_model.specs.Hashes.{is_some_bytes}
use Rattle.mls_tree.proofs.Pathing.{merge_repeats, merge_untied, merge_fit}
use Rattle.mls_tree.proofs.tree.PublicTree.require_leaf.Goals as goal

pub returns-then-not-differ-clause-checks : goal.returns-then-not-differ-clause-checks
returns-then-not-differ-clause-checks c =
    λ _. merge_repeats _ _ _ _ c.requires.checks (sym c.in_ok-differ.ensures ∙ c.if-not-differ.true)

pub returns-then-not-right-clause-checks : goal.returns-then-not-right-clause-checks
returns-then-not-right-clause-checks c =
    let tied = ap (is_some_bytes (source_hash c.args.leaf.now.source)) (sym (c.bytes_of.ensures ∙ c.requires.hash)) ∙ sym c.has_parent_hash-right.ensures in
    λ _. merge_untied _ _ _ _ c.requires.checks (sym c.in_ok-differ.ensures ∙ c.if-not-differ.false) (tied ∙ c.if-not-right.true)

pub returns-clause-checks : goal.returns-clause-checks
returns-clause-checks c =
    let tied = ap (is_some_bytes (source_hash c.args.leaf.now.source)) (sym (c.bytes_of.ensures ∙ c.requires.hash)) ∙ sym c.has_parent_hash-right.ensures in
    merge_fit _ _ _ _ c.requires.checks (sym c.in_ok-differ.ensures ∙ c.if-not-differ.false) (tied ∙ c.if-not-right.false)

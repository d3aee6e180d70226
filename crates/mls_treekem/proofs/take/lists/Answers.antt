use Rattle.std.proofs.Common.{◌∙◌, ap, nat_eq}
use Rattle.std.specs.List.{list_any}
use Rattle.mls_tree_model.proofs.SetLaws.{has-any}
use Rattle.mls_treekem.proofs.take.lists.Goals as goal

pub returns : goal.returns
returns c =
    c.contains.ensures.value
    ∙ ap (list_any (λ y. nat_eq y c.args.leaf)) c.unmerged_leaves.ensures.entries
    ∙ has-any c.args.parent.now.unmerged_leaves c.args.leaf

use Rattle.std.proofs.Common.{◌≤◌, subst}
use Rattle.mls_tree_array.specs.EndOfMembers.{end_of_members}
use Rattle.mls_tree.specs.Tree.{term}
use Rattle.mls_tree.proofs.Removing.{end_bound}
use Rattle.mls_tree.proofs.tree.PublicTree.end_of_members.Goals as goal

pub end_of_members-requires : goal.end_of_members-requires
end_of_members-requires c =
    rw c.subtree.ensures (subst (λ t. end_of_members 0 (term t) ≤ c.self.inside.blank_from) c.self.view_is (end_bound _ _ _ c.self.invariant.3))

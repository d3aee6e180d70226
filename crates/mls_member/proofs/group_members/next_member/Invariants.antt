use Rattle.std.proofs.Common.{◌≡◌}
use Rattle.mls_tree.specs.Tree.{term}
use Rattle.mls_member.specs.GroupMembers.{members_from}
use Rattle.mls_member.proofs.group_members.next_member.Given as goal

abbrev pub invariant-loop-leaf : goal.invariant-loop-leaf
invariant-loop-leaf l = members_from (term l.tree) l.from ≡ members_from (term l.tree) l.leaf

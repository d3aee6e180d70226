use Rattle.std.proofs.Common.{ap, ◌∙◌}
use Rattle.mls_tree.specs.Tree.{term}
use Rattle.mls_model.specs.Member.{Member}
use Rattle.mls_member.specs.GroupMembers.{group_members}
use Rattle.mls_member.proofs.MemberWalk.{walks_all}
use Rattle.mls_member.proofs.member.Member.members.Goals as goal

pub returns : goal.returns
returns g c = walks_all (term c.tree.result.now) ∙ ap group_members (c.tree.ensures ∙ ap (λ (m : Member). m.public.tree) c.self.view_is)

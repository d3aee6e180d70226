use Rattle.std.proofs.Common.{arith, ◌^◌}
use Rattle.mls_member.proofs.member.Member.check_commit.Goals as goal

pub returns-clause-leaves : goal.returns-clause-leaves
returns-clause-leaves g c = (c.in_ok-received.ensures.below (2 ^ 27) (omega arith) (rw c.as_slice-proposals.ensures.value c.in_ok-used.ensures.below) c.requires.commit.path).1

pub change_of_commit-requires-clause-extensions : goal.change_of_commit-requires-clause-extensions
change_of_commit-requires-clause-extensions g c = rw c.as_slice-proposals.ensures.value (c.in_ok-used.ensures.extensions _ c.is_short.ensures.context.extensions)

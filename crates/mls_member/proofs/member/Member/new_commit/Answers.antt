use Rattle.std.proofs.Common.{sym, subst}
use Rattle.mls_make.specs.CommitCall.{AreShortUsed}
use Rattle.mls_member.proofs.Commits.{made_is}
use Rattle.mls_member.proofs.Good.{full_fit}
use Rattle.mls_member.proofs.member.Member.new_commit.Goals as goal

pub make_commit-requires-clause-epoch : goal.make_commit-requires-clause-epoch
make_commit-requires-clause-epoch g c = rw c.speaker-speaker.ensures.public at c.requires.epoch

pub make_commit-requires-clause-list : goal.make_commit-requires-clause-list
make_commit-requires-clause-list g c = (c.args.self.now.kept, (c.args.self.now.keys.leaf, rw (c.in_ok-list.ensures, c.as_slice-proposals.ensures.value) c.in_ok-used.ensures.answer))

pub make_commit-requires-clause-used : goal.make_commit-requires-clause-used
make_commit-requires-clause-used g c = rw c.as_slice-proposals.ensures.value c.in_ok-used.ensures.short

pub returns-in-Ok-clause-answer : goal.returns-in-Ok-clause-answer
returns-in-Ok-clause-answer g c =
    made_is g.S.Suite.crypto c.args.self.now _ c.in_ok-list.list c.args.path c.args.seed.now c.in_ok-used.used.items c.as_slice-proposals.result.now _ c.in_ok-list.ensures c.as_slice-proposals.ensures.value c.in_ok-used.ensures.answer
    (λ u. c.in-Ok.ensures.answer c.args.self.now c.speaker-speaker.ensures (sym c.keys-keys.ensures) u)

pub returns-in-Ok-clause-full : goal.returns-in-Ok-clause-full
returns-in-Ok-clause-full g c =
    full_fit c.args.self.now.kept c.args.self.now.keys.leaf _ c.in_ok-used.used.items c.in_ok-used.ensures.answer (subst AreShortUsed c.as_slice-proposals.ensures.value c.in-Ok.ensures.short)

use Rattle.std.proofs.Common.{refl, sym, ◌∙◌, arith}
use Rattle.mls_member.proofs.CommitSteps.{has_room}
use Rattle.mls_member.proofs.Good.{commit_good}
use Rattle.mls_member.proofs.Commits.{is_gone, is_pending, is_last, commit_fails, commit_does}
use Rattle.mls_member.proofs.member.Member.commit.Goals as goal

pub returns-then-is_gone-clause-answer : goal.returns-then-is_gone-clause-answer
returns-then-is_gone-clause-answer g c = (refl, λ _. is_gone g.S.Suite.crypto c.args.self.now _ c.args.path c.args.seed.now (sym c.is_gone.ensures ∙ c.if-is_gone.true))

pub returns-then-is_commit_pending-clause-answer : goal.returns-then-is_commit_pending-clause-answer
returns-then-is_commit_pending-clause-answer g c = (refl, λ _. is_pending g.S.Suite.crypto c.args.self.now _ c.args.path c.args.seed.now (sym c.is_gone.ensures ∙ c.if-is_gone.false) (sym c.is_commit_pending.ensures ∙ c.if-is_commit_pending.true))

pub returns-then-not-has_next-clause-answer : goal.returns-then-not-has_next-clause-answer
returns-then-not-has_next-clause-answer g c = (
  refl,
  λ _.
      is_last g.S.Suite.crypto c.args.self.now _ c.args.path c.args.seed.now (sym c.is_gone.ensures ∙ c.if-is_gone.false) (sym c.is_commit_pending.ensures ∙ c.if-is_commit_pending.false) (sym c.has_next.ensures ∙ c.if-not-has_next.true),
)

pub new_commit-requires-clause-epoch : goal.new_commit-requires-clause-epoch
new_commit-requires-clause-epoch g c = has_room _ (sym c.has_next.ensures ∙ c.if-not-has_next.false)

pub returns-in-Err-clause-answer : goal.returns-in-Err-clause-answer
returns-in-Err-clause-answer g c = (
  refl,
  λ h.
      commit_fails g.S.Suite.crypto c.args.self.now _ c.args.path c.args.seed.now _
      (record { here = sym c.is_gone.ensures ∙ c.if-is_gone.false; none = sym c.is_commit_pending.ensures ∙ c.if-is_commit_pending.false; room = sym c.has_next.ensures ∙ c.if-not-has_next.false })
      (c.in-Err.ensures.answer h),
)

pub returns-in-Ok-clause-answer : goal.returns-in-Ok-clause-answer
returns-in-Ok-clause-answer g c =
    commit_does _ g.S.Suite.crypto c.args.self.now _ _ c.args.path c.args.seed.now _ _
    (record { here = sym c.is_gone.ensures ∙ c.if-is_gone.false; none = sym c.is_commit_pending.ensures ∙ c.if-is_commit_pending.false; room = sym c.has_next.ensures ∙ c.if-not-has_next.false })
    c.in-Ok.ensures.answer c.keep_pending.ensures

pub returns-in-Ok-clause-good : goal.returns-in-Ok-clause-good
returns-in-Ok-clause-good g c = λ good. (commit_good g.S.Suite.crypto g.met.S.Suite.lawful c.args.self.now _ _ c.args.path c.args.seed.now _ good c.in-Ok.ensures.full (returns-in-Ok-clause-answer g c)).0

pub returns-in-Ok-clause-reaches : goal.returns-in-Ok-clause-reaches
returns-in-Ok-clause-reaches g c = λ good. (commit_good g.S.Suite.crypto g.met.S.Suite.lawful c.args.self.now _ _ c.args.path c.args.seed.now _ good c.in-Ok.ensures.full (returns-in-Ok-clause-answer g c)).1

pub returns-in-Err-clause-last : goal.returns-in-Err-clause-last
returns-in-Err-clause-last g c = λ here none over. let room = has_room _ (sym c.has_next.ensures ∙ c.if-not-has_next.false) in absurd (omega (arith, room, over))

pub returns-in-Ok-clause-last : goal.returns-in-Ok-clause-last
returns-in-Ok-clause-last g c = λ here none over. let room = has_room _ (sym c.has_next.ensures ∙ c.if-not-has_next.false) in absurd (omega (arith, room, over))

use Rattle.std.proofs.Common.{List, map, refl, sym, ap, subst, ◌∙◌, arith}
use Rattle.mls_types.specs.declared.commit.ProposalOrRef.{ProposalOrRef}
use Rattle.mls_model.specs.Make.{list_item_of}
use Rattle.mls_member.specs.Answers.{ReachesAll}
use Rattle.mls_member.proofs.CommitSteps.{has_room}
use Rattle.mls_member.proofs.Commits.{is_gone, is_pending, is_last}
use Rattle.mls_member.proofs.KeptCommits.{answer_of_same}
use Rattle.mls_member.proofs.member.Member.commit_kept.Goals as goal

pub returns-then-is_gone-clause-answer : goal.returns-then-is_gone-clause-answer
returns-then-is_gone-clause-answer g c = (refl, λ _. is_gone g.S.Suite.crypto c.args.self.now _ c.args.path c.args.seed.now (sym c.is_gone.ensures ∙ c.if-is_gone.true))

pub returns-then-is_commit_pending-clause-answer : goal.returns-then-is_commit_pending-clause-answer
returns-then-is_commit_pending-clause-answer g c = (
  refl,
  λ _.
      is_pending g.S.Suite.crypto c.args.self.now _ c.args.path c.args.seed.now (sym c.is_gone.ensures ∙ c.if-is_gone.false) (sym c.is_commit_pending.ensures ∙ c.if-is_commit_pending.true),
)

pub returns-then-not-has_next-clause-answer : goal.returns-then-not-has_next-clause-answer
returns-then-not-has_next-clause-answer g c = (
  refl,
  λ _.
      is_last g.S.Suite.crypto c.args.self.now _ c.args.path c.args.seed.now (sym c.is_gone.ensures ∙ c.if-is_gone.false) (sym c.is_commit_pending.ensures ∙ c.if-is_commit_pending.false) (sym c.has_next.ensures ∙ c.if-not-has_next.true),
)

pub returns-in-Ok-clause-answer : goal.returns-in-Ok-clause-answer
returns-in-Ok-clause-answer g c =
    answer_of_same g.S.Suite.crypto c.args.self.now _ _ c.args.path c.args.seed.now _ (ap (map list_item_of) c.deref.ensures.value ∙ c.in_ok-items.ensures.list) c.in-Ok.ensures.answer

pub returns-in-Ok-clause-reaches : goal.returns-in-Ok-clause-reaches
returns-in-Ok-clause-reaches g c = λ good.
    subst (λ (l : List ProposalOrRef). ReachesAll g.S.Suite.crypto c.args.self.now c.commit.new.self l c.in-Ok.made) (ap (map list_item_of) c.deref.ensures.value ∙ c.in_ok-items.ensures.list) (c.in-Ok.ensures.reaches good)

pub returns-in-Ok-clause-last : goal.returns-in-Ok-clause-last
returns-in-Ok-clause-last g c = λ here none over. let room = has_room _ (sym c.has_next.ensures ∙ c.if-not-has_next.false) in absurd (omega (arith, room, over))

pub returns-in_err-items-clause-last : goal.returns-in_err-items-clause-last
returns-in_err-items-clause-last g c = λ here none over. let room = has_room _ (sym c.has_next.ensures ∙ c.if-not-has_next.false) in absurd (omega (arith, room, over))

pub returns-in_err-left_out-clause-last : goal.returns-in_err-left_out-clause-last
returns-in_err-left_out-clause-last g c = λ here none over. let room = has_room _ (sym c.has_next.ensures ∙ c.if-not-has_next.false) in absurd (omega (arith, room, over))

use Rattle.std.proofs.Common.{refl}
use Rattle.mls_member.proofs.Own.{own_below}
use Rattle.mls_member.proofs.Keeps.{is_within, said_again, said_refused, said_new}
use Rattle.mls_member.proofs.member.Member.send_and_keep.Goals as goal

pub returns-in-Err-is_said : goal.returns-in-Err-is_said
returns-in-Err-is_said g c = (
  refl,
  λ _.
      said_refused g.S.Suite.crypto c.args.self.now c.args.proposal c.args.own_key _ _ _ (c.in-Ok.ensures.message c.args.self.now c.speaker.ensures) (c.in-Ok.ensures.reference c.args.self.now c.speaker.ensures) c.in-Err-is_said.ensures,
)

pub returns-then-is_kept : goal.returns-then-is_kept
returns-then-is_kept g c =
    said_again g.S.Suite.crypto c.args.self.now c.args.proposal c.args.own_key _ _ (c.in-Ok.ensures.message c.args.self.now c.speaker.ensures) (c.in-Ok.ensures.reference c.args.self.now c.speaker.ensures) (rw c.if-is_kept.true at c.in-Ok-is_said.ensures)

pub keep_sent_proposal-requires : goal.keep_sent_proposal-requires
keep_sent_proposal-requires g c =
    own_below g.S.Suite.crypto c.args.self.now c.args.proposal c.requires (is_within g.S.Suite.crypto c.args.self.now c.args.proposal _ (c.in-Ok.ensures.message c.args.self.now c.speaker.ensures))

pub returns : goal.returns
returns g c =
    said_new _ g.S.Suite.crypto c.args.self.now _ c.args.proposal c.args.own_key _ _ _ (c.in-Ok.ensures.message c.args.self.now c.speaker.ensures) (c.in-Ok.ensures.reference c.args.self.now c.speaker.ensures)
    (rw c.if-is_kept.false at c.in-Ok-is_said.ensures) c.keep_sent_proposal.ensures

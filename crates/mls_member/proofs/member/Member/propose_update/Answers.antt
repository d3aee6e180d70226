use Rattle.mls_member.proofs.Good.{not_gone, checks_at, update_good}
use Rattle.mls_member.proofs.member.Member.propose_update.Goals as goal

pub returns-clause-good : goal.returns-clause-good
returns-clause-good g c = λ good.
    update_good g.S.Suite.crypto c.args.self.now c.send_and_keep.new.self c.args.seed.now c.in_ok-sk.field-0.sk c.in_ok-updated_leaf.field-0 c.send_and_keep.result good (not_gone c.args.self.now _ c.self.view_is c.if-self.false) c.in_ok-updated_leaf.ensures.leaf
    c.in_ok-sk.ensures.private (checks_at g.S.Suite.crypto c.args.self.now _ c.leaf-sender.result _ c.self.view_is c.leaf-sender.ensures c.in_default.ensures.answer) c.send_and_keep.ensures

pub send_and_keep-requires : goal.send_and_keep-requires
send_and_keep-requires g c = λ _. c.in_ok-updated_leaf.ensures.short.fits

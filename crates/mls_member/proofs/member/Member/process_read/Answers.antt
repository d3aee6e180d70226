use Rattle.std.proofs.Common.{sym, ap, ◌∙◌, arith}
use Rattle.mls_model.specs.Member.{Pending, with_epoch}
use Rattle.mls_member.proofs.Good.{not_gone, own_good, other_good}
use Rattle.mls_member.proofs.member.Member.process_read.Goals as goal

pub returns-in-Some-clause-good : goal.returns-in-Some-clause-good
returns-in-Some-clause-good g c = λ good.
    own_good g.S.Suite.crypto c.args.self.now c.take_own.new.self c.advance.new.self c.args.bytes.now c.in-Some.pending good (λ i. omega (arith, c.type_inv.bytes i)) (not_gone c.args.self.now _ c.self.view_is c.if-self.false) (sym c.in-Some.ensures.own) c.in-Some.ensures.state
    (c.advance.ensures.member ∙ ap (λ (x : Pending). with_epoch c.take_own.new.self x.public x.epoch_secret x.keys) c.pending.view_is)

pub returns-in-None-clause-good : goal.returns-in-None-clause-good
returns-in-None-clause-good g c = λ good.
    other_good g.S.Suite.crypto c.args.self.now c.take_own.new.self c.bytes_verdict.new.self c.args.bytes.now c.bytes_verdict.result good (λ i. omega (arith, c.type_inv.bytes i)) (not_gone c.args.self.now _ c.self.view_is c.if-self.false) (sym c.in-None.ensures.own) c.in-None.ensures.state
    c.bytes_verdict.ensures.verdict

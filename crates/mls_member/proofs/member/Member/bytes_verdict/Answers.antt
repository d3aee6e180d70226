use Rattle.std.proofs.Common.{rules, arith}
use Rattle.mls_member.proofs.ContentLaws.{public_of, short_public, public_does, public_outright, other_of, no_message, lent_all, lent_fault}
use Rattle.mls_member.proofs.member.Member.bytes_verdict.Goals as goal

pub returns-in-Err-clause-verdict : goal.returns-in-Err-clause-verdict
returns-in-Err-clause-verdict g c = let e = (no_message g.S.Suite.crypto c.args.self.now c.args.bytes.now _ (lent_fault c.args.bytes.now _ _ c.in-Err.is c.requires)).0 in rw e (search rules)

pub returns-in-Err-clause-outright : goal.returns-in-Err-clause-outright
returns-in-Err-clause-outright g c = let e = (no_message g.S.Suite.crypto c.args.self.now c.args.bytes.now _ (lent_fault c.args.bytes.now _ _ c.in-Err.is c.requires)).1 in rw e (search rules)

pub message_verdict-requires : goal.message_verdict-requires
message_verdict-requires g c = short_public c.args.bytes.now _ (λ i. omega (arith, c.type_inv.bytes i)) (public_of _ _ _ (lent_all c.args.bytes.now _ _ c.in-Ok.is c.requires) c.in-PublicMessage.is)

pub returns-in-PublicMessage-clause-verdict : goal.returns-in-PublicMessage-clause-verdict
returns-in-PublicMessage-clause-verdict g c = public_does g.S.Suite.crypto c.args.self.now c.args.bytes.now _ _ _ (public_of _ _ _ (lent_all c.args.bytes.now _ _ c.in-Ok.is c.requires) c.in-PublicMessage.is) c.message_verdict.ensures.verdict

pub returns-in-PublicMessage-clause-outright : goal.returns-in-PublicMessage-clause-outright
returns-in-PublicMessage-clause-outright g c = public_outright c.args.self.now c.args.bytes.now _ _ (public_of _ _ _ (lent_all c.args.bytes.now _ _ c.in-Ok.is c.requires) c.in-PublicMessage.is) c.message_verdict.ensures.outright

pub returns-in_default : goal.returns-in_default
returns-in_default g c =
    let both = other_of g.S.Suite.crypto c.args.self.now c.args.bytes.now _ (lent_all c.args.bytes.now _ _ c.in-Ok.is c.requires) c.in_default.not-PublicMessage in
    record { verdict = (search rules, λ _. both.0); outright = λ n e. cc (e, both.1) }

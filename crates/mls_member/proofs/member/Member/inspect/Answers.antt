use Rattle.std.proofs.Common.{sym, ◌∙◌}
use Rattle.mls_member.proofs.EarlyChecks.{early_refused, others_early}
use Rattle.mls_member.proofs.Inspecting.{gone_refuses}
use Rattle.mls_member.proofs.member.Member.inspect.Goals as goal

pub returns-then-is_gone-clause-answer : goal.returns-then-is_gone-clause-answer
returns-then-is_gone-clause-answer g c = λ _. gone_refuses g.S.Suite.crypto c.args.self.now c.args.bytes.now (sym c.is_gone.ensures ∙ c.if-is_gone.true)

pub returns-in-Err-clause-answer : goal.returns-in-Err-clause-answer
returns-in-Err-clause-answer g c = λ memory. early_refused g.S.Suite.crypto c.args.self.now c.args.bytes.now _ (c.early_refusal.ensures.is memory)

pub returns-in-Err-clause-outright : goal.returns-in-Err-clause-outright
returns-in-Err-clause-outright g c = λ here own n h. c.early_refusal.ensures.early n (others_early c.args.self.now c.args.bytes.now n here own h)

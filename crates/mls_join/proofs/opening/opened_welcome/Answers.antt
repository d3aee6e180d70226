use Rattle.std.proofs.Common.{rules}
use Rattle.mls_join.proofs.Welcomes.{opened_read}
use Rattle.mls_join.proofs.opening.opened_welcome.Goals as goal

pub returns-in_err-welcome-clause-answer : goal.returns-in_err-welcome-clause-answer
returns-in_err-welcome-clause-answer g c = rw (opened_read g.S.Suite.crypto c.args.candidate.now c.args.bytes.now) (search rules)

pub returns-clause-answer : goal.returns-clause-answer
returns-clause-answer g c = rw (opened_read g.S.Suite.crypto c.args.candidate.now c.args.bytes.now) (search rules)

use Rattle.std.proofs.Common.{arith}
use Rattle.mls_public_group.proofs.Limits.{past_limit}
use Rattle.mls_welcome.proofs.Measured.{within}
use Rattle.mls_welcome.proofs.limits.require_within_limit.Goals as goal

pub returns-then-bytes-gt-INPUT_LIMIT-clause-answer : goal.returns-then-bytes-gt-INPUT_LIMIT-clause-answer
returns-then-bytes-gt-INPUT_LIMIT-clause-answer c = past_limit c.args.bytes.now (omega arith)

pub returns-clause-answer : goal.returns-clause-answer
returns-clause-answer c = within c.args.bytes.now (omega arith) c.know_bytes.ensures

use Rattle.std.proofs.Common.{arith}
use Rattle.mls_public_group.proofs.Limits.{within_limit}
use Rattle.mls_member.proofs.create.require_within_limit.Goals as goal

pub returns : goal.returns
returns c = within_limit c.args.bytes.now c.know_bytes.ensures (let le = c.if-bytes-gt-INPUT_LIMIT.false in omega arith)

use Rattle.std.proofs.Common.{rules}
use Rattle.aes128gcm.proofs.LaneLemmas.{lane-times}
use Rattle.aes128gcm.proofs.slices.xtimes.Goals as goal

pub returns : goal.returns
returns c i = lane-times c.args.q i (search rules)

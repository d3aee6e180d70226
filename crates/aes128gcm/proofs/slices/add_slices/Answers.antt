use Rattle.std.proofs.Common.{rules}
use Rattle.aes128gcm.proofs.LaneLemmas.{lane-xor_eights}
use Rattle.aes128gcm.proofs.slices.add_slices.Goals as goal

pub returns : goal.returns
returns c i = lane-xor_eights c.args.p c.args.q i (search rules) (search rules)

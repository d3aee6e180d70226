use Rattle.std.proofs.Common.{rules}
use Rattle.aes128gcm.proofs.Words.{temp_of}
use Rattle.aes128gcm.proofs.keys.temp.Goals as goal

pub returns : goal.returns
returns c i e = temp_of c.args.k.now c.sub_block-s.result c.args.constant i (search rules) c.sub_block-s.ensures e

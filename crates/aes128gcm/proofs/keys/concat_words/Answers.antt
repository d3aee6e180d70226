use Rattle.std.proofs.Common.{rules}
use Rattle.aes128gcm.proofs.Words.{sixteen}
use Rattle.aes128gcm.proofs.keys.concat_words.Goals as goal

pub returns : goal.returns
returns c = sixteen c.args.a c.args.b c.args.c c.args.d (search rules) (search rules) (search rules) (search rules)

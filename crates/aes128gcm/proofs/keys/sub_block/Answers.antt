use Rattle.std.proofs.Common.{arith}
use Rattle.aes128gcm.specs.Aes.{sub_bytes}
use Rattle.aes128gcm.proofs.RoundLemmas.{holds-sub_bytes}
use Rattle.aes128gcm.proofs.keys.sub_block.Goals as goal

pub returns : goal.returns
returns c =
    c.store.ensures 0 (sub_bytes c.args.block.now) (omega arith)
    (holds-sub_bytes c.load.result c.sub_bytes.result 0 c.args.block.now (omega arith) c.load.ensures.first c.sub_bytes.ensures)

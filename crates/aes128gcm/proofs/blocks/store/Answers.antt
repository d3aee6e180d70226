use Rattle.std.proofs.Common.{◌≡◌, length, rules, arith}
use Rattle.aes128gcm.specs.Lanes.{Holds}
use Rattle.aes128gcm.proofs.LoadLemmas.{holds-store, fourth_of}
use Rattle.aes128gcm.proofs.blocks.store.Goals as goal

pub returns : goal.returns
returns c b s hb hs =
    let long : length c.args.q ≡ 8 = search rules in
    fourth_of c.block_of.result c.block_of-2.result c.block_of-3.result c.block_of-4.result (λ n block. Holds c.args.q n s → block ≡ s)
    (holds-store c.args.q c.transpose.result s c.block_of.result 0 (omega arith) long (search rules) c.transpose.ensures c.block_of.ensures.even c.block_of.ensures.odd)
    (holds-store c.args.q c.transpose.result s c.block_of-2.result 1 (omega arith) long (search rules) c.transpose.ensures c.block_of-2.ensures.even c.block_of-2.ensures.odd)
    (holds-store c.args.q c.transpose.result s c.block_of-3.result 2 (omega arith) long (search rules) c.transpose.ensures c.block_of-3.ensures.even c.block_of-3.ensures.odd)
    (holds-store c.args.q c.transpose.result s c.block_of-4.result 3 (omega arith) long (search rules) c.transpose.ensures c.block_of-4.ensures.even c.block_of-4.ensures.odd)
    b hb hs

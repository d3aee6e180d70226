use Rattle.aes128gcm.proofs.RoundLemmas.{holds-last}
use Rattle.aes128gcm.proofs.blocks.last_round.Goals as goal

pub returns : goal.returns
returns c b s key hb hs hk =
    holds-last c.args.q.now c.sub_bytes.result c.shift_rows.result c.add_slices.result c.args.k.now b s key hb hs hk
    c.sub_bytes.ensures c.shift_rows.ensures c.add_slices.ensures

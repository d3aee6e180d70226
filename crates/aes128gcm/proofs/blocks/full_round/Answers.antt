use Rattle.aes128gcm.proofs.RoundLemmas.{holds-full}
use Rattle.aes128gcm.proofs.blocks.full_round.Goals as goal

pub returns : goal.returns
returns c b s key hb hs hk =
    holds-full c.args.q.now c.sub_bytes.result c.shift_rows.result c.mix_columns.result c.add_slices.result c.args.k.now b s key hb hs hk
    c.sub_bytes.ensures c.shift_rows.ensures c.mix_columns.ensures c.add_slices.ensures

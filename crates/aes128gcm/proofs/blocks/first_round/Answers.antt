use Rattle.aes128gcm.specs.Aes.{add_round_key}
use Rattle.aes128gcm.proofs.RoundLemmas.{holds-xor}
use Rattle.aes128gcm.proofs.blocks.first_round.Goals as goal

pub returns : goal.returns
unfolding add_round_key
returns c b s key hb hs hk = holds-xor c.args.q.now c.args.k.now c.add_slices.result b s key hs hk c.add_slices.ensures

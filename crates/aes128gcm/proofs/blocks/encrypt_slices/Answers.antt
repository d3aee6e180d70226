use Rattle.std.proofs.Common.{◌-◌, [], arith}
use Rattle.aes128gcm.specs.Aes.{rounds, round_key}
use Rattle.aes128gcm.proofs.RoundLemmas.{holds-first, holds-next, holds-done}
use Rattle.aes128gcm.proofs.blocks.encrypt_slices.Goals as goal

pub loop-i-init : goal.loop-i-init
unfolding round_key
loop-i-init c b key s hb keys hs = holds-first c.first_round-q.result b key s (c.first_round-q.ensures b s key hb hs (keys b 0 [] hb (omega arith)))

pub loop-i-preserved : goal.loop-i-preserved
loop-i-preserved c b key s hb keys hs =
    holds-next c.full_round-q.result b key s c.loop-i.i (omega arith)
    (c.full_round-q.ensures b (rounds key s (c.loop-i.i - 1)) (round_key key c.loop-i.i) hb (c.loop-i.invariant b key s hb keys hs) (keys b c.loop-i.i [] hb (omega arith)))

pub returns : goal.returns
returns c b key s hb keys hs =
    holds-done c.last_round.result b key s c.loop-i.i (omega arith)
    (c.last_round.ensures b (rounds key s (c.loop-i.i - 1)) (round_key key 10) hb (c.loop-i.invariant b key s hb keys hs) (keys b 10 [] hb (omega arith)))

use Rattle.std.proofs.Common.{arith, sym, ap, ◌∙◌}
use Rattle.mls_welcome.proofs.SealedEntries.{keys_more, keys_fail, keys_end}
use Rattle.mls_welcome.proofs.entries.have_fit_keys.Goals as goal

pub returns-then-not-key_ok : goal.returns-then-not-key_ok
returns-then-not-key_ok g c =
    let crypto = g.S.Suite.crypto in
    keys_fail crypto c.args.joiners.now c.loop-joiner.joiner-index c.loop-joiner.invariant c.joiner-item.result (omega arith) c.joiner-item.is
    (ap crypto.key_ok (sym c.as_slice.ensures) ∙ sym c.key_ok.ensures ∙ (cc))

pub loop-joiner-preserved : goal.loop-joiner-preserved
loop-joiner-preserved g c =
    let crypto = g.S.Suite.crypto in
    keys_more crypto c.args.joiners.now c.loop-joiner.joiner-index c.loop-joiner.invariant c.joiner-item.result (omega arith) c.joiner-item.is
    (ap crypto.key_ok (sym c.as_slice.ensures) ∙ sym c.key_ok.ensures ∙ (cc))

pub returns : goal.returns
returns g c = keys_end g.S.Suite.crypto c.args.joiners.now c.loop-joiner.joiner-index c.loop-joiner.invariant (omega arith)

use Rattle.std.proofs.Common.{sym}
use Rattle.mls_wire.specs.Laws.{ok_is}
use Rattle.mls_welcome.proofs.SealedEntries.{one_sealed, one_unfit}
use Rattle.mls_welcome.proofs.entries.entry_for.Goals as goal

pub returns-in-Some : goal.returns-in-Some
returns-in-Some g c =
    one_sealed g.S.Suite.crypto c.args.info.now c.args.offered.now c.args.secrets.now c.args.rnd.now c.as_slice-key.result.now c.as_slice-key.ensures c.in_ok-sealed.field-0 c.in_ok-sealed.ensures
    c.in-Some.sealed c.in-Some.is c.in_ok-new_member.new_member c.from_vec.result c.from_vec-in-Some.result (sym (ok_is _ _ c.in_ok-new_member.ensures)) c.from_vec.ensures c.from_vec-in-Some.ensures

pub returns-in-None : goal.returns-in-None
returns-in-None g c =
    λ other.
    one_unfit g.S.Suite.crypto c.args.info.now c.args.offered.now c.args.secrets.now c.args.rnd.now c.as_slice-key.result.now c.as_slice-key.ensures c.in_ok-sealed.field-0 c.in_ok-sealed.ensures c.in-None.is

use Rattle.std.proofs.Common.{◌^◌}
use Rattle.mls_member.proofs.SavedLengths.{state_below, kept_below, pending_below}
use Rattle.mls_member.proofs.member.Member.of_saved.Goals as goal

pub load_state-requires : goal.load_state-requires
load_state-requires g c = state_below (2 ^ 27) c.args.saved c.requires

pub load_all_kept-requires : goal.load_all_kept-requires
load_all_kept-requires g c = rw c.as_slice.ensures (kept_below (2 ^ 27) c.args.saved c.requires)

pub load_if_pending-requires : goal.load_if_pending-requires
load_if_pending-requires g c = pending_below (2 ^ 27) c.args.saved c.requires

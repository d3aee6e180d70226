use Rattle.mls_saved.specs.Member.{saved_member}
use Rattle.mls_public_group.proofs.Limits.{no_fault, read_below}
use Rattle.mls_member.proofs.member.Member.load.Goals as goal

pub of_saved-requires : goal.of_saved-requires
of_saved-requires g c = read_below saved_member c.args.bytes.now c.in_ok-saved.saved c.in_ok-saved.ensures.found c.in_ok-saved.ensures.exact

pub returns-clause-outright : goal.returns-clause-outright
returns-clause-outright g c = λ n h. absurd (no_fault _ _ n c.in_ok-saved.ensures.exact h)

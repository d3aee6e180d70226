use Rattle.std.proofs.Common.{refl}
use Rattle.mls_types.specs.Commit.{proposal_or_ref}
use Rattle.mls_types.specs.declared.commit.ProposalOrRef.TheVariants as shown
use Rattle.mls_view.proofs.entries.read_proposal_or_ref.Goals as goal

pub returns-in_ok-proposal-in-1 : goal.returns-in_ok-proposal-in-1
unfolding proposal_or_ref
returns-in_ok-proposal-in-1 c =
    let p = c.in_ok-proposal-in-1.ensures in
    record { value = shown.Proposal p.value; is_read = rw (c.in_ok-u8.ensures, c.in-1.is, p.is_read) refl; shows = p.spells }

pub returns-in_ok-reference-in-2 : goal.returns-in_ok-reference-in-2
unfolding proposal_or_ref
returns-in_ok-reference-in-2 c = record { value = shown.Reference c.in_ok-reference-in-2.reference.now; is_read = rw (c.in_ok-u8.ensures, c.in-2.is, c.in_ok-reference-in-2.ensures) refl; shows = refl }

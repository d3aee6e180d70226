-- The format of a proposal that a member keeps.
use Rattle.std.specs.Prelude.{refl}
use Rattle.mls_wire.specs.Format.{Format}
use Rattle.mls_wire.specs.Combine.{◌⨾◌, image, optional, byte_string, uint32}
use Rattle.mls_wire.specs.CombineReads.{IsNonempty}
use Rattle.mls_leaf.specs.Nonempty.{byte_string_nonempty, first_nonempty}
use Rattle.mls_leaf.specs.Proposal.{proposal}
use Rattle.mls_saved.specs.declared.proposal.SavedProposal.{SavedProposal}

-- reference<V>, message<V>, Proposal, uint32 sender, optional<own_key<V>>
unfoldable pub saved_proposal : Format SavedProposal
saved_proposal = image (byte_string ⨾ byte_string ⨾ proposal ⨾ uint32 ⨾ optional byte_string)
    (λ x. record { reference = x.0; message = x.1.0; proposal = x.1.1.0; sender = x.1.1.1.0; own_key = x.1.1.1.1 })
    (λ v. (v.reference, (v.message, (v.proposal, (v.sender, v.own_key)))))
    (λ v. refl) (λ x _. refl)

pub saved_proposal_nonempty : IsNonempty saved_proposal
unfolding saved_proposal
saved_proposal_nonempty v fits =
    first_nonempty byte_string (byte_string ⨾ proposal ⨾ uint32 ⨾ optional byte_string) byte_string_nonempty
    (v.reference, (v.message, (v.proposal, (v.sender, v.own_key)))) fits

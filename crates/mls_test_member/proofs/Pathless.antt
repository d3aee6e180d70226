-- A commit of extensions without a path has a spelling, if it is short.
use Rattle.std.proofs.Common.{◌≡◌, ℕ, ◌<◌, ◌^◌, true, List, [], ◌∷◌, ◌++◌, length, None, arith, lit<}
use Rattle.std.specs.Int.{w8, w16}
use Rattle.mls_wire.specs.Combine.{optional}
use Rattle.mls_wire.specs.Reading.{uint, header, opaque}
use Rattle.mls_leaf.specs.GroupExtensions.{are_allowed, group_extensions}
use Rattle.mls_leaf.proofs.GroupExtensionsLaws.{group_extensions-fits}
use Rattle.mls_leaf.specs.Proposal.{proposal}
use Rattle.mls_leaf.specs.declared.extension.Extension.{Extension}
use Rattle.mls_leaf.specs.declared.proposal.Proposal.TheVariants.{GroupContextExtensions}
use Rattle.mls_types.specs.Commit.{proposal_or_ref, commit}
use Rattle.mls_types.specs.Content.{content}
use Rattle.mls_types.specs.UpdatePath.{update_path}
use Rattle.mls_types.specs.declared.commit.Commit.{Commit}
use Rattle.mls_types.specs.declared.commit.ProposalOrRef.{ProposalOrRef}
use Rattle.mls_types.specs.declared.commit.ProposalOrRef.TheVariants as listed
use Rattle.mls_types.specs.declared.content.Content.TheVariants as says
use Rattle.mls_public_group.proofs.Lengths.{first_within, last_within}
use Rattle.mls_public_group.specs.MessageLimit.{FitsIfShort}

abbrev pub listing : List ProposalOrRef → Commit
listing list = record { proposals = list; path = None }

pub pathless_fits : (list : List Extension) → are_allowed list ≡ true → FitsIfShort content (says.Commit (listing (listed.Proposal (GroupContextExtensions list) ∷ [])))
unfolding content commit proposal_or_ref proposal
pathless_fits list may lt =
    let inner : List ℕ = uint w8 1 ++ (uint w16 7 ++ group_extensions.spell list) in
    let items : List ℕ = inner ++ [] in
    let whole : length (commit.spell (listing (listed.Proposal (GroupContextExtensions list) ∷ []))) < 2 ^ 30 = omega (arith, lt, last_within (uint w8 3) (commit.spell (listing (listed.Proposal (GroupContextExtensions list) ∷ [])))) in
    let short : length items < 2 ^ 30 = omega (arith, whole, first_within (opaque items) ((optional update_path).spell None), last_within (header (length items)) items) in
    let own : length (group_extensions.spell list) < 2 ^ 30 = omega (arith, short, first_within inner [], last_within (uint w8 1) (uint w16 7 ++ group_extensions.spell list), last_within (uint w16 7) (group_extensions.spell list)) in
    (lit< tt, ((((lit< tt, (lit< tt, group_extensions-fits list may own)), tt), short), (lit< tt, tt)))

-- A commit that is made has a spelling, if that would be short.
use Rattle.std.proofs.Common.{◌≡◌, ℕ, ◌<◌, ◌^◌, List, [], ◌∷◌, length, Option, Some, None, Ok, sym, ap, subst, lit<}
use Rattle.std.specs.Prelude.{IfSome}
use Rattle.std.specs.List.{flat_map, AllByRecursion}
use Rattle.mls_wire.specs.Combine.{optional}
use Rattle.mls_wire.proofs.CheckLaws.{bind_ok}
use Rattle.mls_wire.specs.Laws.{ok_is}
use Rattle.mls_leaf.specs.Leaf.{leaf_node}
use Rattle.mls_leaf.specs.Proposal.{proposal}
use Rattle.mls_leaf.specs.declared.proposal.Proposal as proposals
use Rattle.mls_types.specs.UpdatePath.{update_path}
use Rattle.mls_types.specs.declared.update_path.UpdatePath.{UpdatePath}
use Rattle.mls_types.specs.Commit.{proposal_or_ref, commit}
use Rattle.mls_types.specs.Content.{content}
use Rattle.mls_types.specs.declared.commit.Commit.{Commit}
use Rattle.mls_types.specs.declared.commit.ProposalOrRef.{ProposalOrRef}
use Rattle.mls_types.specs.declared.commit.ProposalOrRef.TheVariants as listed
use Rattle.mls_types.specs.declared.content.Content.TheVariants as says
use Rattle.mls_model.specs.PublicState.{Used}
use Rattle.mls_model.specs.Member.{KeptProposal, find_proposal, find_proposals}
use Rattle.mls_public_group.specs.Short.{IsBelow}
use Rattle.mls_public_group.specs.MessageLimit.{FitsIfShort}
use Rattle.mls_theorems.specs.CommitSpelling.{LeafFitsIfShort}
use Rattle.mls_theorems.proofs.Fit.{short_first, short_last, short_text, commit_fits}
use Rattle.mls_make.specs.CommitCall.{AreShortUsed}

-- ---- its path

same_path : (p q : UpdatePath) → Some p ≡ Some q → p ≡ q
same_path p q e = cc

no_path_is_some : (p : UpdatePath) → None ≡ Some p → ⊥
no_path_is_some p e = absurd cc

path_leaf_fits : (o : Option UpdatePath) → IfSome o (λ p. IsBelow (2 ^ 28) leaf_node p.leaf_node) → LeafFitsIfShort o
path_leaf_fits None h p is lt = absurd (no_path_is_some p is)
path_leaf_fits (Some q) h p is lt = subst (λ (u : UpdatePath). leaf_node.Fits u.leaf_node) (same_path q p is) h.fits

-- ---- its list, by what it uses

one_fits : (kept : List KeptProposal) (leaf : ℕ) (x : ProposalOrRef) (u : Used) → find_proposal kept leaf x ≡ Ok u → IsBelow (2 ^ 28) proposal u.proposal → length (proposal_or_ref.spell x) < 2 ^ 30 → proposal_or_ref.Fits x
unfolding proposal_or_ref
one_fits kept leaf (listed.Proposal p) u h short lt =
    let same : u.proposal ≡ p = ap (λ (v : Used). v.proposal) (sym (ok_is _ _ h)) in
    (lit< tt, subst (λ (q : proposals.Proposal). proposal.Fits q) same short.fits)
one_fits kept leaf (listed.Reference r) u h short lt = (lit< tt, short_text r _ (short_last _ _ _ lt))

-- each has a spelling where the whole list's is short
pub list_fits : (kept : List KeptProposal) (leaf : ℕ) (xs : List ProposalOrRef) (used : List Used) → find_proposals kept leaf xs ≡ Ok used → AreShortUsed used → length (flat_map proposal_or_ref.spell xs) < 2 ^ 30 → AllByRecursion proposal_or_ref.Fits xs
unfolding find_proposals
list_fits kept leaf [] used h short lt = tt
list_fits kept leaf (x ∷ xs) used h short lt =
    let one = bind_ok _ _ _ h in
    let more = bind_ok _ _ _ one.2 in
    let is : one.0 ∷ more.0 ≡ used = ok_is _ _ more.2 in
    let parts : AreShortUsed (one.0 ∷ more.0) = subst AreShortUsed (sym is) short in (
      one_fits kept leaf x one.0 one.1 parts.0.0 (short_first (proposal_or_ref.spell x) (flat_map proposal_or_ref.spell xs) _ lt),
      list_fits kept leaf xs more.0 more.1 parts.1 (short_last (proposal_or_ref.spell x) (flat_map proposal_or_ref.spell xs) _ lt),
    )

commit_list : (k : Commit) → length (commit.spell k) < 2 ^ 30 → length (flat_map proposal_or_ref.spell k.proposals) < 2 ^ 30
unfolding commit
commit_list k lt = short_text _ _ (short_first _ ((optional update_path).spell k.path) _ lt)

-- ---- the whole

content_fits_if_short : (k : Commit) → FitsIfShort commit k → FitsIfShort content (says.Commit k)
unfolding content
content_fits_if_short k fits lt = (lit< tt, fits (short_last _ (commit.spell k) _ lt))

-- by the proposals that it uses, and a path whose leaf has a spelling
pub commit_fits_if_short : (kept : List KeptProposal) (leaf : ℕ) (list : List ProposalOrRef) (used : List Used) (path : Option UpdatePath) → find_proposals kept leaf list ≡ Ok used → AreShortUsed used → IfSome path (λ p. IsBelow (2 ^ 28) leaf_node p.leaf_node) →
    let k : Commit = record { proposals = list; path = path } in FitsIfShort content (says.Commit k)
commit_fits_if_short kept leaf list used path h short own =
    let k : Commit = record { proposals = list; path = path } in
    content_fits_if_short k (λ lt. commit_fits k (list_fits kept leaf list used h short (commit_list k lt)) (path_leaf_fits path own) lt)

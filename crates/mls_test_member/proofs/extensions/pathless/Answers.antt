use Rattle.std.proofs.Common.{◌≡◌, List, true, sym, subst, ◌∙◌}
use Rattle.mls_leaf.specs.GroupExtensions.{are_allowed}
use Rattle.mls_leaf.specs.declared.extension.Extension.{Extension}
use Rattle.mls_types.specs.Content.{content}
use Rattle.mls_types.specs.declared.commit.ProposalOrRef.{ProposalOrRef}
use Rattle.mls_types.specs.declared.content.Content.TheVariants as says
use Rattle.mls_public_group.specs.MessageLimit.{FitsIfShort}
use Rattle.mls_test_member.proofs.Pathless.{listing, pathless_fits}
use Rattle.mls_test_member.proofs.extensions.pathless.Goals as goal

pub returns : goal.returns
returns c =
    subst (λ (l : List ProposalOrRef). FitsIfShort content (says.Commit (listing l))) (sym (c.from_vec-proposals.ensures ∙ c.in_ok-from_array.ensures.items))
    (pathless_fits c.in_ok-extensions.extensions (subst (λ (l : List Extension). are_allowed l ≡ true) c.as_slice-entries.ensures.entries c.as_slice-entries.ensures.allowed))

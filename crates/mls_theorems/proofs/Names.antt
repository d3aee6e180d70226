-- Names are stable: what a member keeps under the references of a commit is the same while it keeps more.
use Rattle.std.proofs.Common.{ℕ, List, [], ◌∷◌, ◌++◌, ap, ◌∙◌}
use Rattle.std.specs.Prelude.{option_map}
use Rattle.mls_types.specs.declared.commit.ProposalOrRef.{ProposalOrRef}
use Rattle.mls_types.specs.declared.commit.ProposalOrRef.TheVariants as listed
use Rattle.mls_model.specs.Agreement.{Keeps}
use Rattle.mls_model.specs.Journal.{names_in}
use Rattle.mls_model.specs.Member.{KeptProposal, kept_under}
use Rattle.mls_model.proofs.CommitLaws.{names_are_held, names_in_order, by_option}
use Rattle.mls_theorems.proofs.UnchangedMembers.{under_still}
use Rattle.mls_theorems.proofs.Lists.{some}
use Rattle.mls_theorems.specs.StableNames.{NamesStable}

-- what is kept under the references of a list is kept with more behind it
pub keeps_more : (kept more : List KeptProposal) (list : List ProposalOrRef) (names : List (List ℕ)) → Keeps kept list names → Keeps (kept ++ more) list names
unfolding Keeps
keeps_more kept more [] [] h = tt
keeps_more kept more [] (b ∷ bs) h = absurd h
keeps_more kept more (listed.Proposal said ∷ xs) bs h = keeps_more kept more xs bs h
keeps_more kept more (listed.Reference r ∷ xs) [] h = absurd h
keeps_more kept more (listed.Reference r ∷ xs) (b ∷ bs) h =
    let k = by_option (kept_under kept r) b h.0 in
    (ap (option_map (λ (x : KeptProposal). x.message)) (under_still kept more r k.0 k.1) ∙ ap some k.2, keeps_more kept more xs bs h.1)

pub names_stable : NamesStable
names_stable kept more i list used e = names_are_held (kept ++ more) list (names_in kept list) (keeps_more kept more list (names_in kept list) (names_in_order kept i list used e))

-- Names are stable: what a member keeps under the references of a commit is the same while it keeps more.
use Rattle.std.specs.Prelude.{◌≡◌, ℕ, List, ◌++◌, Ok}
use Rattle.mls_types.specs.declared.commit.ProposalOrRef.{ProposalOrRef}
use Rattle.mls_model.specs.Journal.{names_in}
use Rattle.mls_model.specs.Member.{KeptProposal, find_proposals}
use Rattle.mls_model.specs.PublicState.{Used}

abbrev pub NamesStable : Type 0
NamesStable = (kept more : List KeptProposal) (i : ℕ) (list : List ProposalOrRef) (used : List Used) →
    find_proposals kept i list ≡ Ok used → names_in (kept ++ more) list ≡ names_in kept list

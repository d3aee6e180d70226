-- The list of a commit, whose proposals in full are short (RFC 9420, 12.4).
use Rattle.std.specs.Prelude.{ℕ, List, map, Result}
use Rattle.std.specs.Global.{Vec}
use Rattle.std.specs.List.{AllByRecursion}
use Rattle.mls_types.specs.declared.commit.ProposalOrRef.{ProposalOrRef}
use Rattle.mls_types.specs.declared.commit.ProposalOrRef.TheVariants as listed
use Rattle.mls_wire.specs.Checks.{Answers}
use Rattle.mls_model.specs.declared.item.Item.{Item}
use Rattle.mls_model.specs.Make.{list_item_of}
use Rattle.mls_public_group.specs.ShortProposal.{IsShortProposal}

-- a proposal in full is short; of a reference nothing is asked
abbrev pub IsShortListed : ProposalOrRef → Type 0
IsShortListed (listed.Proposal p) = IsShortProposal p
IsShortListed (listed.Reference reference) = Unit {0}

abbrev pub AreShortListed : List ProposalOrRef → Type 0
AreShortListed list = AllByRecursion IsShortListed list

-- the items are what is listed, or memory was refused
abbrev pub ListsItems : Result (List ProposalOrRef) ℕ → Result (Vec Item) ℕ → Type 0
ListsItems listed items = Answers (λ v. map list_item_of v.items) (λ n. n) listed items

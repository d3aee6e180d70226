use Rattle.std.proofs.Common.{◌≡◌, ◌∙◌, List, ℕ, ap, subst, sym}
use Rattle.mls_types.specs.Commit.{proposal_or_ref}
use Rattle.mls_view.specs.Entries.{ShowsProposalOrRef}
use Rattle.mls_view.proofs.EntriesLemmas.{shown_of, no_fault_of}
use Rattle.mls_view.specs.Views.{Lends}
use Rattle.mls_view.proofs.entries.ProposalOrRefView.of.Goals as goal

pub returns-in-Ok : goal.returns-in-Ok
returns-in-Ok c =
    let begins : c.new-reader.result ≡ c.args.entry.now = c.new-reader.ensures ∙ c.bytes.ensures.same in
    λ shown spells. shown_of proposal_or_ref ShowsProposalOrRef shown c.args.entry.now c.read_proposal_or_ref.new.reader c.in-Ok.view spells (subst (λ (l : List ℕ). Lends proposal_or_ref ShowsProposalOrRef l c.in-Ok.view c.read_proposal_or_ref.new.reader) begins c.in-Ok.ensures)

pub returns-in-Err : goal.returns-in-Err
returns-in-Err c =
    let begins : c.new-reader.result ≡ c.args.entry.now = c.new-reader.ensures ∙ c.bytes.ensures.same in
    λ shown spells. absurd (no_fault_of proposal_or_ref shown c.args.entry.now _ spells (ap proposal_or_ref.read (sym begins) ∙ c.in-Err.ensures))

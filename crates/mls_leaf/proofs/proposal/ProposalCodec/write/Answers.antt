use Rattle.std.proofs.Common.{◌≡◌, ℕ, List, ◌++◌, lit<, append_assoc, ap, ◌∙◌}
use Rattle.std.specs.Int.{w16}
use Rattle.std.proofs.lemmas.Result.{err_from_is_err_and}
use Rattle.mls_wire.specs.Reading.{uint}
use Rattle.mls_leaf.proofs.Codecs.{Refuses-whole}
use Rattle.mls_leaf.specs.GroupExtensions.{group_extensions}
use Rattle.mls_leaf.specs.Proposal.{proposal}
use Rattle.mls_leaf.specs.declared.proposal.Proposal.TheVariants.{GroupContextExtensions}
use Rattle.mls_leaf.proofs.proposal.ProposalCodec.write.Goals as goal

-- two texts, one added after the other
added : (old a b new-1 new-2 : List ℕ) → new-2 ≡ new-1 ++ b → new-1 ≡ old ++ a → new-2 ≡ old ++ (a ++ b)
added old a b new-1 new-2 second first = second ∙ ap (λ (l : List ℕ). l ++ b) first ∙ append_assoc old a b

pub returns-in_err-write-in-GroupContextExtensions : goal.returns-in_err-write-in-GroupContextExtensions
unfolding proposal
returns-in_err-write-in-GroupContextExtensions c =
    let p = err_from_is_err_and c.from_residual-in_err-write-in-GroupContextExtensions.result c.from_residual-in_err-write-in-GroupContextExtensions.ensures.1 in
    rw (p.1, p.2, c.in-GroupContextExtensions.is) (Refuses-whole (group_extensions.Fits c.in-GroupContextExtensions.extensions) (proposal.Fits (GroupContextExtensions c.in-GroupContextExtensions.extensions)) c.in_err-write-in-GroupContextExtensions.field-0.0 (λ f. f.1) c.in_err-write-in-GroupContextExtensions.ensures)

pub returns-in_ok-write-in-GroupContextExtensions : goal.returns-in_ok-write-in-GroupContextExtensions
unfolding proposal
returns-in_ok-write-in-GroupContextExtensions c =
    rw c.in-GroupContextExtensions.is (
      (lit< tt, c.in_ok-write-in-GroupContextExtensions.ensures.0),
      added c.args.writer.now (uint w16 7) (group_extensions.spell c.in-GroupContextExtensions.extensions) c.u16-in-GroupContextExtensions.new.self c.write-in-GroupContextExtensions.new.writer
          c.in_ok-write-in-GroupContextExtensions.ensures.1 c.in_ok-u16-in-GroupContextExtensions.ensures,
    )

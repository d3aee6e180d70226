use Rattle.std.proofs.Common.{List, sym, subst}
use Rattle.std.proofs.lemmas.List.{nil_from_length}
use Rattle.mls_types.specs.declared.commit.ProposalOrRef.{ProposalOrRef}
use Rattle.mls_model.specs.declared.item.Item.{Item}
use Rattle.mls_calls.proofs.Listing.{AreTaken, taken_first, taken_step, taken_end}
use Rattle.mls_calls.proofs.commits.items_of.Goals as goal

pub loop-listed-init : goal.loop-listed-init
loop-listed-init c = subst (λ (l : List Item). AreTaken c.args.list.now c.args.list.now l) (sym c.new-items.ensures.items) (taken_first c.args.list.now c.requires)

pub item_of-requires : goal.item_of-requires
item_of-requires c =
    (subst (λ (l : List ProposalOrRef). AreTaken c.args.list.now l c.loop-listed.items.items) c.in-Some.ensures.cases.0 c.loop-listed.invariant).left.0

pub loop-listed-preserved : goal.loop-listed-preserved
loop-listed-preserved c =
    subst (λ (l : List Item). AreTaken c.args.list.now c.in-Some.later.now l) (sym c.in_ok-push.ensures.items)
    (taken_step c.args.list.now c.in-Some.later.now c.in-Some.listed.now c.loop-listed.items.items c.in_ok-item.item c.in_ok-item.ensures.item c.in_ok-item.ensures.short
    (subst (λ (l : List ProposalOrRef). AreTaken c.args.list.now l c.loop-listed.items.items) c.in-Some.ensures.cases.0 c.loop-listed.invariant))

pub returns-clause-items : goal.returns-clause-items
returns-clause-items c =
    taken_end c.args.list.now c.loop-listed.items.items
    (subst (λ (l : List ProposalOrRef). AreTaken c.args.list.now l c.loop-listed.items.items) (nil_from_length c.loop-listed.rest.now c.in_default.ensures.cases) c.loop-listed.invariant)

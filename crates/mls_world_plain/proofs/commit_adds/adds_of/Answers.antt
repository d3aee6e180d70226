use Rattle.std.proofs.Common.{ℕ, List, sym, subst, ◌+◌, ◌∙◌}
use Rattle.mls_world_plain.proofs.Listing.{AddsFrom, adds_start, adds_next, adds_none, adds_end, rest_short}
use Rattle.mls_world_plain.proofs.commit_adds.adds_of.Goals as goal

pub loop-item-init : goal.loop-item-init
loop-item-init g c = (subst (λ (l : List (List ℕ)). AddsFrom c.args.member.now.kept c.args.items.now 0 l) (sym c.new-adds.ensures.items) (adds_start c.args.member.now.kept c.args.items.now), c.requires)

pub returns-in_default : goal.returns-in_default
returns-in_default g c =
    c.new.ensures.items ∙ adds_none c.args.member.now.kept c.args.items.now c.loop-item.item-index c.item-item.result c.loop-item.adds.items c.proposal_for.result c.loop-item-test.true c.item-item.is c.proposal_for.ensures.said c.in_default.not-Some c.loop-item.invariant.0

pub loop-item-preserved : goal.loop-item-preserved
loop-item-preserved g c = (
  subst (λ (l : List (List ℕ)). AddsFrom c.args.member.now.kept c.args.items.now (c.loop-item.item-index + 1) l) (sym c.in_ok-push_added.ensures)
      (adds_next c.args.member.now.kept c.args.items.now c.loop-item.item-index c.item-item.result c.in-Some.proposal.now c.loop-item.adds.items c.loop-item-test.true c.item-item.is c.in-Some.ensures.said c.loop-item.invariant.0),
  rest_short c.args.items.now c.loop-item.item-index c.item-item.result c.loop-item-test.true c.item-item.is c.loop-item.invariant.1,
)

pub returns : goal.returns
returns g c = adds_end c.args.member.now.kept c.args.items.now c.loop-item.item-index c.loop-item.adds.items c.loop-item-test.false c.loop-item.invariant.0

use Rattle.std.proofs.Common.{List, sym, subst, ◌∙◌}
use Rattle.std.proofs.lemmas.List.{nil_from_length}
use Rattle.mls_model.specs.declared.item.Item.{Item}
use Rattle.mls_tree.specs.Tree.{term}
use Rattle.mls_model.specs.Member.{KeptProposal}
use Rattle.mls_member.proofs.KeptTogether.{AreListed, listed_end, listed_step, passed_step}
use Rattle.mls_member.proofs.commit_kept.list_together.Goals as goal

pub loop-one-preserved-then-is_left_out : goal.loop-one-preserved-then-is_left_out
loop-one-preserved-then-is_left_out c =
    passed_step c.args.me (term c.args.tree.now) c.args.kept.now c.in-Some.later.now c.in-Some.one.now c.loop-one.items.items (sym c.is_left_out.ensures ∙ c.if-is_left_out.true)
    (subst (λ (l : List KeptProposal). AreListed c.args.me (term c.args.tree.now) c.args.kept.now l c.loop-one.items.items) c.in-Some.ensures.cases.0 c.loop-one.invariant)

pub loop-one-preserved : goal.loop-one-preserved
loop-one-preserved c =
    subst (λ (l : List Item). AreListed c.args.me (term c.args.tree.now) c.args.kept.now c.in-Some.later.now l) (sym c.in_ok-push.ensures.items)
    (listed_step c.args.me (term c.args.tree.now) c.args.kept.now c.in-Some.later.now c.in-Some.one.now c.loop-one.items.items c.in_ok-item.item (sym c.is_left_out.ensures ∙ c.if-is_left_out.false) c.in_ok-item.ensures.item c.in_ok-item.ensures.short
    (subst (λ (l : List KeptProposal). AreListed c.args.me (term c.args.tree.now) c.args.kept.now l c.loop-one.items.items) c.in-Some.ensures.cases.0 c.loop-one.invariant))

pub returns-clause-list : goal.returns-clause-list
returns-clause-list c =
    listed_end c.args.me (term c.args.tree.now) c.args.kept.now c.loop-one.items.items
    (subst (λ (l : List KeptProposal). AreListed c.args.me (term c.args.tree.now) c.args.kept.now l c.loop-one.items.items) (nil_from_length c.loop-one.rest.now c.in_default.ensures.cases) c.loop-one.invariant)

use Rattle.std.proofs.Common.{ℕ, List, [], ◌∷◌, ◌++◌, sym, ap, subst, ◌∙◌}
use Rattle.std.proofs.lemmas.List.{nil_from_length}
use Rattle.mls_tree.specs.Tree.{term}
use Rattle.mls_model.specs.Member.{KeptProposal}
use Rattle.mls_member.proofs.KeptTogether.{AreLeft, left_end, left_step, stays_step}
use Rattle.mls_member.proofs.commit_kept.list_left_out.Goals as goal

pub loop-one-preserved-then-not-is_left_out : goal.loop-one-preserved-then-not-is_left_out
loop-one-preserved-then-not-is_left_out c =
    stays_step c.args.me (term c.args.tree.now) c.args.kept.now c.in-Some.later.now c.in-Some.one.now c.loop-one.references.items (sym c.is_left_out.ensures ∙ c.if-not-is_left_out.true)
    (subst (λ (l : List KeptProposal). AreLeft c.args.me (term c.args.tree.now) c.args.kept.now l c.loop-one.references.items) c.in-Some.ensures.cases.0 c.loop-one.invariant)

pub loop-one-preserved : goal.loop-one-preserved
loop-one-preserved c =
    let same = ap (λ (k : KeptProposal). c.loop-one.references.items ++ (k.reference ∷ [])) c.one.view_is in
    subst (λ (l : List (List ℕ)). AreLeft c.args.me (term c.args.tree.now) c.args.kept.now c.in-Some.later.now l) (sym (c.in_ok-push.ensures.items ∙ same))
    (left_step c.args.me (term c.args.tree.now) c.args.kept.now c.in-Some.later.now c.in-Some.one.now c.loop-one.references.items (sym c.is_left_out.ensures ∙ c.if-not-is_left_out.false)
    (subst (λ (l : List KeptProposal). AreLeft c.args.me (term c.args.tree.now) c.args.kept.now l c.loop-one.references.items) c.in-Some.ensures.cases.0 c.loop-one.invariant))

pub returns : goal.returns
returns c =
    left_end c.args.me (term c.args.tree.now) c.args.kept.now c.loop-one.references.items
    (subst (λ (l : List KeptProposal). AreLeft c.args.me (term c.args.tree.now) c.args.kept.now l c.loop-one.references.items) (nil_from_length c.loop-one.rest.now c.in_default.ensures.cases) c.loop-one.invariant)

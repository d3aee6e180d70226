use Rattle.std.proofs.Common.{◌++◌, sym, ◌∙◌, ap}
use Rattle.mls_tree_model.specs.Resolution.{resolution}
use Rattle.mls_tree_array.proofs.Candidates.{no_candidate, more_than_one, the_candidate}
use Rattle.mls_tree_array.proofs.witnesses.candidate.Goals as goal

pub returns-then-not-are_others : goal.returns-then-not-are_others
returns-then-not-are_others c =
    let all = c.deref.ensures.value ∙ c.in_ok-resolution.ensures ∙ ap (λ ys. ys ++ resolution c.args.side.now.first c.args.side.now.term) c.clear.ensures.items in
    let also = c.deref_mut.ensures.value ∙ c.in_ok-resolution.ensures ∙ ap (λ ys. ys ++ resolution c.args.side.now.first c.args.side.now.term) c.clear.ensures.items in
    more_than_one c.args.parent.now c.args.side.now.first c.end-end.result c.args.side.now.term _ _ c.end-end.ensures c.unmerged_leaves-leaves.ensures.entries all _ also
    c.in-Some.node (rw c.first-first.ensures at c.in-Some.ensures) (rw c.first-first.ensures at (sym c.are_others.ensures ∙ c.if-not-are_others.true))

pub returns-else-not-are_others : goal.returns-else-not-are_others
returns-else-not-are_others c =
    let all = c.deref.ensures.value ∙ c.in_ok-resolution.ensures ∙ ap (λ ys. ys ++ resolution c.args.side.now.first c.args.side.now.term) c.clear.ensures.items in
    let also = c.deref_mut.ensures.value ∙ c.in_ok-resolution.ensures ∙ ap (λ ys. ys ++ resolution c.args.side.now.first c.args.side.now.term) c.clear.ensures.items in
    the_candidate c.args.parent.now c.args.side.now.first c.end-end.result c.args.side.now.term _ _ c.end-end.ensures c.unmerged_leaves-leaves.ensures.entries all _ also
    c.in-Some.node (rw c.first-first.ensures at c.in-Some.ensures) (rw c.first-first.ensures at (sym c.are_others.ensures ∙ c.if-not-are_others.false))

pub returns-in-None : goal.returns-in-None
returns-in-None c =
    let all = c.deref.ensures.value ∙ c.in_ok-resolution.ensures ∙ ap (λ ys. ys ++ resolution c.args.side.now.first c.args.side.now.term) c.clear.ensures.items in
    no_candidate c.args.parent.now c.args.side.now.first c.end-end.result c.args.side.now.term _ _ c.end-end.ensures c.unmerged_leaves-leaves.ensures.entries all (rw c.first-first.ensures at c.in-None.ensures)

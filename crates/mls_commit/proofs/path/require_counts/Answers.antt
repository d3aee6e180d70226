use Rattle.std.proofs.Common.{sym, ◌∙◌, ap, Err, length, arith}
use Rattle.std.proofs.lemmas.Result.{err_from_is_err_and}
use Rattle.mls_model.specs.Commit.{Edits}
use Rattle.mls_tree.specs.Tree.{term}
use Rattle.mls_commit.specs.Faults.{number_of}
use Rattle.mls_commit.proofs.Paths.{due_of, due_stands, fails_30, fails_31, passes}
use Rattle.mls_commit.proofs.path.require_counts.Goals as goal

pub returns-in_err-due : goal.returns-in_err-due
returns-in_err-due c =
    let p = err_from_is_err_and c.from_residual.result c.from_residual.ensures.1 in
    rw (p.1, p.2) (λ other. absurd (
    due_stands c.args.edits.now c.args.committer (term c.as_tree-tree.result.now) c.deref.result.now (ap term c.as_tree-tree.ensures.tree ∙ ap (λ (e : Edits). e.tree) c.edits.view_is) (c.deref.ensures.value ∙ ap (λ (e : Edits). e.added) c.edits.view_is) c.requires _ (c.in_err-due.ensures.answer other)))

pub returns-then-nodes-len : goal.returns-then-nodes-len
returns-then-nodes-len c =
    let due = due_of c.args.edits.now c.args.committer (term c.as_tree-tree.result.now) c.deref.result.now (ap term c.as_tree-tree.ensures.tree ∙ ap (λ (e : Edits). e.tree) c.edits.view_is) (c.deref.ensures.value ∙ ap (λ (e : Edits). e.added) c.edits.view_is) c.requires _ c.in_ok-due.ensures.answer in
    λ other. fails_30 c.args.edits.now c.args.committer c.args.path.now c.in_ok-due.due.items due (λ q. c.if-nodes-len.true (omega (arith, c.len.ensures, ap length c.as_slice-nodes.ensures, c.in_ok-due.due.ok.0, q))) ∙ ap (λ e. Err (number_of e)) (sym c.from.ensures)

pub returns-then-not-has_counts : goal.returns-then-not-has_counts
returns-then-not-has_counts c =
    let due = due_of c.args.edits.now c.args.committer (term c.as_tree-tree.result.now) c.deref.result.now (ap term c.as_tree-tree.ensures.tree ∙ ap (λ (e : Edits). e.tree) c.edits.view_is) (c.deref.ensures.value ∙ ap (λ (e : Edits). e.added) c.edits.view_is) c.requires _ c.in_ok-due.ensures.answer in
    λ other. fails_31 c.args.edits.now c.args.committer c.args.path.now c.in_ok-due.due.items due (omega (arith, c.len.ensures, ap length c.as_slice-nodes.ensures, c.in_ok-due.due.ok.0, c.if-nodes-len.false)) (rw (← c.as_slice-nodes.ensures, ← c.deref-2.ensures.value, ← c.has_counts.ensures) c.if-not-has_counts.true)

pub returns : goal.returns
returns c =
    let due = due_of c.args.edits.now c.args.committer (term c.as_tree-tree.result.now) c.deref.result.now (ap term c.as_tree-tree.ensures.tree ∙ ap (λ (e : Edits). e.tree) c.edits.view_is) (c.deref.ensures.value ∙ ap (λ (e : Edits). e.added) c.edits.view_is) c.requires _ c.in_ok-due.ensures.answer in
    passes c.args.edits.now c.args.committer c.args.path.now c.in_ok-due.due.items due (omega (arith, c.len.ensures, ap length c.as_slice-nodes.ensures, c.in_ok-due.due.ok.0, c.if-nodes-len.false)) (rw (← c.as_slice-nodes.ensures, ← c.deref-2.ensures.value, ← c.has_counts.ensures) c.if-not-has_counts.false)

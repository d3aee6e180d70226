use Rattle.std.proofs.Common.{refl, sym, ◌∙◌, ap, Err}
use Rattle.std.proofs.lemmas.Result.{err_from_is_err_and}
use Rattle.mls_types.specs.declared.group_context.GroupContext.{GroupContext}
use Rattle.mls_tree_model.specs.Term.{leaf_of}
use Rattle.mls_commit.specs.Faults.{number_of}
use Rattle.mls_commit.proofs.Paths.{replaced_in, path_miscounted, path_unfit, path_merged, merge_alike}
use Rattle.mls_commit.proofs.path.apply_update_path.Goals as goal

pub returns-in_err-require_counts-clause-answer : goal.returns-in_err-require_counts-clause-answer
returns-in_err-require_counts-clause-answer g c =
    let at = sym (c.in-Some.ensures ∙ ap (λ t. leaf_of t c.args.committer) c.tree.ensures) in
    let fine = replaced_in g.S.Suite.crypto c.args.path.now.leaf_node c.in-Some.old.now c.as_slice-group_id.result.now c.args.group.now.context.group_id c.args.committer (c.as_slice-group_id.ensures ∙ ap (λ (x : GroupContext). x.group_id) c.context.ensures) c.in_ok-check_replacement.ensures in
    let p = err_from_is_err_and c.from_residual-in_err-require_counts.result c.from_residual-in_err-require_counts.ensures.1 in
    rw (p.1, p.2) (λ other. path_miscounted g.S.Suite.crypto c.args.group.now c.args.committer c.args.edits.now c.args.path.now c.in-Some.old.now at fine _ (c.in_err-require_counts.ensures other))

pub returns-then-not-has_fit_keys-clause-answer : goal.returns-then-not-has_fit_keys-clause-answer
returns-then-not-has_fit_keys-clause-answer g c =
    let at = sym (c.in-Some.ensures ∙ ap (λ t. leaf_of t c.args.committer) c.tree.ensures) in
    let fine = replaced_in g.S.Suite.crypto c.args.path.now.leaf_node c.in-Some.old.now c.as_slice-group_id.result.now c.args.group.now.context.group_id c.args.committer (c.as_slice-group_id.ensures ∙ ap (λ (x : GroupContext). x.group_id) c.context.ensures) c.in_ok-check_replacement.ensures in
    λ other. path_unfit g.S.Suite.crypto c.args.group.now c.args.committer c.args.edits.now c.args.path.now c.in-Some.old.now at fine c.in_ok-require_counts.ensures (sym c.has_fit_keys.ensures ∙ c.if-not-has_fit_keys.true) ∙ ap (λ e. Err (number_of e)) (sym c.from-then-not-has_fit_keys.ensures)

pub returns-in_err-tree-clause-answer : goal.returns-in_err-tree-clause-answer
returns-in_err-tree-clause-answer g c =
    let at = sym (c.in-Some.ensures ∙ ap (λ t. leaf_of t c.args.committer) c.tree.ensures) in
    let fine = replaced_in g.S.Suite.crypto c.args.path.now.leaf_node c.in-Some.old.now c.as_slice-group_id.result.now c.args.group.now.context.group_id c.args.committer (c.as_slice-group_id.ensures ∙ ap (λ (x : GroupContext). x.group_id) c.context.ensures) c.in_ok-check_replacement.ensures in
    let same = merge_alike c.args.committer _ _ _ _ _ _ refl c.in_ok-leaf.ensures.cases c.in_ok-keys.ensures in
    let merges = path_merged g.S.Suite.crypto c.args.group.now c.args.committer c.args.edits.now c.args.path.now c.in-Some.old.now at fine c.in_ok-require_counts.ensures (sym c.has_fit_keys.ensures ∙ c.if-not-has_fit_keys.false) in
    let p = err_from_is_err_and c.from_residual-in_err-tree.result c.from_residual-in_err-tree.ensures.1 in
    rw (p.1, p.2) (λ other. merges ∙ sym same ∙ c.in_err-tree.ensures.answer other)

pub returns-clause-answer : goal.returns-clause-answer
returns-clause-answer g c =
    let at = sym (c.in-Some.ensures ∙ ap (λ t. leaf_of t c.args.committer) c.tree.ensures) in
    let fine = replaced_in g.S.Suite.crypto c.args.path.now.leaf_node c.in-Some.old.now c.as_slice-group_id.result.now c.args.group.now.context.group_id c.args.committer (c.as_slice-group_id.ensures ∙ ap (λ (x : GroupContext). x.group_id) c.context.ensures) c.in_ok-check_replacement.ensures in
    let same = merge_alike c.args.committer _ _ _ _ _ _ refl c.in_ok-leaf.ensures.cases c.in_ok-keys.ensures in
    let merges = path_merged g.S.Suite.crypto c.args.group.now c.args.committer c.args.edits.now c.args.path.now c.in-Some.old.now at fine c.in_ok-require_counts.ensures (sym c.has_fit_keys.ensures ∙ c.if-not-has_fit_keys.false) in
    merges ∙ sym same ∙ c.in_ok-tree.ensures.answer

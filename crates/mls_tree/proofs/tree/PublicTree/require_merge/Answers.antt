use Rattle.std.proofs.Common.{length, sym, ◌∙◌, ap}
use Rattle.mls_tree_model.specs.Node.{source_hash}
use Rattle.mls_tree_model.specs.Sets.{same_bytes, is_distinct}
use Rattle.mls_tree_model.specs.Hashes.{is_some_bytes}
use Rattle.mls_tree_model.specs.Keys.{encryption_keys}
use Rattle.mls_tree_model.specs.Merge.{merge_path}
use Rattle.mls_tree.specs.Tree.{term}
use Rattle.mls_tree.specs.Paths.{path_checks}
use Rattle.mls_tree.proofs.Pathing.{merge_unfit, merge_repeats, merge_untied, merge_fit}
use Rattle.mls_tree.proofs.tree.PublicTree.require_merge.Goals as goal

pub returns-in-Err-clause-checks : goal.returns-in-Err-clause-checks
returns-in-Err-clause-checks c =
    λ _. merge_unfit _ _ _ _ _ (ap (path_checks (term c.args.self.now) c.args.i) (sym (c.len.ensures ∙ c.args.keys.ok.0)) ∙ c.in-Err.ensures)

pub returns-then-not-differ-clause-checks : goal.returns-then-not-differ-clause-checks
returns-then-not-differ-clause-checks c =
    let fit = ap (path_checks (term c.args.self.now) c.args.i) (sym (c.len.ensures ∙ c.args.keys.ok.0)) ∙ c.in-Ok.ensures in
    let differ = ap (λ ks. is_distinct same_bytes (encryption_keys (merge_path (term c.args.self.now) c.args.i c.args.leaf.now ks))) (sym c.deref.ensures.value) ∙ sym c.in_ok-differ.ensures in
    λ _. merge_repeats _ _ _ _ fit (differ ∙ c.if-not-differ.true)

pub returns-then-not-right-clause-checks : goal.returns-then-not-right-clause-checks
returns-then-not-right-clause-checks c =
    let fit = ap (path_checks (term c.args.self.now) c.args.i) (sym (c.len.ensures ∙ c.args.keys.ok.0)) ∙ c.in-Ok.ensures in
    let differ = ap (λ ks. is_distinct same_bytes (encryption_keys (merge_path (term c.args.self.now) c.args.i c.args.leaf.now ks))) (sym c.deref.ensures.value) ∙ sym c.in_ok-differ.ensures in
    let tied = ap (is_some_bytes (source_hash c.args.leaf.now.source)) (sym (c.bytes_of.ensures ∙ c.in_ok-path.ensures.hash)) ∙ sym c.has_parent_hash-right.ensures in
    λ _. merge_untied _ _ _ _ fit (differ ∙ c.if-not-differ.false) (tied ∙ c.if-not-right.true)

pub returns-clause-checks : goal.returns-clause-checks
returns-clause-checks c =
    let fit = ap (path_checks (term c.args.self.now) c.args.i) (sym (c.len.ensures ∙ c.args.keys.ok.0)) ∙ c.in-Ok.ensures in
    let differ = ap (λ ks. is_distinct same_bytes (encryption_keys (merge_path (term c.args.self.now) c.args.i c.args.leaf.now ks))) (sym c.deref.ensures.value) ∙ sym c.in_ok-differ.ensures in
    let tied = ap (is_some_bytes (source_hash c.args.leaf.now.source)) (sym (c.bytes_of.ensures ∙ c.in_ok-path.ensures.hash)) ∙ sym c.has_parent_hash-right.ensures in
    merge_fit _ _ _ _ fit (differ ∙ c.if-not-differ.false) (tied ∙ c.if-not-right.false)

pub keys_differ-requires : goal.keys_differ-requires
keys_differ-requires c =
    ap (λ ks. path_checks (term c.args.self.now) c.args.i (length ks)) c.deref.ensures.value ∙ ap (path_checks (term c.args.self.now) c.args.i) (sym (c.len.ensures ∙ c.args.keys.ok.0)) ∙ c.in-Ok.ensures

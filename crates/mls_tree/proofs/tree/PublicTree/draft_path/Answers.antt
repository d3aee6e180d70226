use Rattle.std.specs.List.{each_same}
use Rattle.std.proofs.Common.{Ok, [], refl, reverse, sym, ◌∙◌, ap}
use Rattle.mls_tree_array.specs.Merging.{path_parents}
use Rattle.mls_tree_model.specs.Merge.{path_parent_hash}
use Rattle.mls_tree.specs.Paths.{path_checks}
use Rattle.mls_tree.specs.Tree.{term}
use Rattle.mls_tree.proofs.Pathing.{hash_refused, hash_found}
use Rattle.mls_tree.proofs.Chilling.{warmed, unchanged}
use Rattle.mls_tree.proofs.tree.PublicTree.draft_path.Goals as goal

pub returns-in-Err-clause-answer : goal.returns-in-Err-clause-answer
returns-in-Err-clause-answer c = λ _. hash_refused _ _ _ _ (ap (path_checks (term c.args.self.now) c.args.i) (sym (c.len.ensures ∙ c.args.keys.ok.0)) ∙ c.in-Err.ensures)

pub returns-in-Err-clause-warms : goal.returns-in-Err-clause-warms
returns-in-Err-clause-warms c = unchanged _ _ refl

pub returns-clause-answer : goal.returns-clause-answer
returns-clause-answer c =
    hash_found _ _ _ (ap (path_checks (term c.args.self.now) c.args.i) (sym (c.len.ensures ∙ c.args.keys.ok.0)) ∙ c.in-Ok.ensures)
    ∙ ap Ok (sym (c.in_ok-path.ensures.hash ∙ ap (λ t. path_parent_hash t c.args.i c.args.keys.items) c.tree_hash-tree_hash.ensures.same))

pub returns-clause-draft : goal.returns-clause-draft
returns-clause-draft c = record {
  index = refl;
  keys = each_same c.args.keys.items c.in_ok-given.given.items c.in_ok-given.ensures.cases.0;
  checks = ap (path_checks (term c.args.self.now) c.args.i) (sym (c.len.ensures ∙ c.args.keys.ok.0)) ∙ c.in-Ok.ensures;
  parents = c.in_ok-path.ensures.parents ∙ ap (λ t. path_parents 0 t c.args.i (reverse c.args.keys.items) []) c.tree_hash-tree_hash.ensures.same;
  hash = c.in_ok-path.ensures.hash ∙ ap (λ t. path_parent_hash t c.args.i c.args.keys.items) c.tree_hash-tree_hash.ensures.same;
}

pub returns-clause-warms : goal.returns-clause-warms
returns-clause-warms c = warmed c.args.self.now c.tree_hash-tree_hash.new.self c.tree_hash-tree_hash.ensures.all c.tree_hash-tree_hash.ensures.counted

pub returns-in_err-given-clause-warms : goal.returns-in_err-given-clause-warms
returns-in_err-given-clause-warms c = warmed c.args.self.now c.tree_hash-tree_hash.new.self c.tree_hash-tree_hash.ensures.all c.tree_hash-tree_hash.ensures.counted

pub returns-in_err-path-clause-warms : goal.returns-in_err-path-clause-warms
returns-in_err-path-clause-warms c = warmed c.args.self.now c.tree_hash-tree_hash.new.self c.tree_hash-tree_hash.ensures.all c.tree_hash-tree_hash.ensures.counted

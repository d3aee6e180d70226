use Rattle.std.proofs.Common.{rules, tests, ◌==◌, ◌∙◌, length, ℕ}
use Rattle.std.proofs.lemmas.Iterator.{YieldsList-from_slice, YieldsList-from_zip}
use Rattle.std.proofs.lemmas.Iterator.Search.{all_from_yields_List}
use Rattle.mls_types.specs.declared.update_path.UpdatePathNode.{UpdatePathNode}
use Rattle.mls_commit.proofs.Paths.{all_counts}
use Rattle.mls_commit.proofs.path.has_counts.Goals as goal

pub returns : goal.returns
returns c =
    all_from_yields_List (λ (p : UpdatePathNode × ℕ). length p.0.ciphertexts == p.1) c.all.new.self _ c.all.result c.all.ensures.ran
    (YieldsList-from_zip (YieldsList-from_slice c.args.nodes.now (cc)) (YieldsList-from_slice c.args.due.now (cc)))
    (λ x b q k. search (rules, tests))
    ∙ all_counts c.args.nodes.now c.args.due.now c.requires

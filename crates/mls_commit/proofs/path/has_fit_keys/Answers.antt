use Rattle.std.proofs.Common.{rules, tests, sym, ◌∙◌, ap}
use Rattle.std.specs.List.{list_all}
use Rattle.std.proofs.lemmas.Iterator.{YieldsList-from_slice}
use Rattle.std.proofs.lemmas.Iterator.Search.{all_from_yields_List}
use Rattle.mls_types.specs.declared.update_path.UpdatePathNode.{UpdatePathNode}
use Rattle.mls_commit.proofs.Mapped.{list_all-map}
use Rattle.mls_commit.proofs.path.has_fit_keys.Goals as goal

pub returns-then-key_ok : goal.returns-then-key_ok
returns-then-key_ok g c =
    let key_ok = g.S.Suite.crypto.key_ok in
    let fit = sym c.if-key_ok.true ∙ c.key_ok.ensures ∙ ap key_ok c.as_slice.ensures in
    rw (sym fit) (
    all_from_yields_List (λ (n : UpdatePathNode). g.S.Suite.crypto.key_ok n.encryption_key) _ _ c.all.result c.all.ensures.ran (YieldsList-from_slice c.as_slice-nodes.result.now cc) (λ x b q k. search (rules, tests))
    ∙ ap (list_all (λ (n : UpdatePathNode). g.S.Suite.crypto.key_ok n.encryption_key)) c.as_slice-nodes.ensures
    ∙ list_all-map (λ (n : UpdatePathNode). n.encryption_key) g.S.Suite.crypto.key_ok c.args.path.now.nodes)

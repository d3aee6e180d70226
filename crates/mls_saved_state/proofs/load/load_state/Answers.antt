use Rattle.std.proofs.Common.{◌≡◌, ◌^◌, ◌==◌, true}
use Rattle.std.proofs.lemmas.Result.{err_from_is_err_and}
use Rattle.mls_tree.specs.Tree.{term}
use Rattle.mls_public_group.proofs.Lengths.{short_context}
use Rattle.mls_saved_state.proofs.Lengths.{context_below, tree_below}
use Rattle.mls_saved_state.proofs.Loading.{is_so, state_is, keys_refused}
use Rattle.mls_saved_state.proofs.load.load_state.Goals as goal

pub saved_tree-requires-clause-context : goal.saved_tree-requires-clause-context
saved_tree-requires-clause-context g c = short_context c.args.saved.context (context_below (2 ^ 27) c.args.saved c.requires)

pub saved_tree-requires-clause-nodes : goal.saved_tree-requires-clause-nodes
saved_tree-requires-clause-nodes g c = tree_below (2 ^ 27) c.args.saved c.requires

pub state_of-requires-clause-context : goal.state_of-requires-clause-context
state_of-requires-clause-context g c = short_context c.args.saved.context (context_below (2 ^ 27) c.args.saved c.requires)

pub returns-in_err-check_keys : goal.returns-in_err-check_keys
returns-in_err-check_keys g c =
    let suite : (c.args.saved.context.cipher_suite == g.S.Suite.crypto.number) ≡ true = is_so 100 _ c.in_ok-check_suite.ensures in
    let p = err_from_is_err_and c.from_residual-in_err-check_keys.result c.from_residual-in_err-check_keys.ensures.1 in
    rw (p.1, p.2) (λ other.
    keys_refused g.S.Suite.crypto c.args.saved _ _ c.in_ok-keys.keys (term c.in_ok-tree.tree) _ suite c.in_ok-interim.ensures c.in_ok-epoch.ensures c.in_ok-keys.ensures c.in_ok-tree.ensures.answer (c.in_err-check_keys.ensures other))

pub returns : goal.returns
returns g c =
    let suite : (c.args.saved.context.cipher_suite == g.S.Suite.crypto.number) ≡ true = is_so 100 _ c.in_ok-check_suite.ensures in
    rw c.in_ok-state.ensures
    (state_is g.S.Suite.crypto c.args.saved _ _ c.in_ok-keys.keys (term c.in_ok-tree.tree) suite c.in_ok-interim.ensures c.in_ok-epoch.ensures c.in_ok-keys.ensures c.in_ok-tree.ensures.answer c.in_ok-check_keys.ensures)

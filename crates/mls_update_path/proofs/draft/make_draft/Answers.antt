use Rattle.std.proofs.Common.{ap, ◌∙◌, Some, ◌∷◌, []}
use Rattle.mls_update_path.proofs.Drafts.{chain_for, keys_for}
use Rattle.mls_update_path.proofs.draft.make_draft.Goals as goal

pub returns-clause-chain : goal.returns-clause-chain
returns-clause-chain g c =
    chain_for g.S.Suite.crypto c.args.tree.now c.args.index _ _ c.in-Ok.filtered.items c.deref.result.now c.in-Ok.ensures.answer c.deref.ensures.value c.path_seed.ensures c.in_ok-secrets.secrets c.in_ok-secrets.ensures.made

pub returns-clause-keys : goal.returns-clause-keys
returns-clause-keys g c =
    keys_for g.S.Suite.crypto c.args.tree.now c.args.index _ _ c.in-Ok.filtered.items c.deref.result.now c.in-Ok.ensures.answer c.deref.ensures.value c.path_seed.ensures c.leaf_count-leaves.result c.leaf_count-leaves.ensures c.leaf_count-leaves.type_inv
    _ c.new-keys.result c.make_path.new.self c.new-keys.ensures.leaf (c.new-keys.ensures.keys ∙ ap (λ sk. Some sk ∷ []) c.requires) c.in_ok-secrets.ensures.keys

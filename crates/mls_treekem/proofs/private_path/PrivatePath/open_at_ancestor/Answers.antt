use Rattle.std.proofs.lemmas.Result.{err_from_is_err_and}
use Rattle.std.proofs.Common.{reverse, ◌∙◌, ap}
use Rattle.std.proofs.lemmas.List.{nil_from_length}
use Rattle.mls_tree.specs.Tree.{term}
use Rattle.mls_treekem_model.specs.Open.{first_ciphertexts}
use Rattle.mls_treekem.specs.Place.{subtree_at}
use Rattle.mls_treekem.proofs.Opening.{here_ok, here_err, here_missing, last_first}
use Rattle.mls_treekem.proofs.private_path.PrivatePath.open_at_ancestor.Goals as goal

pub returns-in_default : goal.returns-in_default
returns-in_default g c =
    λ ss long _.
    here_missing g.S.Suite.crypto c.args.context.now c.args.added.now (term c.args.tree.now) c.args.height c.args.place.now c.requires.placed c.args.self.now ss long c.args.path.now (nil_from_length _ c.in_default.ensures.cases)

pub returns : goal.returns
returns g c =
    λ ss long.
    here_ok g.S.Suite.crypto c.args.context.now c.args.added.now (term c.args.tree.now) c.args.height c.args.place.now c.requires.placed c.args.self.now ss long c.deref.result.now (reverse c.args.path.now) c.in-Some.node.now.ciphertexts
    c.in_ok-secret.secret c.in_ok-above.above.items
    (c.deref.ensures.value ∙ c.in_ok-nodes.ensures)
    (ap first_ciphertexts (last_first _ _ _ c.in-Some.ensures.cases.0))
    (c.in_ok-secret.ensures (subtree_at (term c.args.tree.now) c.args.place.now.beside) c.requires.placed.perfect)
    c.in_ok-above.ensures

pub returns-in_err-secret : goal.returns-in_err-secret
returns-in_err-secret g c =
    let p = err_from_is_err_and c.from_residual-in_err-secret.result c.from_residual-in_err-secret.ensures.1 in
    rw (p.1, p.2) (λ ss long ne.
    here_err g.S.Suite.crypto c.args.context.now c.args.added.now (term c.args.tree.now) c.args.height c.args.place.now c.requires.placed c.args.self.now ss long c.deref.result.now (reverse c.args.path.now) c.in-Some.node.now.ciphertexts _
    (c.deref.ensures.value ∙ c.in_ok-nodes.ensures)
    (ap first_ciphertexts (last_first _ _ _ c.in-Some.ensures.cases.0))
    (c.in_err-secret.ensures (subtree_at (term c.args.tree.now) c.args.place.now.beside) c.requires.placed.perfect ne))

use Rattle.std.proofs.lemmas.Result.{err_from_is_err_and}
use Rattle.std.proofs.Common.{ap, ◌∙◌, length}
use Rattle.mls_tree.specs.Tree.{term}
use Rattle.mls_treekem.specs.Place.{subtree_at}
use Rattle.mls_treekem.proofs.Sealing.{length-sealed, given_some, of_keys}
use Rattle.mls_treekem.proofs.seal.Sealer.seal_node.Goals as goal

pub returns-clause-seals : goal.returns-clause-seals
returns-clause-seals g c =
    ap length c.from_vec-2.ensures
    ∙ length-sealed g.S.Suite.crypto c.args.self.now.context.now c.in-Some.secret.now c.args.place.now.first (subtree_at (term c.args.self.now.tree.now) c.args.place.now.beside) c.args.self.now.seed.now c.args.first _ c.in_ok-ciphertexts.ciphertexts.items (given_some _ _ c.in_ok-ciphertexts.ensures)

pub returns-in_err-ciphertexts-clause-refused : goal.returns-in_err-ciphertexts-clause-refused
returns-in_err-ciphertexts-clause-refused g c =
    let p = err_from_is_err_and c.from_residual.result c.from_residual.ensures.1 in
    rw (p.1, p.2) (of_keys _ c.in_err-ciphertexts.field-0.0 c.in_err-ciphertexts.ensures)

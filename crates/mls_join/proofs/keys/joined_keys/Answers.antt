use Rattle.std.proofs.Common.{sym, ap, ◌∙◌}
use Rattle.std.proofs.lemmas.Result.{err_from_is_err_and}
use Rattle.mls_tree.specs.Tree.{term}
use Rattle.mls_treekem_model.specs.Join.{has_due, take_answer}
use Rattle.mls_treekem_model.specs.Keys.{PrivateKeys}
use Rattle.mls_join.proofs.Joining.{alone_at, alone_is, taken, refused, due, missing}
use Rattle.mls_join.proofs.keys.joined_keys.Goals as goal

pub returns-in_err-require_keys : goal.returns-in_err-require_keys
returns-in_err-require_keys g c =
    let is = alone_is c.new-keys.result c.args.place c.args.own.now c.new-keys.ensures.leaf c.new-keys.ensures.keys in
    let p = err_from_is_err_and c.from_residual.result c.from_residual.ensures.1 in
    rw (p.1, p.2, c.in_err-require_keys.ensures.0, c.in_default.is)
    (λ _. missing g.S.Suite.crypto (term c.args.tree.now) c.args.signer (alone_at c.args.place c.args.own.now) (ap (has_due (term c.args.tree.now)) (sym is) ∙ c.in_err-require_keys.ensures.1))

pub returns-in_default : goal.returns-in_default
returns-in_default g c =
    let is = alone_is c.new-keys.result c.args.place c.args.own.now c.new-keys.ensures.leaf c.new-keys.ensures.keys in
    rw (c.in_default.is, is) (due g.S.Suite.crypto (term c.args.tree.now) c.args.signer (alone_at c.args.place c.args.own.now) (ap (has_due (term c.args.tree.now)) (sym is) ∙ c.in_ok-require_keys.ensures))

pub returns-in_err-_commit_secret : goal.returns-in_err-_commit_secret
returns-in_err-_commit_secret g c =
    let is = alone_is c.new-keys.result c.args.place c.args.own.now c.new-keys.ensures.leaf c.new-keys.ensures.keys in
    let p = err_from_is_err_and c.from_residual-in_err-_commit_secret.result c.from_residual-in_err-_commit_secret.ensures.1 in
    rw (p.1, p.2, c.in-Some.is)
    (λ ne. refused g.S.Suite.crypto (term c.args.tree.now) c.args.signer (alone_at c.args.place c.args.own.now) _ _
    (ap (λ (k : PrivateKeys). take_answer g.S.Suite.crypto (term c.args.tree.now) c.args.signer k.leaf k.own c.in-Some.secret) (sym is) ∙ c.in_err-_commit_secret.ensures.answer ne))

pub returns : goal.returns
returns g c =
    let is = alone_is c.new-keys.result c.args.place c.args.own.now c.new-keys.ensures.leaf c.new-keys.ensures.keys in
    rw c.in-Some.is
    (taken g.S.Suite.crypto (term c.args.tree.now) c.args.signer (alone_at c.args.place c.args.own.now) _ _ _
    (ap (λ (k : PrivateKeys). take_answer g.S.Suite.crypto (term c.args.tree.now) c.args.signer k.leaf k.own c.in-Some.secret) (sym is) ∙ c.in_ok-_commit_secret.ensures.answer)
    (c.in_ok-_commit_secret.ensures.leaf ∙ ap (λ (k : PrivateKeys). k.leaf) is))

use Rattle.std.proofs.Common.{◌∙◌, refl, subst, sym}
use Rattle.mls_wire.specs.Checks.{Answers}
use Rattle.mls_tree.specs.Tree.{term}
use Rattle.mls_treekem.specs.Faults.{number_of}
use Rattle.mls_treekem.specs.Sealing.{SealsPath, SealsChain}
use Rattle.mls_treekem.specs.Secrets.{public_keys}
use Rattle.mls_treekem.proofs.Joiners.{if_ok_map}
use Rattle.mls_treekem.proofs.Sealing.{chain_path, whole_path, whole_seals}
use Rattle.mls_treekem.proofs.seal.seal_path.Goals as goal

pub returns-clause-answer : goal.returns-clause-answer
returns-clause-answer g c =
    subst (λ seed. SealsPath g.S.Suite.crypto c.args.context.now c.args.added.now seed c.args.path.now c.args.tree.now c.args.committer c.seal_places.result) c.new-key.ensures
    (subst (λ z. Answers (λ v. v.items) number_of z c.seal_places.result)
    (sym (whole_path (term c.args.tree.now) c.args.committer c.in_ok-places.places.items c.deref.result.now c.in_ok-places.ensures c.deref.ensures.value g.S.Suite.crypto c.args.context.now c.args.added.now c.new-key.result c.args.path.now.secrets.items (public_keys c.args.path.now) _ refl))
    c.seal_places.ensures.answer)

pub returns-clause-chain : goal.returns-clause-chain
returns-clause-chain g c =
    subst (λ seed. SealsChain g.S.Suite.crypto c.args.context.now c.args.added.now seed c.args.path.now c.args.tree.now c.args.committer c.seal_places.result) c.new-key.ensures
    (λ start made.
    subst (λ z. Answers (λ v. v.items) number_of z c.seal_places.result)
    (sym
    (chain_path g.S.Suite.crypto c.args.context.now c.args.added.now c.new-key.result (term c.args.tree.now) c.args.committer start c.args.path.now made
    ∙ whole_path (term c.args.tree.now) c.args.committer c.in_ok-places.places.items c.deref.result.now c.in_ok-places.ensures c.deref.ensures.value g.S.Suite.crypto c.args.context.now c.args.added.now c.new-key.result c.args.path.now.secrets.items (public_keys c.args.path.now) _ refl))
    c.seal_places.ensures.answer)

pub returns-clause-seals : goal.returns-clause-seals
returns-clause-seals g c =
    if_ok_map _ _ c.seal_places.result (λ v h. whole_seals (term c.args.tree.now) c.args.committer c.in_ok-places.places.items c.deref.result.now c.in_ok-places.ensures c.deref.ensures.value c.args.added.now _ h) c.seal_places.ensures.seals

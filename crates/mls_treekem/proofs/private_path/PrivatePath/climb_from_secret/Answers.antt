use Rattle.std.proofs.lemmas.Result.{err_from_is_err_and}
use Rattle.std.proofs.Common.{◌≤◌, ◌<◌, ◌∙◌, ap, reverse, map, arith}
use Rattle.mls_tree_model.specs.Term.{width, height}
use Rattle.mls_tree.specs.Tree.{Tree, term}
use Rattle.mls_tree.proofs.Perfect.{perfect}
use Rattle.mls_treekem_model.specs.Make.{Climb}
use Rattle.mls_treekem_model.specs.Join.{is_complete}
use Rattle.mls_treekem.specs.Place.{IsWay, step_of}
use Rattle.mls_treekem.proofs.Followed.{way_read}
use Rattle.mls_treekem.proofs.Taking.{take_outside, take_whole, take_missing, take_refused, take_low}
use Rattle.mls_treekem.proofs.private_path.PrivatePath.climb_from_secret.Goals as goal

pub returns-then-signer-leaf_count-clause-answer : goal.returns-then-signer-leaf_count-clause-answer
returns-then-signer-leaf_count-clause-answer g c = λ _.
    let out : width (term c.args.tree.now) ≤ c.args.signer = omega arith in
    take_outside g.S.Suite.crypto (term c.args.tree.now) c.args.signer c.args.self.now.leaf c.args.self.now.own c.args.secret.now out

pub returns-in_err-climb-clause-answer : goal.returns-in_err-climb-clause-answer
returns-in_err-climb-clause-answer g c =
    let p = err_from_is_err_and c.from_residual-in_err-climb.result c.from_residual-in_err-climb.ensures.1 in
    rw (p.1, p.2) (λ memory.
    let tree : Tree = c.args.tree.now in
    let inside : c.args.signer < width (term tree) = omega arith in
    let signers : IsWay (term tree) c.args.signer c.deref.result.now = way_read (term tree) c.args.signer c.in_ok-signers.signers.items c.deref.result.now c.in_ok-signers.ensures c.deref.ensures.value in
    let joiners : IsWay (term tree) c.leaf-joiner.result c.in_ok-joiners.joiners.items = c.in_ok-joiners.ensures in
    take_refused g.S.Suite.crypto (height (term tree)) (term tree) (perfect tree) c.args.signer c.leaf-joiner.result c.args.self.now.leaf c.leaf-joiner.ensures c.args.self.now.own c.args.secret.now
    c.deref.result.now c.in_ok-joiners.joiners.items signers joiners inside _ (c.in_err-climb.ensures memory))

pub returns-then-not-is_complete-clause-answer : goal.returns-then-not-is_complete-clause-answer
returns-then-not-is_complete-clause-answer g c = λ _.
    let tree : Tree = c.args.tree.now in
    let inside : c.args.signer < width (term tree) = omega arith in
    let signers : IsWay (term tree) c.args.signer c.deref.result.now = way_read (term tree) c.args.signer c.in_ok-signers.signers.items c.deref.result.now c.in_ok-signers.ensures c.deref.ensures.value in
    let joiners : IsWay (term tree) c.leaf-joiner.result c.deref-2.result.now = way_read (term tree) c.leaf-joiner.result c.in_ok-joiners.joiners.items c.deref-2.result.now c.in_ok-joiners.ensures c.deref-2.ensures.value in
    let done = c.is_complete.ensures ∙ ap (λ ks. is_complete c.leaf-joiner.result (map (step_of (term tree)) c.deref-2.result.now) (reverse ks)) c.deref-3.ensures.value
    ∙ ap (λ (m : Climb). is_complete c.leaf-joiner.result (map (step_of (term tree)) c.deref-2.result.now) m.keys) c.climb.view_is in
    take_missing g.S.Suite.crypto (height (term tree)) (term tree) (perfect tree) c.args.signer c.leaf-joiner.result c.args.self.now.leaf c.leaf-joiner.ensures c.args.self.now.own c.args.secret.now
    c.deref.result.now c.deref-2.result.now signers joiners inside c.in_ok-climb.climb c.is_complete.result c.in_ok-climb.ensures done c.if-not-is_complete.true

pub returns-clause-answer : goal.returns-clause-answer
returns-clause-answer g c =
    let tree : Tree = c.args.tree.now in
    let inside : c.args.signer < width (term tree) = omega arith in
    let signers : IsWay (term tree) c.args.signer c.deref.result.now = way_read (term tree) c.args.signer c.in_ok-signers.signers.items c.deref.result.now c.in_ok-signers.ensures c.deref.ensures.value in
    let joiners : IsWay (term tree) c.leaf-joiner.result c.deref-2.result.now = way_read (term tree) c.leaf-joiner.result c.in_ok-joiners.joiners.items c.deref-2.result.now c.in_ok-joiners.ensures c.deref-2.ensures.value in
    let done = c.is_complete.ensures ∙ ap (λ ks. is_complete c.leaf-joiner.result (map (step_of (term tree)) c.deref-2.result.now) (reverse ks)) c.deref-3.ensures.value
    ∙ ap (λ (m : Climb). is_complete c.leaf-joiner.result (map (step_of (term tree)) c.deref-2.result.now) m.keys) c.climb.view_is in
    take_whole g.S.Suite.crypto (height (term tree)) (term tree) (perfect tree) c.args.signer c.leaf-joiner.result c.args.self.now.leaf c.leaf-joiner.ensures c.args.self.now.own c.args.secret.now
    c.deref.result.now c.deref-2.result.now signers joiners inside c.in_ok-climb.climb c.is_complete.result c.in_ok-climb.ensures done c.if-not-is_complete.false

pub returns-clause-low : goal.returns-clause-low
returns-clause-low g c =
    let tree : Tree = c.args.tree.now in
    let inside : c.args.signer < width (term tree) = omega arith in
    let signers : IsWay (term tree) c.args.signer c.deref.result.now = way_read (term tree) c.args.signer c.in_ok-signers.signers.items c.deref.result.now c.in_ok-signers.ensures c.deref.ensures.value in
    let joiners : IsWay (term tree) c.leaf-joiner.result c.in_ok-joiners.joiners.items = c.in_ok-joiners.ensures in
    take_low g.S.Suite.crypto (height (term tree)) (term tree) (perfect tree) c.args.signer c.leaf-joiner.result c.args.self.now.leaf c.leaf-joiner.ensures c.args.self.now.own c.args.secret.now
    c.deref.result.now c.in_ok-joiners.joiners.items signers joiners inside c.in_ok-climb.climb c.in_ok-climb.ensures

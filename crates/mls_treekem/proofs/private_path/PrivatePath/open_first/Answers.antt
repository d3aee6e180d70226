use Rattle.std.proofs.Common.{drop, refl, sym, ◌∙◌, ◌+◌, arith, subst, List}
use Rattle.std.proofs.lemmas.List.{drop-drop}
use Rattle.mls_types.specs.declared.update_path.HpkeCiphertext.{HpkeCiphertext}
use Rattle.mls_types.specs.Ciphertexts.{ciphertext_lent}
use Rattle.mls_treekem.specs.Faults.{number_of}
use Rattle.mls_treekem.proofs.Opening.{SameFirst, answers_by, from_number, lent_is, lent_none, none_from, same_end, same_added, same_other, same_missing, same_held}
use Rattle.mls_treekem.proofs.private_path.PrivatePath.open_first.Goals as goal

pub loop-node-init : goal.loop-node-init
loop-node-init g c = record { same = λ t e. refl; few = omega arith }

pub loop-node-preserved-then-is_leaf_among : goal.loop-node-preserved-then-is_leaf_among
loop-node-preserved-then-is_leaf_among g c = record {
  same = same_added g.S.Suite.crypto c.args.context.now c.args.height c.args.first c.args.self.now c.args.added.now c.args.nodes.now c.args.ciphertexts.now c.loop-node.node-index (drop c.loop-node.number c.args.ciphertexts.now) c.loop-node.invariant.same c.loop-node-test.true
      (sym c.is_leaf_among.ensures ∙ c.if-is_leaf_among.true);
  few = omega (arith, c.loop-node.invariant.few);
}

pub returns-in_default-get : goal.returns-in_default-get
returns-in_default-get g c =
    λ t e _.
    same_missing g.S.Suite.crypto c.args.context.now c.args.height c.args.first c.args.self.now c.args.added.now c.args.nodes.now c.args.ciphertexts.now c.loop-node.node-index (drop c.loop-node.number c.args.ciphertexts.now) c.loop-node.invariant.same c.loop-node-test.true
    (sym c.is_leaf_among.ensures ∙ c.if-is_leaf_among.false) (none_from c.args.ciphertexts.now c.loop-node.number (lent_none c.get.result c.args.ciphertexts.now c.loop-node.number c.get.ensures c.in_default-get.is)) t e

pub returns-in-Some : goal.returns-in-Some
returns-in-Some g c =
    λ t e.
    answers_by (λ s. s) number_of _ _ _
    (sym (same_held g.S.Suite.crypto c.args.context.now c.args.height c.args.first c.args.self.now c.args.added.now c.args.nodes.now c.args.ciphertexts.now c.loop-node.node-index (drop c.loop-node.number c.args.ciphertexts.now) c.loop-node.invariant.same c.loop-node-test.true
    (ciphertext_lent c.in-Some-get.sealed) (drop 1 (drop c.loop-node.number c.args.ciphertexts.now)) c.key_of.result c.in-Some.key (sym c.is_leaf_among.ensures ∙ c.if-is_leaf_among.false)
    (from_number c.args.ciphertexts.now c.loop-node.number _ (lent_is c.get.result c.args.ciphertexts.now c.loop-node.number c.in-Some-get.sealed c.get.ensures c.in-Some-get.is)) c.key_of.ensures c.in-Some.is t e))
    c.open_secret.ensures

pub loop-node-preserved : goal.loop-node-preserved
loop-node-preserved g c = record {
  same = subst (λ (ys : List HpkeCiphertext). SameFirst g.S.Suite.crypto c.args.context.now c.args.height c.args.first c.args.self.now c.args.added.now c.args.nodes.now c.args.ciphertexts.now (c.loop-node.node-index + 1) ys)
      (drop-drop 1 c.loop-node.number c.args.ciphertexts.now)
      (same_other g.S.Suite.crypto c.args.context.now c.args.height c.args.first c.args.self.now c.args.added.now c.args.nodes.now c.args.ciphertexts.now c.loop-node.node-index (drop c.loop-node.number c.args.ciphertexts.now) c.loop-node.invariant.same c.loop-node-test.true
      c.key_of.result (sym c.is_leaf_among.ensures ∙ c.if-is_leaf_among.false) c.key_of.ensures c.in_default.is);
  few = omega (arith, c.loop-node.invariant.few);
}

pub returns : goal.returns
returns g c =
    λ t e _.
    same_end g.S.Suite.crypto c.args.context.now c.args.height c.args.first c.args.self.now c.args.added.now c.args.nodes.now c.args.ciphertexts.now c.loop-node.node-index (drop c.loop-node.number c.args.ciphertexts.now) c.loop-node.invariant.same c.loop-node-test.false t e

use Rattle.std.proofs.Common.{length, refl, arith, subst, sym, ap, ◌∙◌}
use Rattle.mls_treemath.proofs.Sizes.{nodes_in-zero}
use Rattle.mls_tree.proofs.KeptHashes.{cold_by}
use Rattle.mls_tree.proofs.Bounding.{unknown}
use Rattle.mls_tree_model.specs.Good.{IsGood}
use Rattle.mls_tree_model.proofs.KeptLaws.{good_single}
use Rattle.mls_tree.proofs.Singles.{single_stands}
use Rattle.mls_tree_model.proofs.ArrayLaws.{size-term_of}
use Rattle.mls_tree.proofs.Chilling.{new_tree}
use Rattle.mls_tree.proofs.tree.PublicTree.single.Goals as goal

pub invariant_of-result : goal.invariant_of-result
invariant_of-result c =
    let one = rw (c.in_ok-nodes.ensures.items, c.into_slot.ensures, c.in_ok-leaf.ensures) at c.in_ok-push.ensures.items in
    let stands = single_stands c.args.leaf _ (ap (λ r. r.nodes) c.in_ok-cells.ensures ∙ one) in
    (stands.stands, omega arith, cold_by 0 _ _ _ (ap (λ r. r.hashes) c.in_ok-cells.ensures) (ap length one ∙ sym nodes_in-zero), unknown 0 1 _ refl, c.in_ok-indexes.ensures)

pub returns-clause-tree : goal.returns-clause-tree
returns-clause-tree c =
    let one = rw (c.in_ok-nodes.ensures.items, c.into_slot.ensures, c.in_ok-leaf.ensures) at c.in_ok-push.ensures.items in
    (single_stands c.args.leaf _ (ap (λ r. r.nodes) c.in_ok-cells.ensures ∙ one)).term

pub returns-clause-good : goal.returns-clause-good
returns-clause-good c rules room new =
    subst (IsGood rules) (sym (returns-clause-tree c)) (good_single rules c.args.leaf room new)

pub returns-clause-cold : goal.returns-clause-cold
returns-clause-cold c =
    let one = rw (c.in_ok-nodes.ensures.items, c.into_slot.ensures, c.in_ok-leaf.ensures) at c.in_ok-push.ensures.items in
    new_tree _ _ (ap (λ r. r.hashes) c.in_ok-cells.ensures) (ap length one ∙ sym (size-term_of 0 _ ∙ nodes_in-zero)) refl

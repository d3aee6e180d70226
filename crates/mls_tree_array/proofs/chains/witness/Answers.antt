use Rattle.std.proofs.Common.{◌≡◌, Some, None, sym, ◌∙◌}
use Rattle.mls_tree_array.specs.Witnesses.{candidate}
use Rattle.mls_tree_array.proofs.WitnessLaws.{no_witness, the_witness, not_witness}
use Rattle.mls_tree_array.proofs.chains.witness.Goals as goal

pub returns-in-None : goal.returns-in-None
returns-in-None c =
    let none : None ≡ candidate c.args.parent.now c.args.side.now.first c.args.side.now.term = cc (c.in_ok-node.ensures, c.in-None.is) in
    no_witness c.args.parent.now c.args.side.now.first c.args.side.now.term c.args.other.now.first c.args.other.now.term none

pub returns-then-not-has_hash : goal.returns-then-not-has_hash
returns-then-not-has_hash c =
    let some : Some c.in-Some.node ≡ candidate c.args.parent.now c.args.side.now.first c.args.side.now.term = cc (c.in_ok-node.ensures, c.in-Some.is) in
    not_witness c.args.parent.now c.args.side.now.first c.args.other.now.first c.in-Some.node c.args.side.now.term c.args.other.now.term _ _ _ _ _ some c.encryption_key.ensures c.parent_hash.ensures c.unmerged_leaves.ensures.entries c.rehashed_original-sibling.ensures c.sibling_hash-hash.ensures (sym c.has_hash.ensures ∙ c.if-not-has_hash.true)

pub returns-else-not-has_hash : goal.returns-else-not-has_hash
returns-else-not-has_hash c =
    let some : Some c.in-Some.node ≡ candidate c.args.parent.now c.args.side.now.first c.args.side.now.term = cc (c.in_ok-node.ensures, c.in-Some.is) in
    the_witness c.args.parent.now c.args.side.now.first c.args.other.now.first c.in-Some.node c.args.side.now.term c.args.other.now.term _ _ _ _ _ some c.encryption_key.ensures c.parent_hash.ensures c.unmerged_leaves.ensures.entries c.rehashed_original-sibling.ensures c.sibling_hash-hash.ensures (sym c.has_hash.ensures ∙ c.if-not-has_hash.false)

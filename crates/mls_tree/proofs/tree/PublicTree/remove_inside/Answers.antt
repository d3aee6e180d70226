use Rattle.std.proofs.Common.{arith, ap, refl}
use Rattle.mls_tree.specs.Tree.{term}
use Rattle.mls_tree.proofs.KeptHashes.{kept_long, kept-put}
use Rattle.mls_tree.proofs.Removing.{blanked, removed_inside}
use Rattle.mls_tree.proofs.Chilling.{edited_in}
use Rattle.mls_tree.proofs.tree.PublicTree.remove_inside.Goals as goal

pub put_with_indexes-requires-clause-long : goal.put_with_indexes-requires-clause-long
put_with_indexes-requires-clause-long c = kept_long c.self.inside.height c.self.inside.cells.nodes _ c.self.invariant.2

pub returns-clause-tree : goal.returns-clause-tree
returns-clause-tree c =
    removed_inside _ _ _ _ _ (ap term c.self.view_is) c.self.invariant.3 c.args.i c.args.end c.requires.member c.requires.end _ c.in_ok-put_with_indexes.ensures.ok.nodes c.requires.last

pub returns-clause-cold : goal.returns-clause-cold
returns-clause-cold c =
    edited_in c.self.inside.height c.args.i c.self.inside.cells.nodes _ _ _ c.self.view_is c.self.invariant.2 c.requires.member _ _ _ c.in_ok-put_with_indexes.ensures.ok.hashes refl

pub invariant_of-self : goal.invariant_of-self
invariant_of-self c =
    let indexed = c.put_with_indexes.ensures.indexes c.self.invariant.4 in
    rw c.in_err-put_with_indexes.ensures.err (c.self.invariant.0, c.self.invariant.1, c.self.invariant.2, c.self.invariant.3, rw c.in_err-put_with_indexes.ensures.err at indexed)

pub invariant_of-self-2 : goal.invariant_of-self-2
invariant_of-self-2 c =
    let put_leaf = c.in_ok-put_with_indexes.ensures.ok in
    let kept = kept-put _ _ _ c.self.invariant.2 _ _ _ _ _ put_leaf.hashes put_leaf.nodes in
    (put_leaf.nodes.stands, c.self.invariant.1, kept, blanked _ _ _ _ _ (ap term c.self.view_is) c.self.invariant.3 c.args.i c.args.end c.requires.member c.requires.end _ _ put_leaf.nodes (omega arith) (omega arith), c.put_with_indexes.ensures.indexes c.self.invariant.4)

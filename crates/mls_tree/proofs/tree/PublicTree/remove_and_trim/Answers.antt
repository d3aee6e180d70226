use Rattle.std.proofs.Common.{arith, ap, ◌∙◌, sym, refl, None}
use Rattle.mls_tree_model.specs.Edits.{put, trim}
use Rattle.mls_tree_model.proofs.Equations.{remove_is}
use Rattle.mls_tree.specs.Tree.{term}
use Rattle.mls_tree.proofs.KeptHashes.{kept_long, kept-put, kept-trimmed}
use Rattle.mls_tree.proofs.Indexing.{same_indexes}
use Rattle.mls_tree.proofs.Bounding.{removed, removal_end}
use Rattle.mls_tree.proofs.Removing.{ended_here}
use Rattle.mls_tree.proofs.Chilling.{trimmed_in}
use Rattle.mls_tree.proofs.tree.PublicTree.remove_and_trim.Goals as goal

pub put_with_indexes-requires-clause-long : goal.put_with_indexes-requires-clause-long
put_with_indexes-requires-clause-long c = kept_long c.self.inside.height c.self.inside.cells.nodes _ c.self.invariant.2

pub end_of_members-end-requires : goal.end_of_members-end-requires
end_of_members-end-requires c =
    let bounds = ended_here _ _ _ _ _ (ap term c.self.view_is) c.self.invariant.3 c.args.i c.args.end c.requires.member c.requires.end in
    rw c.of.ensures (removal_end _ _ _ _ _ (ap term c.self.view_is) bounds _ _ _ _ refl c.in_ok-put_with_indexes.ensures.ok.nodes c.requires.member)

pub trim-self-inside-requires-clause-own : goal.trim-self-inside-requires-clause-own
trim-self-inside-requires-clause-own c = c.put_with_indexes.ensures.own c.in_ok-make_own.ensures.own

pub returns-clause-tree : goal.returns-clause-tree
returns-clause-tree c =
    c.trim-self-inside.ensures.order.term
    ∙ ap trim c.in_ok-put_with_indexes.ensures.ok.nodes.term
    ∙ ap (λ t. trim (put 0 (term t) c.args.i None)) c.self.view_is
    ∙ sym (remove_is _ c.args.i)

pub returns-clause-cold : goal.returns-clause-cold
returns-clause-cold c =
    trimmed_in c.self.inside.height c.args.i c.self.inside.cells.nodes _ _ _ c.self.view_is c.self.invariant.2 c.requires.member _ _ _ _ _ _ c.in_ok-put_with_indexes.ensures.ok.hashes c.trim-self-inside.ensures.hashes refl c.trim-self-inside.ensures.low refl

pub invariant_of-self : goal.invariant_of-self
invariant_of-self c =
    (c.self.invariant.0, c.self.invariant.1, c.self.invariant.2, c.self.invariant.3, same_indexes c.self.inside.cells.nodes _ _ c.in_err-make_own.ensures.same c.self.invariant.4)

pub invariant_of-self-in_err-put_with_indexes : goal.invariant_of-self-in_err-put_with_indexes
invariant_of-self-in_err-put_with_indexes c =
    let own = same_indexes c.self.inside.cells.nodes _ _ c.in_ok-make_own.ensures.same c.self.invariant.4 in
    let indexed = c.put_with_indexes.ensures.indexes own in
    rw c.in_err-put_with_indexes.ensures.err (c.self.invariant.0, c.self.invariant.1, c.self.invariant.2, c.self.invariant.3, rw c.in_err-put_with_indexes.ensures.err at indexed)

pub invariant_of-self-2 : goal.invariant_of-self-2
invariant_of-self-2 c =
    let low = c.self.invariant.1 in
    let small = c.trim-self-inside.ensures.low in
    let put_leaf = c.in_ok-put_with_indexes.ensures.ok in
    let kept = kept-put _ _ _ c.self.invariant.2 _ _ _ _ _ put_leaf.hashes put_leaf.nodes in
    let own = same_indexes c.self.inside.cells.nodes _ _ c.in_ok-make_own.ensures.same c.self.invariant.4 in
    let blanked = c.put_with_indexes.ensures.indexes own in
    (c.trim-self-inside.ensures.order.stands, omega arith, kept-trimmed _ _ _ _ _ _ _ kept c.trim-self-inside.ensures.order (sym c.trim-self-inside.ensures.order.stands.size) c.trim-self-inside.ensures.hashes, removed _ _ _ _ _ (ap term c.self.view_is) c.self.invariant.3 _ _ _ _ _ _ _ _ refl put_leaf.nodes c.trim-self-inside.ensures.order c.requires.member (omega arith) (omega arith) (rw c.of.ensures at c.end_of_members-end.ensures), c.trim-self-inside.ensures.indexes blanked)

use Rattle.std.proofs.Common.{arith, refl}
use Rattle.mls_treemath.proofs.Moves.{tree_of, no_tree}
use Rattle.mls_secret_tree.proofs.Nodes.{first_some, first_none}
use Rattle.mls_secret_tree.proofs.tree.SecretTree.new.Goals as goal
use Rattle.mls_secret_tree.proofs.tree.SecretTree.new.Goals.{else-height-le-MAX_HEIGHT-via-then-height-le-MAX_HEIGHT+else-leaves-height, else-height-le-MAX_HEIGHT-via-else-height-le-MAX_HEIGHT}

pub returns-then-leaves-height : goal.returns-then-leaves-height
returns-then-leaves-height c =
    let tree = tree_of _ _ c.if-height-le-MAX_HEIGHT.true c.if-leaves-height.true in
    first_some _ _ _ _ tree.is c.whole.ensures

pub returns-else-height-le-MAX_HEIGHT : goal.returns-else-height-le-MAX_HEIGHT
returns-else-height-le-MAX_HEIGHT c = first_none _ _ (no_tree _ _ refl (λ low is.
    elim c.else-height-le-MAX_HEIGHT.branch [
      | else-height-le-MAX_HEIGHT-via-then-height-le-MAX_HEIGHT+else-leaves-height w ↦ w.if-leaves-height.false is
      | else-height-le-MAX_HEIGHT-via-else-height-le-MAX_HEIGHT w ↦ absurd (omega arith)
    ]))

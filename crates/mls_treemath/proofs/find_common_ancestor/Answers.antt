use Rattle.std.proofs.Common.{◌≡◌, suc, ◌-◌, ◌<◌, ◌≤◌, arith}
use Rattle.std.proofs.lemmas.Nat.{one_shl}
use Rattle.mls_treemath.specs.Limits.{max_height}
use Rattle.mls_treemath.specs.Steps.{IsTreeOf}
use Rattle.mls_treemath.proofs.Meeting.{reached_root, step_low, step_high, at_leaf}
use Rattle.mls_treemath.proofs.find_common_ancestor.Goals as goal

pub loop-below-init : goal.loop-below-init
loop-below-init c = reached_root _ _ _ _ c.requires.tree c.requires.first c.requires.second

pub overflow_shl-distance : goal.overflow_shl-distance
overflow_shl-distance c =
    let t : IsTreeOf c.args.n c.args.height = c.requires.tree in
    let within : c.args.height ≤ max_height = t.within in
    omega arith

pub step_down-requires : goal.step_down-requires
step_down-requires c =
    let t : IsTreeOf c.args.n c.args.height = c.requires.tree in
    let within : c.args.height ≤ max_height = t.within in
    let fits : c.loop-below.below - 1 < 32 = omega arith in
    let up : c.loop-below.below ≡ suc (c.loop-below.below - 1) = omega arith in
    record {
      low = step_low c.args.n c.args.x c.args.y c.loop-below.below (c.loop-below.below - 1) _ c.loop-below.node (one_shl (c.loop-below.below - 1) 32 fits) up c.loop-below.invariant;
      high = step_high c.args.n c.args.x c.args.y c.loop-below.below (c.loop-below.below - 1) _ c.loop-below.node (one_shl (c.loop-below.below - 1) 32 fits) up c.loop-below.invariant;
    }

pub loop-below-preserved : goal.loop-below-preserved
loop-below-preserved c =
    let t : IsTreeOf c.args.n c.args.height = c.requires.tree in
    let within : c.args.height ≤ max_height = t.within in
    let fits : c.loop-below.below - 1 < 32 = omega arith in
    let up : c.loop-below.below ≡ suc (c.loop-below.below - 1) = omega arith in
    c.in-Some.ensures c.args.n c.loop-below.below (c.loop-below.below - 1) (one_shl (c.loop-below.below - 1) 32 fits) up c.loop-below.invariant

pub returns-in-None : goal.returns-in-None
returns-in-None c =
    let t : IsTreeOf c.args.n c.args.height = c.requires.tree in
    let within : c.args.height ≤ max_height = t.within in
    let fits : c.loop-below.below - 1 < 32 = omega arith in
    let up : c.loop-below.below ≡ suc (c.loop-below.below - 1) = omega arith in
    c.in-None.ensures c.args.n c.loop-below.below (c.loop-below.below - 1) (one_shl (c.loop-below.below - 1) 32 fits) up c.loop-below.invariant

pub returns : goal.returns
returns c = at_leaf _ _ _ _ _ (omega arith) c.loop-below.invariant

use Rattle.std.proofs.Common.{◌≡◌, ◌∙◌, ◌-◌, ◌*◌, List, ℕ, ap, sym, map, arith}
use Rattle.std.specs.List.{range_with_len}
use Rattle.mls_tree.specs.Tree.{term}
use Rattle.mls_tree.proofs.Perfect.{perfect_levels}
use Rattle.mls_tree_model.specs.LastPath.{last_path}
use Rattle.mls_cli_text.specs.Page.{good}
use Rattle.mls_cli_draw.specs.Picture.{picture, row}
use Rattle.mls_cli_draw.proofs.Drawn.{all_nodes, one_row, some_leaf}
use Rattle.mls_cli_draw.proofs.drawing.picture.Goals as goal

pub overflow_sub-node-end : goal.overflow_sub-node-end
overflow_sub-node-end c = some_leaf (term c.args.tree.now) _ c.leaf_count-leaves.ensures

pub loop-node-preserved : goal.loop-node-preserved
loop-node-preserved c =
    let t = term c.args.tree.now in
    let path : c.as_slice-in-loop-node.result.now ≡ last_path t = c.as_slice-in-loop-node.ensures.value ∙ c.in_ok-path.ensures in
    let drawn = c.in_ok-made.ensures c.args.tree.now.height t (record { perfect = perfect_levels c.args.tree.now; leaves_are = sym c.leaf_count-leaves.ensures; nodes_are = c.as_slice.ensures.value ∙ c.in_ok-nodes.ensures }) in
    one_row c.args.columns (last_path t) t c.loop-node.node c.in_ok-made.made _ _ c.loop-node.invariant c.in_ok-push.ensures.items
    (drawn ∙ ap (λ (xs : List ℕ). row c.args.columns xs t c.loop-node.node) path)

pub returns : goal.returns
unfolding picture
returns c =
    let t = term c.args.tree.now in
    let end : c.loop-node.node ≡ 2 * c.leaf_count-leaves.result - 1 = omega (arith, c.loop-node-test.false, c.loop-node.auto.node-end) in
    ap good (c.loop-node.invariant ∙ ap (λ n. map (row c.args.columns (last_path t) t) (range_with_len 0 n)) (end ∙ all_nodes t _ c.leaf_count-leaves.ensures))

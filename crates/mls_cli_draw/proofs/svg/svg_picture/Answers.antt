use Rattle.std.proofs.Common.{◌≡◌, ◌∙◌, ◌+◌, ◌*◌, ap, sym, arith}
use Rattle.mls_tree.specs.Tree.{term}
use Rattle.mls_tree.proofs.Perfect.{perfect_levels}
use Rattle.mls_tree_model.specs.Term.{height, width}
use Rattle.mls_cli_text.specs.Page.{good}
use Rattle.mls_cli_draw.specs.Svg.{svg_picture}
use Rattle.mls_cli_draw.proofs.Subtrees.{picture_is, whole_is}
use Rattle.mls_cli_draw.proofs.svg.svg_picture.Goals as goal

pub returns : goal.returns
unfolding svg_picture
returns c =
    let t = term c.args.tree.now in
    let leaves : width t ≡ c.leaf_count-leaves.result = sym c.leaf_count-leaves.ensures in
    let high : c.height.result ≡ height t = c.height.ensures.height c.args.tree.now.height t (perfect_levels c.args.tree.now) leaves in
    let whole = whole_is c.args.tree.now.height t c.leaf_count-leaves.result c.as_slice.result.now (perfect_levels c.args.tree.now) leaves (c.as_slice.ensures.value ∙ c.in_ok-nodes.ensures) in
    let wide : 80 * c.from.result + 32 ≡ 80 * width t + 32 = omega (arith, c.from.ensures, leaves) in
    let tall : 72 * c.from-2.result + 116 ≡ 72 * height t + 116 = omega (arith, c.from-2.ensures, high) in
    ap good (picture_is t _ _ _ _ _ _ _ _ _ (c.as_slice-2.ensures.value ∙ c.in_ok-path.ensures) c.new-rows.ensures.items c.in_ok-push.ensures.items c.in_ok-opening_row.ensures c.in_ok-push_style.ensures (c.in_ok-push_subtree.ensures c.args.tree.now.height t whole) c.in_ok-push_text_row.ensures wide tall)

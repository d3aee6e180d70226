use Rattle.std.proofs.Common.{◌++◌, codes}
use Rattle.mls_cli_draw.specs.Svg.{group, numbered}
use Rattle.mls_cli_draw.proofs.Texts.{behind}
use Rattle.mls_cli_draw.proofs.shapes.push_group.Goals as goal

pub returns : goal.returns
unfolding group
returns c =
    let end = codes ")\">" in
    let down = numbered (codes " ") c.args.point.y in
    let across = numbered (codes "\" transform=\"translate(") c.args.point.x in
    let q = c.push_ascii-3.result in
    let new = c.push_ascii-3.new.characters.items in
    let mid_1 = c.push_ascii.new.characters.items in
    let mid_2 = c.push_ascii-2.new.characters.items in
    let mid_3 = c.push_numbered.new.characters.items in
    let mid_4 = c.push_numbered-2.new.characters.items in
    behind q c.args.characters.now.items mid_1 new (codes "<g class=\"") (c.args.class.now ++ (across ++ (down ++ end))) c.in_ok-push_ascii.ensures
    (behind q mid_1 mid_2 new c.args.class.now (across ++ (down ++ end)) c.in_ok-push_ascii-2.ensures
    (behind q mid_2 mid_3 new across (down ++ end) c.in_ok-push_numbered.ensures
    (behind q mid_3 mid_4 new down end c.in_ok-push_numbered-2.ensures c.push_ascii-3.ensures)))

use Rattle.std.proofs.Common.{◌≡◌, ◌*◌, ◌++◌, ℕ, OnOk, codes, subst}
use Rattle.mls_cli_draw.specs.Svg.{box, numbered}
use Rattle.mls_cli_draw.proofs.Texts.{behind}
use Rattle.mls_cli_draw.proofs.shapes.push_box.Goals as goal

pub returns : goal.returns
unfolding box
returns c =
    let index : c.from-index.result ≡ c.args.index = c.from-index.ensures in
    let end = codes "</text>" in
    let second = numbered (codes "</text><text class=\"index\" y=\"34\">leaf ") c.from-index.result in
    let first = numbered (codes "<rect x=\"-22\" y=\"-18\" width=\"44\" height=\"36\" rx=\"9\"/><text y=\"4\">") (2 * c.from-index.result) in
    let q = c.push_ascii.result in
    let new = c.push_ascii.new.characters.items in
    let mid_1 = c.push_numbered.new.characters.items in
    let mid_2 = c.push_numbered-2.new.characters.items in
    subst (λ (i : ℕ). OnOk c.push_ascii.result (c.push_ascii.new.characters.items ≡ c.args.characters.now.items ++ box i)) index
    (behind q c.args.characters.now.items mid_1 new first (second ++ end) c.in_ok-push_numbered.ensures
    (behind q mid_1 mid_2 new second end c.in_ok-push_numbered-2.ensures c.push_ascii.ensures))

use Rattle.std.proofs.Common.{◌≡◌, ◌∙◌, None, replicate, ap, arith, subst}
use Rattle.std.specs.Prelude.{IfOk}
use Rattle.mls_tree_model.specs.Arrays.{with_padding}
use Rattle.mls_cli_place.proofs.Padded.{low_enough, padded_long, too_high}
use Rattle.mls_cli_place.proofs.parents.first_wrong_parent.Goals as goal

pub returns-then-height-gt-MAX_HEIGHT : goal.returns-then-height-gt-MAX_HEIGHT
returns-then-height-gt-MAX_HEIGHT c =
    let at = c.height_for-height.ensures.value in
    let high = c.if-height-gt-MAX_HEIGHT.true in
    too_high c.args.rule c.args.nodes.now c.height_for-height.result at (omega arith)

pub first_in_tree-requires-clause-shape : goal.first_in_tree-requires-clause-shape
first_in_tree-requires-clause-shape c =
    let at = c.height_for-height.ensures.value in
    padded_long c.args.rule c.args.nodes.now c.height_for-height.result at _ (ap (λ r. r.nodes) c.in_ok-cells.ensures ∙ c.in_ok-pad_tree.ensures.ok ∙ ap with_padding (c.in_ok-whole.ensures.items_if_clones_equal (λ x y same. same)))

pub first_in_tree-requires-clause-cold : goal.first_in_tree-requires-clause-cold
first_in_tree-requires-clause-cold c =
    let at = c.height_for-height.ensures.value in
    ap (λ r. r.hashes) c.in_ok-cells.ensures
    ∙ ap (λ n. replicate n None) (padded_long c.args.rule c.args.nodes.now c.height_for-height.result at _ (c.in_ok-pad_tree.ensures.ok ∙ ap with_padding (c.in_ok-whole.ensures.items_if_clones_equal (λ x y same. same))))

pub returns : goal.returns
returns c =
    let at = c.height_for-height.ensures.value in
    let low = c.if-height-gt-MAX_HEIGHT.false in
    subst (λ o. IfOk c.first_in_tree.result (λ found. found ≡ o))
    (low_enough c.args.rule c.args.nodes.now c.height_for-height.result at _ (ap (λ r. r.nodes) c.in_ok-cells.ensures ∙ c.in_ok-pad_tree.ensures.ok ∙ ap with_padding (c.in_ok-whole.ensures.items_if_clones_equal (λ x y same. same))) (omega arith))
    c.first_in_tree.ensures

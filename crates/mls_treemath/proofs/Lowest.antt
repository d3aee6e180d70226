-- Ways and nodes determine each other, and common fronts lead to the lowest nodes over both.
use Rattle.std.proofs.Common.{◌≡◌, ℕ, ◌+◌, ◌≤◌, length, Some, refl, sym, ap, subst, ◌∙◌, arith}
use Rattle.std.proofs.lemmas.List.{length-append}
use Rattle.mls_treemath.specs.Paths.{Path, index_of, path_to}
use Rattle.mls_treemath.specs.Steps.{common_front, height_of, common_ancestor_of, parting, parting_among}
use Rattle.mls_treemath.proofs.Ways.{Node, node_at, index_within, path_to-index_of, path_to_within, index_of-path_to, same_some}
use Rattle.mls_treemath.specs.Fronts.{Under}
use Rattle.mls_treemath.proofs.Fronts.{common_over_first, common_over_second, common_lowest}
use Rattle.mls_treemath.specs.Laws.{NodeHasWay, WayLeadsBack, NodeOfWay, CommonAncestorIsLowest}

pub node_has_way : NodeHasWay
node_has_way h x within =
    let n : Node h x = node_at h x within in
    (n.way, n.leads)

pub way_leads_back : WayLeadsBack
way_leads_back h x p e =
    let back = index_of-path_to h x p e in
    (path_to_within h x p e, back.0, back.1)

pub node_of_way : NodeOfWay
node_of_way h p short = (index_within h p short, path_to-index_of h p short)

is_shorter : (p q : Path) → Under p q → length p ≤ length q
is_shorter p q u =
    let len : length q ≡ length p + length u.more = ap length u.whole ∙ length-append p u.more in
    omega arith

parted : (n h x y : ℕ) (p q : Path) → height_of n ≡ Some h → path_to h x ≡ Some p → path_to h y ≡ Some q → common_ancestor_of n x y ≡ Some (index_of h (common_front p q))
unfolding parting parting_among
parted n h x y p q is first second = rw (is, first, second) refl

pub common_ancestor_is_lowest : CommonAncestorIsLowest
common_ancestor_is_lowest n h x y is first second =
    let a : Node h x = node_at h x first in
    let b : Node h y = node_at h y second in
    let under : Under (common_front a.way b.way) a.way = common_over_first a.way b.way in
    let shorter : length (common_front a.way b.way) ≤ length a.way = is_shorter (common_front a.way b.way) a.way under in
    let short : length (common_front a.way b.way) ≤ h = let k : length a.way ≤ h = a.short in omega arith in
    let leads = path_to-index_of h (common_front a.way b.way) short in (
      index_of h (common_front a.way b.way),
      parted n h x y a.way b.way is a.leads b.leads,
      record {
        over_first = record { upper = common_front a.way b.way; lower = a.way; leads = leads; goes_on = a.leads; under = under };
        over_second = record { upper = common_front a.way b.way; lower = b.way; leads = leads; goes_on = b.leads; under = common_over_second a.way b.way };
        lowest = λ c over over'.
            let one : Under over.upper a.way = subst (λ (r : Path). Under over.upper r) (same_some (sym over.goes_on ∙ a.leads)) over.under in
            let two' : Under over'.upper b.way = subst (λ (r : Path). Under over'.upper r) (same_some (sym over'.goes_on ∙ b.leads)) over'.under in
            let two : Under over.upper b.way = subst (λ (r : Path). Under r b.way) (same_some (sym over'.leads ∙ over.leads)) two' in
            record { upper = over.upper; lower = common_front a.way b.way; leads = over.leads; goes_on = leads; under = common_lowest over.upper a.way b.way one two };
      },
    )

-- Lists of more nodes than a tree has are refused for what is seen of their nodes.
use Rattle.std.proofs.Common.{◌≡◌, ◌≢◌, ℕ, ◌+◌, ◌^◌, ◌<◌, ◌≤◌, Bool, true, false, ◌&&◌, nat_lt, List, [], ◌∷◌, length, Option, Result, Ok, Err, refl, sym, ◌∙◌, ap, subst, arith, length-append}
use Rattle.std.specs.Prelude.{if◌then◌else◌, IfErr, IfOk}
use Rattle.std.specs.List.{flat_map, AllByRecursion}
use Rattle.mls_wire.specs.Combine.{optional}
use Rattle.mls_wire.specs.Reading.{◌>>=◌}
use Rattle.mls_wire.specs.Whole.{whole}
use Rattle.mls_leaf.specs.Faults.{Spells}
use Rattle.mls_leaf.specs.Limits.{input_limit}
use Rattle.mls_leaf.specs.Node.{node}
use Rattle.mls_leaf.specs.Nonempty.{optional_nonempty}
use Rattle.mls_leaf.specs.declared.node.Node.{Node}
use Rattle.mls_types.specs.GroupInfo.{ratchet_tree}
use Rattle.mls_treemath.specs.Limits.{max_height}
use Rattle.mls_treemath.specs.Paths.{nodes_in}
use Rattle.mls_treemath.proofs.Sizes.{nodes_in_up}
use Rattle.mls_tree_model.specs.Term.{is_full_width}
use Rattle.mls_tree_model.specs.Arrays.{term_of, has_last, alternates, height_for, from_nodes}
use Rattle.mls_tree_array.proofs.OrderLaws.{height_for-holds}
use Rattle.mls_tree.specs.Faults.{number_of}
use Rattle.mls_tree.specs.Tree.{max_leaves}
use Rattle.mls_tree.specs.declared.error.TreeError.{TreeError}
use Rattle.mls_tree.proofs.Receiving.{no_last, misplaced, half_empty, too_large}
use Rattle.mls_tree_view.specs.LongList.{behind, nothing_passed, refusal_of, sent_tree, AreNodes, HasFewNodes, IsFewNodes, RefusesList, RefusesTree}
use Rattle.mls_tree_view.specs.declared.long_list.Passed.{Passed}
use Rattle.mls_tree_view.proofs.LongLists.{count_behind, last_taken, placed, right_half}

-- each place has a byte or more
few_items : (cells : List (Option Node)) → AllByRecursion (optional node).Fits cells → length cells ≤ length (flat_map (optional node).spell cells)
few_items [] fits = omega arith
few_items (c ∷ cs) fits =
    let one = optional_nonempty node c fits.0 in
    let more = few_items cs fits.1 in
    let both = length-append ((optional node).spell c) (flat_map (optional node).spell cs) in
    omega (arith, one, more, both)

pub few_cells : (cells : List (Option Node)) (part : List ℕ) → Spells ratchet_tree cells part → length cells < 2 ^ 30
few_cells cells part spells = let few = few_items cells spells.fits.0 in let short = spells.fits.1 in omega (arith, few, short)

pub counted : (cells : List (Option Node)) (part : List ℕ) (p : Passed) → Spells ratchet_tree cells part → p ≡ behind nothing_passed cells → p.count ≡ length cells
counted cells part p spells is =
    let few = few_cells cells part spells in
    let all : 0 + length cells ≡ length cells = omega arith in
    ap (λ (q : Passed). q.count) is ∙ count_behind nothing_passed cells (omega (arith, few)) ∙ all

by_cases : (last are full : Bool) (cells : List (Option Node)) (h : ℕ) → h ≡ height_for (length cells) → max_height < h
    → has_last cells ≡ last → alternates true cells ≡ are → is_full_width (term_of h cells) ≡ full
    → from_nodes max_leaves cells ≡ Err (if last && are && full then 21 else 20)
by_cases false are full cells h at high e f g = no_last cells e
by_cases true false full cells h at high e f g = misplaced cells e f
by_cases true true false cells h at high e f g = half_empty cells e f h at g
by_cases true true true cells h at high e f g = too_large cells e f h at g high

seen_as : (cells : List (Option Node)) (h : ℕ) → h ≡ height_for (length cells) → 0 < h → length cells < 2 ^ 30
    → (if has_last cells && alternates true cells && is_full_width (term_of h cells) then 21 else 20) ≡ refusal_of (behind nothing_passed cells) h
seen_as cells h at above few =
    let holds : length cells ≤ nodes_in h = subst (λ (k : ℕ). length cells ≤ nodes_in k) (sym at) (height_for-holds (length cells)) in
    let half = right_half h cells above (omega (arith, few)) holds in
    rw (last_taken cells, placed cells, half) refl

-- what is refused of them is what the whole tree is refused with
pub long_list : (part : List ℕ) (cells : List (Option Node)) (p : Passed) (h n : ℕ) → Spells ratchet_tree cells part
    → p ≡ behind nothing_passed cells → h ≡ height_for p.count → max_height < h → n ≡ refusal_of p h → from_nodes max_leaves cells ≡ Err n
long_list part cells p h n spells is at high number =
    let few = few_cells cells part spells in
    let at-cells : h ≡ height_for (length cells) = at ∙ ap height_for (counted cells part p spells is) in
    let refused = by_cases (has_last cells) (alternates true cells) (is_full_width (term_of h cells)) cells h at-cells high refl refl refl in
    refused ∙ ap (λ (k : ℕ). Err k) (seen_as cells h at-cells (omega (arith, high)) few ∙ ap (λ (q : Passed). refusal_of q h) (sym is) ∙ sym number)

refused_so : (last are full : Bool) → ◌≢◌ {A = ℕ} (if last && are && full then 21 else 20) 1
refused_so false are full = λ e. absurd (omega arith)
refused_so true false full = λ e. absurd (omega arith)
refused_so true true false = λ e. absurd (omega arith)
refused_so true true true = λ e. absurd (omega arith)

pub no_want : (p : Passed) (h n : ℕ) → n ≡ refusal_of p h → n ≢ 1
no_want p h n is = λ e. refused_so p.is_last_taken p.is_placed (nat_lt (2 ^ h) p.leaf_end) (sym is ∙ e)

-- a tree of a height that a tree may have has few nodes
pub few_nodes : (part : List ℕ) (cells : List (Option Node)) (p : Passed) (h : ℕ) → Spells ratchet_tree cells part
    → p ≡ behind nothing_passed cells → h ≡ height_for p.count → h ≤ max_height → length cells ≤ nodes_in max_height
few_nodes part cells p h spells is at low =
    let at-cells : h ≡ height_for (length cells) = at ∙ ap height_for (counted cells part p spells is) in
    let holds : length cells ≤ nodes_in h = subst (λ (k : ℕ). length cells ≤ nodes_in k) (sym at-cells) (height_for-holds (length cells)) in
    let up = nodes_in_up h max_height low in
    omega (arith, holds, up)

-- ---- all of some bytes

the_cells : Result (List (Option Node)) ℕ → List (Option Node)
the_cells (Ok xs) = xs
the_cells (Err n) = []

abbrev okay : List (Option Node) → Result (List (Option Node)) ℕ
okay xs = Ok xs

ok_same : (xs ys : List (Option Node)) → okay xs ≡ okay ys → xs ≡ ys
unfolding the_cells
ok_same xs ys e = ap the_cells e

-- the nodes that all of the bytes spell are refused as their tree
refused_tree : (bytes part : List ℕ) (n : ℕ) (found : AreNodes bytes part) → from_nodes max_leaves found.cells ≡ Err n → sent_tree bytes ≡ Err n
refused_tree bytes part n found refused = ap (λ (r : Result (List (Option Node)) ℕ). r >>= from_nodes max_leaves) found.is_read ∙ refused

few_of : (bytes part : List ℕ) (found : AreNodes bytes part) → length found.cells ≤ nodes_in max_height
    → (cells : List (Option Node)) → whole ratchet_tree input_limit bytes ≡ Ok cells → length cells ≤ nodes_in max_height
few_of bytes part found few cells read =
    subst (λ (xs : List (Option Node)). length xs ≤ nodes_in max_height) (ok_same found.cells cells (sym found.is_read ∙ read)) few

pub refused_all : (bytes part : List ℕ) (found : AreNodes bytes part) (r : Result (Unit {0}) TreeError) → IfErr r (RefusesList part) → IfErr r (RefusesTree bytes)
refused_all bytes part found (Ok x) h = h
refused_all bytes part found (Err e) h = (refused_tree bytes part (number_of e) found (h.0 found.cells found.spells), h.1)

pub few_all : (bytes part : List ℕ) (found : AreNodes bytes part) (r : Result (Unit {0}) TreeError) → IfOk r (λ _. IsFewNodes part) → IfOk r (λ _. HasFewNodes bytes)
few_all bytes part found (Ok x) h = few_of bytes part found (h found.cells found.spells)
few_all bytes part found (Err e) h = h

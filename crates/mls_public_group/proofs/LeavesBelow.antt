-- The leaves of a tree are short where its nodes are so together.
use Rattle.std.proofs.Common.{◌≡◌, ℕ, zero, suc, ◌+◌, ◌<◌, Bool, true, false, cond, List, [], ◌∷◌, ◌++◌, length, take, drop, Option, Some, None, Ok, subst, arith, length-append}
use Rattle.std.specs.Prelude.{IfSome, nat_lt}
use Rattle.std.specs.List.{flat_map, AllByRecursion}
use Rattle.std.specs.Int.{w8}
use Rattle.mls_wire.specs.Reading.{uint, header}
use Rattle.mls_wire.specs.Combine.{optional}
use Rattle.mls_leaf.specs.Leaf.{leaf_node}
use Rattle.mls_leaf.specs.Node.{node}
use Rattle.mls_leaf.specs.declared.leaf.LeafNode.{LeafNode}
use Rattle.mls_leaf.specs.declared.node.Node.{Node}
use Rattle.mls_leaf.specs.declared.node.Node.TheVariants.{Leaf as in_leaf, Parent as in_parent}
use Rattle.mls_types.specs.GroupInfo.{ratchet_tree}
use Rattle.mls_treemath.specs.Paths.{nodes_in}
use Rattle.mls_tree_model.specs.Term.{Term, leaf_at, leaf_of, width}
use Rattle.mls_tree_model.specs.Arrays.{leaf_in, term_of, with_padding, height_for, sent_term, from_nodes}
use Rattle.mls_tree.specs.Tree.{max_leaves}
use Rattle.mls_tree.proofs.Cells.{Cells, of_front, of_back, of_padded}
use Rattle.mls_tree.proofs.SentLemmas.{sent_is}
use Rattle.mls_public_group.specs.Short.{IsBelow, HasLeavesBelow}

-- the leaf in a cell is short, where there is one
abbrev CellBelow : ℕ → Option Node → Type 0
CellBelow n c = IfSome (leaf_in c) (λ v. IsBelow n leaf_node v)

-- ---- of the tree that a list stands for

either : (n : ℕ) (t : Bool) (x y : Option LeafNode) → IfSome x (λ v. IsBelow n leaf_node v) → IfSome y (λ v. IsBelow n leaf_node v) → IfSome (cond t x y) (λ v. IsBelow n leaf_node v)
either n true x y first second = first
either n false x y first second = second

of_cells : (n h b i : ℕ) (xs : List (Option Node)) → Cells (CellBelow n) xs → IfSome (leaf_at b (term_of h xs) i) (λ v. IsBelow n leaf_node v)
unfolding term_of leaf_at
of_cells n zero b i xs all = all 0
of_cells n (suc h) b i xs all =
    let l : Term = term_of h (take (nodes_in h) xs) in
    either n (nat_lt i (b + width l)) _ _
    (of_cells n h b i (take (nodes_in h) xs) (of_front (CellBelow n) tt (nodes_in h) xs all))
    (of_cells n h (b + width l) i (drop (suc (nodes_in h)) xs) (of_back (CellBelow n) (suc (nodes_in h)) xs all))

of_tree : (n h : ℕ) (xs : List (Option Node)) → Cells (CellBelow n) xs → HasLeavesBelow n (term_of h xs)
unfolding leaf_of
of_tree n h xs all i = either n (nat_lt i (width (term_of h xs))) _ _ (of_cells n h 0 i xs all) tt

-- ---- what an input spells

-- the leaf in a cell has a spelling, of fewer than n bytes where the cell's has
of_cell : (n : ℕ) (c : Option Node) → (optional node).Fits c → length ((optional node).spell c) < n → CellBelow n c
unfolding node
of_cell n None fits lt = tt
of_cell n (Some (in_leaf v)) fits lt =
    record { fits = fits.1.1; below = omega (arith, length-append (uint w8 1) (uint w8 1 ++ leaf_node.spell v), length-append (uint w8 1) (leaf_node.spell v)) }
of_cell n (Some (in_parent p)) fits lt = tt

of_spelled : (n : ℕ) (xs : List (Option Node)) → AllByRecursion (optional node).Fits xs → length (flat_map (optional node).spell xs) < n → Cells (CellBelow n) xs
of_spelled n [] fits lt k = tt
of_spelled n (c ∷ cs) fits lt zero = of_cell n c fits.0 (omega (arith, length-append ((optional node).spell c) (flat_map (optional node).spell cs)))
of_spelled n (c ∷ cs) fits lt (suc k) = of_spelled n cs fits.1 (omega (arith, length-append ((optional node).spell c) (flat_map (optional node).spell cs))) k

of_sent : (n : ℕ) (xs : List (Option Node)) → Cells (CellBelow n) xs → HasLeavesBelow n (sent_term xs)
unfolding sent_term with_padding
of_sent n xs all = of_tree n (height_for (length xs)) _ (of_padded (CellBelow n) tt _ xs all)

-- the leaves of the tree that nodes of fewer than n bytes stand for are as short
pub leaves_below : (n : ℕ) (xs items : List (Option Node)) (t : Term) → IsBelow n ratchet_tree xs → items ≡ xs → from_nodes max_leaves items ≡ Ok t → HasLeavesBelow n t
leaves_below n xs items t is same e =
    let text : List ℕ = flat_map (optional node).spell xs in
    let sent = sent_is xs t (subst (λ (ys : List (Option Node)). from_nodes max_leaves ys ≡ Ok t) same e) in
    subst (HasLeavesBelow n) sent.0 (of_sent n xs (of_spelled n xs is.fits.0 (omega (arith, length-append (header (length text)) text, is.below))))

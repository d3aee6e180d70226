-- The leaves of a tree are short where its nodes are so together.
use Rattle.std.proofs.Common.{ℕ, zero, suc, ◌+◌, ◌^◌, ◌<◌, ◌≤◌, Bool, true, false, cond, List, [], ◌∷◌, ◌++◌, length, get_or, take, drop, Option, Some, None, arith, length-append}
use Rattle.std.specs.Prelude.{IfSome, nat_lt}
use Rattle.std.specs.List.{flat_map, AllByRecursion}
use Rattle.std.specs.Int.{w8}
use Rattle.mls_wire.specs.Reading.{uint}
use Rattle.mls_wire.specs.Combine.{optional}
use Rattle.mls_leaf.specs.Leaf.{leaf_node}
use Rattle.mls_leaf.specs.Node.{node}
use Rattle.mls_leaf.specs.declared.leaf.LeafNode.{LeafNode}
use Rattle.mls_leaf.specs.declared.node.Node.{Node}
use Rattle.mls_leaf.specs.declared.node.Node.TheVariants.{Leaf as in_leaf, Parent as in_parent}
use Rattle.mls_checks.specs.Short.{IsShort}
use Rattle.mls_treemath.specs.Paths.{nodes_in}
use Rattle.mls_tree_model.specs.Term.{Term, leaf_at, leaf_of, width}
use Rattle.mls_tree_model.specs.Arrays.{leaf_in, term_of, with_padding, height_for, sent_term}
use Rattle.mls_tree.specs.ShortLeaves.{HasShortLeaves, AreShort}
use Rattle.mls_tree.proofs.Cells.{Cells, of_front, of_back, of_padded}

-- the leaf in a cell is short, where there is one
abbrev ShortCell : Option Node → Type 0
ShortCell c = IfSome (leaf_in c) (λ v. IsShort leaf_node v)

-- ---- of the tree that a list stands for

either : (t : Bool) (x y : Option LeafNode) → IfSome x (λ v. IsShort leaf_node v) → IfSome y (λ v. IsShort leaf_node v) → IfSome (cond t x y) (λ v. IsShort leaf_node v)
either true x y first second = first
either false x y first second = second

of_cells : (h b i : ℕ) (xs : List (Option Node)) → Cells ShortCell xs → IfSome (leaf_at b (term_of h xs) i) (λ v. IsShort leaf_node v)
unfolding term_of leaf_at
of_cells zero b i xs all = all 0
of_cells (suc h) b i xs all =
    let l : Term = term_of h (take (nodes_in h) xs) in
    either (nat_lt i (b + width l)) _ _
    (of_cells h b i (take (nodes_in h) xs) (of_front ShortCell tt (nodes_in h) xs all))
    (of_cells h (b + width l) i (drop (suc (nodes_in h)) xs) (of_back ShortCell (suc (nodes_in h)) xs all))

of_tree : (h : ℕ) (xs : List (Option Node)) → Cells ShortCell xs → HasShortLeaves (term_of h xs)
unfolding leaf_of
of_tree h xs all i = either (nat_lt i (width (term_of h xs))) _ _ (of_cells h 0 i xs all) tt

-- ---- what an input spells

-- the leaf in a cell has a spelling, of no more bytes than so many
abbrev Within : ℕ → Option Node → Type 0
Within n c = IfSome (leaf_in c) (λ v. leaf_node.Fits v × (length (leaf_node.spell v) ≤ n))

of_cell : (c : Option Node) → (optional node).Fits c → Within (length ((optional node).spell c)) c
unfolding node
of_cell None fits = tt
of_cell (Some (in_leaf v)) fits = (fits.1.1, omega (arith, length-append (uint w8 1) (uint w8 1 ++ leaf_node.spell v), length-append (uint w8 1) (leaf_node.spell v)))
of_cell (Some (in_parent p)) fits = tt

more : (c : Option Node) (m n : ℕ) → m ≤ n → Within m c → Within n c
more None m n le w = tt
more (Some (in_leaf v)) m n le w = (w.0, omega arith)
more (Some (in_parent p)) m n le w = tt

of_spelled : (xs : List (Option Node)) → AllByRecursion (optional node).Fits xs → (k : ℕ) → Within (length (flat_map (optional node).spell xs)) (get_or xs k None)
of_spelled [] fits k = tt
of_spelled (c ∷ cs) fits zero = more c (length ((optional node).spell c)) (length ((optional node).spell c ++ flat_map (optional node).spell cs)) (omega (arith, length-append ((optional node).spell c) (flat_map (optional node).spell cs))) (of_cell c fits.0)
of_spelled (c ∷ cs) fits (suc k) = more (get_or cs k None) (length (flat_map (optional node).spell cs)) (length ((optional node).spell c ++ flat_map (optional node).spell cs)) (omega (arith, length-append ((optional node).spell c) (flat_map (optional node).spell cs))) (of_spelled cs fits.1 k)

short_within : (c : Option Node) (n : ℕ) → n < 2 ^ 28 → Within n c → ShortCell c
short_within None n lt w = tt
short_within (Some (in_leaf v)) n lt w = record { fits = w.0; short = omega arith }
short_within (Some (in_parent p)) n lt w = tt

-- the leaves of the tree that short nodes stand for are short
pub short_leaves : (xs : List (Option Node)) → AreShort xs → HasShortLeaves (sent_term xs)
unfolding sent_term with_padding
short_leaves xs short =
    of_tree (height_for (length xs)) _ (of_padded ShortCell tt _ xs (λ k. short_within (get_or xs k None) (length (flat_map (optional node).spell xs)) short.short (of_spelled xs short.fits k)))

-- Laws: lists of nodes whose cells stand in their places stand for trees.
use Rattle.std.proofs.Common.{◌≡◌, ℕ, zero, suc, ◌+◌, ◌-◌, ◌<◌, ◌≤◌, nat_le, Bool, true, false, not, ◌&&◌, List, [], ◌∷◌, ◌++◌, length, get_or, take, drop, replicate, Option, Some, None, refl, sym, ◌∙◌, ap, subst, arith, length-append, length-drop, leb-true}
use Rattle.std.proofs.lemmas.List.{length-take-le, length-replicate, take-append-drop, drop_more}
use Rattle.std.proofs.lemmas.Bool.{true≢false, and_parts, cond_both}
use Rattle.std.proofs.Math.Bool.{and_assoc, not-not}
use Rattle.mls_leaf.specs.declared.node.Node.{Node}
use Rattle.mls_leaf.specs.declared.node.Node.TheVariants.{Leaf as in_leaf, Parent as in_parent}
use Rattle.mls_treemath.specs.Paths.{nodes_in}
use Rattle.mls_treemath.proofs.Sizes.{nodes_in-zero, nodes_in-suc, nodes_in_pos}
use Rattle.mls_tree_model.specs.Arrays.{leaf_in, parent_in, leaf_cell, parent_cell, term_of, in_order, without_last_blanks, to_nodes, may_stand, alternates, height_from, height_for, with_padding}
use Rattle.mls_tree_array.specs.Standing.{Stands}

-- ---- cells

-- whether the place n cells on is even
on_by : ℕ → Bool → Bool
on_by zero even = even
on_by (suc n) even = on_by n (not even)

alternates-append : (even : Bool) (xs ys : List (Option Node)) → alternates even (xs ++ ys) ≡ (alternates even xs && alternates (on_by (length xs) even) ys)
unfolding alternates on_by
alternates-append even [] ys = refl
alternates-append even (c ∷ xs) ys = ap (λ v. may_stand even c && v) (alternates-append (not even) xs ys) ∙ sym (and_assoc (may_stand even c) (alternates (not even) xs) (alternates (on_by (length xs) (not even)) ys))

on_by-add : (n m : ℕ) (even : Bool) → on_by (n + m) even ≡ on_by m (on_by n even)
unfolding on_by
on_by-add zero m even = ap (λ k. on_by k even) (let e : 0 + m ≡ m = omega arith in e)
on_by-add (suc n) m even = ap (λ k. on_by k even) (let e : suc n + m ≡ suc (n + m) = omega arith in e) ∙ on_by-add n m (not even)

-- a tree has an odd number of nodes
on_by-nodes_in : (h : ℕ) (even : Bool) → on_by (nodes_in h) even ≡ not even
unfolding on_by
on_by-nodes_in zero even = ap (λ k. on_by k even) nodes_in-zero
on_by-nodes_in (suc h) even =
    ap (λ k. on_by k even) (nodes_in-suc h)
    ∙ on_by-add (nodes_in h) (suc (nodes_in h)) even
    ∙ ap (λ v. on_by (nodes_in h) (not v)) (on_by-nodes_in h even)
    ∙ on_by-nodes_in h (not (not even))
    ∙ not-not (not even)

leaf_cell-in : (c : Option Node) → may_stand true c ≡ true → leaf_cell (leaf_in c) ≡ c
leaf_cell-in None e = refl
leaf_cell-in (Some (in_leaf v)) e = refl
leaf_cell-in (Some (in_parent p)) e = absurd (true≢false (sym e))

parent_cell-in : (c : Option Node) → may_stand false c ≡ true → parent_cell (parent_in c) ≡ c
parent_cell-in None e = refl
parent_cell-in (Some (in_leaf v)) e = absurd (true≢false (sym e))
parent_cell-in (Some (in_parent p)) e = refl

-- ---- trees

-- a list of a tree's length in three parts, each of which alternates
record AreParts (h : ℕ) (xs : List (Option Node)) : Type 0 where
  whole : take (nodes_in h) xs ++ (get_or xs (nodes_in h) None ∷ drop (suc (nodes_in h)) xs) ≡ xs
  left_length : length (take (nodes_in h) xs) ≡ nodes_in h
  right_length : length (drop (suc (nodes_in h)) xs) ≡ nodes_in h
  left : alternates true (take (nodes_in h) xs) ≡ true
  root : may_stand false (get_or xs (nodes_in h) None) ≡ true
  right : alternates true (drop (suc (nodes_in h)) xs) ≡ true

parts_of : (h : ℕ) (xs : List (Option Node)) → length xs ≡ nodes_in (suc h) → alternates true xs ≡ true → AreParts h xs
unfolding alternates
parts_of h xs all alternating =
    let m : ℕ = nodes_in h in
    let sum : length xs ≡ m + suc m = all ∙ nodes_in-suc h in
    let l : List (Option Node) = take m xs in
    let c : Option Node = get_or xs m None in
    let r : List (Option Node) = drop (suc m) xs in
    let next : m + 1 ≡ suc m = omega arith in
    let behind : drop m xs ≡ c ∷ r = drop_more xs m None (omega arith) ∙ ap (λ k. c ∷ drop k xs) next in
    let whole : l ++ (c ∷ r) ≡ xs = ap (λ ys. l ++ ys) (sym behind) ∙ take-append-drop m xs in
    let left_length : length l ≡ m = length-take-le m xs (omega arith) in
    let odd : on_by (length l) true ≡ false = ap (λ k. on_by k true) left_length ∙ on_by-nodes_in h true in
    let both : (alternates true l && alternates false (c ∷ r)) ≡ true =
    ap (λ v. alternates true l && alternates v (c ∷ r)) (sym odd) ∙ sym (alternates-append true l (c ∷ r)) ∙ ap (alternates true) whole ∙ alternating in
    let sides = and_parts (alternates true l) (alternates false (c ∷ r)) both in
    let behind_root = and_parts (may_stand false c) (alternates true r) sides.1 in
    record {
      whole = whole;
      left_length = left_length;
      right_length = length-drop (suc m) xs ∙ omega arith;
      left = sides.0;
      root = behind_root.0;
      right = behind_root.1;
    }

one_in_order : (xs : List (Option Node)) → length xs ≡ 1 → alternates true xs ≡ true → in_order (term_of 0 xs) ≡ xs
unfolding alternates term_of in_order
one_in_order [] all alternating = absurd (omega arith)
one_in_order (c ∷ []) all alternating = ap (λ d. d ∷ []) (leaf_cell-in c (and_parts (may_stand true c) true alternating).0)
one_in_order (c ∷ d ∷ cs) all alternating = absurd (omega arith)

in_order-term_of : (h : ℕ) (xs : List (Option Node)) → length xs ≡ nodes_in h → alternates true xs ≡ true → in_order (term_of h xs) ≡ xs
unfolding term_of in_order
in_order-term_of zero xs all alternating = one_in_order xs (all ∙ nodes_in-zero) alternating
in_order-term_of (suc h) xs all alternating =
    let parts = parts_of h xs all alternating in
    let l : List (Option Node) = take (nodes_in h) xs in
    let c : Option Node = get_or xs (nodes_in h) None in
    let r : List (Option Node) = drop (suc (nodes_in h)) xs in
    ap (λ ys. ys ++ (parent_cell (parent_in c) ∷ in_order (term_of h r))) (in_order-term_of h l parts.left_length parts.left)
    ∙ ap (λ d. l ++ (d ∷ in_order (term_of h r))) (parent_cell-in c parts.root)
    ∙ ap (λ ys. l ++ (c ∷ ys)) (in_order-term_of h r parts.right_length parts.right)
    ∙ parts.whole

-- a list of as many nodes as a tree has, each in its place, stands for the tree
pub Stands-from_alternating : (h : ℕ) (xs : List (Option Node)) → length xs ≡ nodes_in h → alternates true xs ≡ true → Stands h xs
Stands-from_alternating h xs all alternating =
    record { size = all; order = in_order-term_of h xs all alternating }

-- ---- padded lists

-- the least tree for some nodes has room for them
height_from-holds : (more h n : ℕ) → n ≤ nodes_in (more + h) → n ≤ nodes_in (height_from more h n)
unfolding height_from
height_from-holds zero h n fits = subst (λ k. n ≤ nodes_in k) (let e : 0 + h ≡ h = omega arith in e) fits
height_from-holds (suc more) h n fits =
    cond_both (nat_le n (nodes_in h)) _ _ (λ k. n ≤ nodes_in k)
    (λ e. leb-true n (nodes_in h) e)
    (λ e. height_from-holds more (suc h) n (subst (λ k. n ≤ nodes_in k) (let e : suc more + h ≡ more + suc h = omega arith in e) fits))

-- a tree has more nodes than its height
pub high_enough : (h : ℕ) → h < nodes_in h
high_enough zero = nodes_in_pos 0
high_enough (suc h) = let e = nodes_in-suc h in let d = high_enough h in omega arith

pub height_for-holds : (n : ℕ) → n ≤ nodes_in (height_for n)
unfolding height_for
height_for-holds n = height_from-holds n 0 n (let e : n + 0 ≡ n = omega arith in let d = high_enough (n + 0) in omega arith)

pub length-padded : (xs : List (Option Node)) → length (with_padding xs) ≡ nodes_in (height_for (length xs))
unfolding with_padding
length-padded xs =
    let room = height_for-holds (length xs) in
    length-append xs (replicate (nodes_in (height_for (length xs)) - length xs) None)
    ∙ ap (λ k. length xs + k) (length-replicate (nodes_in (height_for (length xs)) - length xs) None)
    ∙ omega arith

alternates-blanks : (n : ℕ) (even : Bool) → alternates even (replicate n None) ≡ true
unfolding alternates
alternates-blanks zero even = refl
alternates-blanks (suc n) even = alternates-blanks n (not even)

pub alternates-padded : (xs : List (Option Node)) → alternates true xs ≡ true → alternates true (with_padding xs) ≡ true
unfolding with_padding
alternates-padded xs alternating =
    let blanks : List (Option Node) = replicate (nodes_in (height_for (length xs)) - length xs) None in
    alternates-append true xs blanks
    ∙ ap (λ v. v && alternates (on_by (length xs) true) blanks) alternating
    ∙ alternates-blanks (nodes_in (height_for (length xs)) - length xs) (on_by (length xs) true)

-- nodes in their places stand for a tree once they are padded
pub Stands-padded : (xs : List (Option Node)) → alternates true xs ≡ true → Stands (height_for (length xs)) (with_padding xs)
Stands-padded xs alternating =
    Stands-from_alternating (height_for (length xs)) (with_padding xs) (length-padded xs) (alternates-padded xs alternating)

-- what is sent of a tree
pub to_nodes-standing : (h : ℕ) (xs : List (Option Node)) → Stands h xs → to_nodes (term_of h xs) ≡ without_last_blanks xs
unfolding to_nodes
to_nodes-standing h xs stands = ap without_last_blanks stands.order

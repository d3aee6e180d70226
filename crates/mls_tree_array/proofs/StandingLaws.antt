-- Laws: the list of a tree's nodes in order stands for that tree, also after each edit.
use Rattle.std.proofs.Common.{◌≡◌, ℕ, zero, suc, ◌+◌, ◌<◌, ◌≤◌, true, List, [], ◌∷◌, ◌++◌, length, take, replicate, Option, None, refl, sym, ◌∙◌, ap, subst, arith, inl, inr, add-one}
use Rattle.std.proofs.lemmas.Bool.{cases_lt, cond_both, and_parts, true≢false}
use Rattle.std.proofs.lemmas.List.{replicate-append-replicate, take_all, take-append-le}
use Rattle.mls_leaf.specs.Parent.{Parent}
use Rattle.mls_leaf.specs.declared.leaf.LeafNode.{LeafNode}
use Rattle.mls_leaf.specs.declared.node.Node.{Node}
use Rattle.mls_treemath.specs.Paths.{nodes_in}
use Rattle.mls_treemath.proofs.Sizes.{nodes_in-zero, nodes_in-suc, nodes_in_up}
use Rattle.mls_tree_model.specs.Term.{Term, Leaf, Branch, height, blanks, has_leaf, is_perfect}
use Rattle.mls_tree_model.specs.Edits.{grow, trim}
use Rattle.mls_tree_model.specs.Arrays.{leaf_cell, parent_cell, term_of, in_order}
use Rattle.mls_tree_model.proofs.Equations.{grow_is}
use Rattle.mls_tree_model.proofs.ShapeLaws.{height-perfect, perfect-grow, perfect-trim}
use Rattle.mls_tree_model.proofs.ArrayLaws.{perfect-term_of, length-in_order, size-perfect, term_of-in_order}
use Rattle.mls_tree_array.specs.Standing.{Stands}
use Rattle.mls_tree_array.specs.StandingLaws.{StandsFor}

-- ---- lists and trees

pub in_order-leaf : (v : Option LeafNode) → in_order (Leaf v) ≡ leaf_cell v ∷ []
unfolding in_order
in_order-leaf v = refl

pub in_order-branch : (c : Option Parent) (l r : Term) → in_order (Branch c l r) ≡ in_order l ++ (parent_cell c ∷ in_order r)
unfolding in_order
in_order-branch c l r = refl

-- a tree that a list is read as has the height that it is read at
pub height-term_of : (h : ℕ) (xs : List (Option Node)) → height (term_of h xs) ≡ h
height-term_of h xs = height-perfect h (term_of h xs) (perfect-term_of h xs)

-- the list of a perfect tree has its nodes
pub length-perfect : (h : ℕ) (t : Term) → is_perfect h t ≡ true → length (in_order t) ≡ nodes_in h
length-perfect h t p = length-in_order t ∙ size-perfect h t p

pub stands-in_order : (h : ℕ) (t : Term) → is_perfect h t ≡ true → Stands h (in_order t)
stands-in_order h t p = record { size = length-perfect h t p; order = ap in_order (term_of-in_order h t p) }

pub stands_for : (h : ℕ) (t : Term) (ys : List (Option Node)) → is_perfect h t ≡ true → ys ≡ in_order t → StandsFor h ys t
stands_for h t ys p is = subst (λ zs. StandsFor h zs t) (sym is) (record { stands = stands-in_order h t p; term = term_of-in_order h t p })

-- one leaf, or a blank one
leaf_is : (v : Option LeafNode) → is_perfect 0 (Leaf v) ≡ true
unfolding is_perfect
leaf_is v = refl

pub stands_for-leaf : (v : Option LeafNode) → StandsFor 0 (leaf_cell v ∷ []) (Leaf v)
stands_for-leaf v = stands_for 0 (Leaf v) (leaf_cell v ∷ []) (leaf_is v) (sym (in_order-leaf v))

-- trees of two heights have not as many nodes
higher : (h k : ℕ) → h < k → nodes_in h < nodes_in k
higher h k lt = omega (arith, nodes_in-suc h, nodes_in_up (suc h) k (omega arith))

-- none has fewer than one as high, or lower
pub no_more_nodes : (h k : ℕ) → h ≤ k → nodes_in h ≤ nodes_in k
no_more_nodes h k le = elim (cases_lt h k) [ inl lt ↦ (let more = higher h k lt in omega arith) | inr ge ↦ (let e : h ≡ k = omega arith in let f = ap nodes_in e in omega arith) ]

same_height : (h k : ℕ) → nodes_in h ≡ nodes_in k → h ≡ k
same_height h k e =
    elim (cases_lt h k) [
      | inl lt ↦ absurd (let more = higher h k lt in omega arith)
      | inr ge ↦ elim (cases_lt k h) [ inl lt ↦ absurd (let more = higher k h lt in omega arith) | inr le ↦ omega arith ]
    ]

-- ---- the doubled tree: the list with blank nodes behind it

in_order-blanks : (h : ℕ) → in_order (blanks h) ≡ replicate (nodes_in h) None
unfolding blanks
in_order-blanks zero = in_order-leaf None ∙ ap (λ n. replicate n None) (sym nodes_in-zero)
in_order-blanks (suc h) =
    in_order-branch None (blanks h) (blanks h)
    ∙ ap (λ ys. ys ++ (None ∷ ys)) (in_order-blanks h)
    ∙ replicate-append-replicate (nodes_in h) (suc (nodes_in h)) None
    ∙ ap (λ n. replicate n None) (sym (nodes_in-suc h))

pub in_order-grow : (h : ℕ) (xs : List (Option Node)) → Stands h xs → in_order (grow (term_of h xs)) ≡ xs ++ replicate (suc (nodes_in h)) None
in_order-grow h xs stands =
    ap in_order (grow_is (term_of h xs))
    ∙ in_order-branch None (term_of h xs) (blanks (height (term_of h xs)))
    ∙ ap (λ k. in_order (term_of h xs) ++ (None ∷ in_order (blanks k))) (height-term_of h xs)
    ∙ ap (λ zs. zs ++ (None ∷ in_order (blanks h))) stands.order
    ∙ ap (λ zs. xs ++ (None ∷ zs)) (in_order-blanks h)

-- ---- so the list after an edit stands for the edited tree

pub stands_for-grow : (h : ℕ) (xs ys : List (Option Node)) → ys ≡ in_order (grow (term_of h xs)) → StandsFor (h + 1) ys (grow (term_of h xs))
stands_for-grow h xs ys is = subst (λ k. StandsFor k ys (grow (term_of h xs))) (sym (add-one h)) (stands_for (suc h) _ ys (perfect-grow h (term_of h xs) (perfect-term_of h xs)) is)

-- where k is the height that the trim answers
pub stands_for-trim : (h k : ℕ) (xs ys : List (Option Node)) → ys ≡ in_order (trim (term_of h xs)) → length ys ≡ nodes_in k → StandsFor k ys (trim (term_of h xs))
stands_for-trim h k xs ys is size =
    let low = perfect-trim h (term_of h xs) (perfect-term_of h xs) in
    let many : nodes_in low.0 ≡ nodes_in k = sym (length-perfect low.0 (trim (term_of h xs)) low.1) ∙ ap length (sym is) ∙ size in
    stands_for k _ ys (subst (λ j. is_perfect j (trim (term_of h xs)) ≡ true) (same_height low.0 k many) low.1) is

-- ---- a trim keeps the first nodes

trim_low : (t : Term) → height (trim t) ≤ height t
unfolding trim height
trim_low (Leaf v) = omega arith
trim_low (Branch c l r) =
    let low = trim_low l in
    cond_both (has_leaf r) (Branch c l r) (trim l) (λ u. height u ≤ suc (height l)) (λ _. omega arith) (λ _. omega arith)

trim_front : (h : ℕ) (t : Term) → is_perfect h t ≡ true → take (nodes_in (height (trim t))) (in_order t) ≡ in_order (trim t)
unfolding trim is_perfect in_order height
trim_front zero (Leaf v) p = ap (λ n. take n (leaf_cell v ∷ [])) nodes_in-zero
trim_front (suc h) (Leaf v) p = absurd (true≢false (sym p))
trim_front zero (Branch c l r) p = absurd (true≢false (sym p))
trim_front (suc h) (Branch c l r) p =
    let sides = and_parts (is_perfect h l) (is_perfect h r) p in
    let whole : is_perfect (suc h) (Branch c l r) ≡ true = p in
    let long = length-perfect (suc h) (Branch c l r) whole in
    let high = height-perfect (suc h) (Branch c l r) whole in
    let few = no_more_nodes (height (trim l)) (height l) (trim_low l) in
    let left = length-perfect h l sides.0 in
    let left_high = height-perfect h l sides.0 in
    let same = ap nodes_in left_high in
    let all = ap nodes_in high in
    cond_both (has_leaf r) (Branch c l r) (trim l) (λ u. take (nodes_in (height u)) (in_order l ++ (parent_cell c ∷ in_order r)) ≡ in_order u)
    (λ _. take_all (nodes_in (suc (height l))) (in_order l ++ (parent_cell c ∷ in_order r)) (omega arith))
    (λ _. take-append-le (nodes_in (height (trim l))) (in_order l) (parent_cell c ∷ in_order r) (omega arith) ∙ trim_front h l sides.0)

pub trimmed_front : (h n : ℕ) (xs : List (Option Node)) → Stands h xs → n ≡ height (trim (term_of h xs)) → take (nodes_in n) xs ≡ in_order (trim (term_of h xs))
trimmed_front h n xs stands is =
    ap (λ k. take (nodes_in k) xs) is
    ∙ ap (take (nodes_in (height (trim (term_of h xs))))) (sym stands.order)
    ∙ trim_front h (term_of h xs) (perfect-term_of h xs)

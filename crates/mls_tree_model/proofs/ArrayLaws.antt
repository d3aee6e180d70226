-- Trees as lists of their nodes in order.
use Rattle.std.proofs.Common.{◌≡◌, ℕ, zero, suc, ◌+◌, ◌-◌, ◌*◌, ◌^◌, ◌<◌, ◌≤◌, nat_le, Bool, true, false, not, ◌&&◌, List, [], ◌∷◌, ◌++◌, length, get_or, take, drop, replicate, Option, Some, None, Ok, refl, sym, ◌∙◌, ap, arith, inl, inr, length-append, append_assoc, append-nil, le-leb, leb-true, pow-suc}
use Rattle.std.proofs.lemmas.List.{take_at, drop_at, get_or_at, get_or_append_left, get_or-append_right}
use Rattle.std.proofs.lemmas.Bool.{true≢false, and_parts, and_from, or_cases, or_right, cond-true, cond-false, cases_lt, cases_order, cases_Bool}
use Rattle.mls_leaf.specs.Parent.{Parent}
use Rattle.mls_leaf.specs.declared.leaf.LeafNode.{LeafNode}
use Rattle.mls_leaf.specs.declared.node.Node.{Node}
use Rattle.mls_treemath.specs.Paths.{nodes_in}
use Rattle.mls_treemath.proofs.Sizes.{nodes_in-zero, nodes_in-suc, nodes_in_up}
use Rattle.mls_tree_model.specs.Term.{Term, Leaf, Branch, width, size, is_perfect, has_leaf, is_full_width}
use Rattle.mls_tree_model.specs.Good.{is_within}
use Rattle.mls_tree_model.specs.Places.{at_node}
use Rattle.mls_tree_model.proofs.Equations.{at_node_leaf, at_node_no_leaf, at_node_here, at_node_left, at_node_right}
use Rattle.mls_tree_model.specs.Arrays.{leaf_in, parent_in, leaf_cell, parent_cell, own_node, node_at, term_of, in_order, before, without_last_blanks, to_nodes, has_last, may_stand, alternates, height_from, height_for, with_padding, sent_term, from_nodes}
use Rattle.mls_tree_model.proofs.ShapeLaws.{size-width, width-perfect}

-- ---- how many nodes a tree has

pub nodes_in-leaves : (h : ℕ) → suc (nodes_in h) ≡ 2 * 2 ^ h
unfolding nodes_in
nodes_in-leaves zero = refl
nodes_in-leaves (suc h) = omega (arith, nodes_in-leaves h, pow-suc 2 h)

-- no fewer than its height
high_enough : (h : ℕ) → suc h ≤ nodes_in h
high_enough zero = let e = nodes_in-zero in omega arith
high_enough (suc h) = let e = nodes_in-suc h in let d = high_enough h in omega arith

-- ---- a list as a tree

pub term_of-zero : (xs : List (Option Node)) → term_of 0 xs ≡ Leaf (leaf_in (get_or xs 0 None))
unfolding term_of
term_of-zero xs = refl

pub term_of-suc : (h : ℕ) (xs : List (Option Node)) → term_of (suc h) xs ≡ Branch (parent_in (get_or xs (nodes_in h) None)) (term_of h (take (nodes_in h) xs)) (term_of h (drop (suc (nodes_in h)) xs))
unfolding term_of
term_of-suc h xs = refl

-- the tree of a list in three parts
pub term_of-parts : (h : ℕ) (l r : List (Option Node)) (c : Option Node) → length l ≡ nodes_in h → term_of (suc h) (l ++ (c ∷ r)) ≡ Branch (parent_in c) (term_of h l) (term_of h r)
term_of-parts h l r c e =
    let past : drop (suc (nodes_in h)) (l ++ (c ∷ r)) ≡ r =
    ap (λ ys. drop (suc (nodes_in h)) ys) (sym (append_assoc l (c ∷ []) r)) ∙ drop_at (l ++ (c ∷ [])) r (suc (nodes_in h)) (simp length-append (omega arith)) in
    term_of-suc h (l ++ (c ∷ r))
    ∙ ap (λ d. Branch (parent_in d) (term_of h (take (nodes_in h) (l ++ (c ∷ r)))) (term_of h (drop (suc (nodes_in h)) (l ++ (c ∷ r))))) (get_or_at l c r None (nodes_in h) e)
    ∙ ap (λ ys. Branch (parent_in c) (term_of h ys) (term_of h (drop (suc (nodes_in h)) (l ++ (c ∷ r))))) (take_at l (c ∷ r) (nodes_in h) e)
    ∙ ap (λ ys. Branch (parent_in c) (term_of h l) (term_of h ys)) past

pub perfect-term_of : (h : ℕ) (xs : List (Option Node)) → is_perfect h (term_of h xs) ≡ true
unfolding term_of is_perfect
perfect-term_of zero xs = refl
perfect-term_of (suc h) xs = and_from _ _ (perfect-term_of h (take (nodes_in h) xs)) (perfect-term_of h (drop (suc (nodes_in h)) xs))

pub width-term_of : (h : ℕ) (xs : List (Option Node)) → width (term_of h xs) ≡ 2 ^ h
width-term_of h xs = width-perfect h (term_of h xs) (perfect-term_of h xs)

pub size-term_of : (h : ℕ) (xs : List (Option Node)) → size (term_of h xs) ≡ nodes_in h
size-term_of h xs =
    let s = size-width (term_of h xs) in
    let w = width-term_of h xs in
    let n = nodes_in-leaves h in
    omega arith

-- ---- and back

pub length-in_order : (t : Term) → length (in_order t) ≡ size t
unfolding in_order size
length-in_order (Leaf v) = refl
length-in_order (Branch c l r) =
    let a = length-in_order l in
    let d = length-in_order r in
    length-append (in_order l) (parent_cell c ∷ in_order r) ∙ (omega arith)

pub size-perfect : (h : ℕ) (t : Term) → is_perfect h t ≡ true → size t ≡ nodes_in h
size-perfect h t p =
    let s = size-width t in
    let w = width-perfect h t p in
    let n = nodes_in-leaves h in
    omega arith

pub leaf_in-cell : (v : Option LeafNode) → leaf_in (leaf_cell v) ≡ v
leaf_in-cell None = refl
leaf_in-cell (Some v) = refl

pub parent_in-cell : (c : Option Parent) → parent_in (parent_cell c) ≡ c
parent_in-cell None = refl
parent_in-cell (Some p) = refl

one_cell : (v : Option LeafNode) → term_of 0 (leaf_cell v ∷ []) ≡ Leaf v
one_cell v = term_of-zero (leaf_cell v ∷ []) ∙ ap Leaf (leaf_in-cell v)

pub term_of-in_order : (h : ℕ) (t : Term) → is_perfect h t ≡ true → term_of h (in_order t) ≡ t
unfolding is_perfect in_order
term_of-in_order zero (Leaf v) p = one_cell v
term_of-in_order (suc h) (Leaf v) p = absurd (true≢false (sym p))
term_of-in_order zero (Branch c l r) p = absurd (true≢false (sym p))
term_of-in_order (suc h) (Branch c l r) p =
    let q = and_parts (is_perfect h l) (is_perfect h r) p in
    term_of-parts h (in_order l) (in_order r) (parent_cell c) (length-in_order l ∙ size-perfect h l q.0)
    ∙ ap (λ d. Branch d (term_of h (in_order l)) (term_of h (in_order r))) (parent_in-cell c)
    ∙ ap (λ t. Branch c t (term_of h (in_order r))) (term_of-in_order h l q.0)
    ∙ ap (λ t. Branch c l t) (term_of-in_order h r q.1)

-- ---- what is cut at the end

-- what was cut are blank cells
record WasCut (xs ys : List (Option Node)) : Type 0 where
  many : ℕ
  whole : ys ++ replicate many None ≡ xs
  sum : length ys + many ≡ length xs

cut_before : (c : Option Node) (xs ys : List (Option Node)) → WasCut xs ys → WasCut (c ∷ xs) (before c ys)
cut_before None xs [] w = let s = w.sum in record { many = suc w.many; whole = ap (λ zs. None ∷ zs) w.whole; sum = omega arith }
cut_before None xs (d ∷ ds) w = let s = w.sum in record { many = w.many; whole = ap (λ zs. None ∷ zs) w.whole; sum = omega arith }
cut_before (Some n) xs ys w = let s = w.sum in record { many = w.many; whole = ap (λ zs. Some n ∷ zs) w.whole; sum = omega arith }

was_cut : (xs : List (Option Node)) → WasCut xs (without_last_blanks xs)
unfolding without_last_blanks
was_cut [] = record { many = 0; whole = refl; sum = refl }
was_cut (c ∷ cs) = cut_before c cs (without_last_blanks cs) (was_cut cs)

-- what is left ends in a cell that isn't blank
last_before : (c : Option Node) (ds : List (Option Node)) → (0 < length ds → has_last ds ≡ true) → 0 < length (before c ds) → has_last (before c ds) ≡ true
unfolding has_last
last_before None [] h some = absurd (omega arith)
last_before None (d ∷ ds) h some = h (omega arith)
last_before (Some n) [] h some = refl
last_before (Some n) (d ∷ ds) h some = h (omega arith)

last-cut : (xs : List (Option Node)) → 0 < length (without_last_blanks xs) → has_last (without_last_blanks xs) ≡ true
unfolding without_last_blanks
last-cut [] some = absurd (omega arith)
last-cut (c ∷ cs) some = last_before c (without_last_blanks cs) (last-cut cs) some

-- every cell stands in its place
may_leaf : (v : Option LeafNode) → may_stand true (leaf_cell v) ≡ true
may_leaf None = refl
may_leaf (Some v) = refl

may_parent : (c : Option Parent) → may_stand false (parent_cell c) ≡ true
may_parent None = refl
may_parent (Some p) = refl

alternates-nil : (even : Bool) → alternates even [] ≡ true
unfolding alternates
alternates-nil even = refl

alternates-more : (even : Bool) (c : Option Node) (cs : List (Option Node)) → may_stand even c ≡ true → alternates even (c ∷ cs) ≡ alternates (not even) cs
unfolding alternates
alternates-more even c cs e = ap (λ v. v && alternates (not even) cs) e

alternates-in_order : (t : Term) (ys : List (Option Node)) → alternates true (in_order t ++ ys) ≡ alternates false ys
unfolding in_order
alternates-in_order (Leaf v) ys = alternates-more true (leaf_cell v) ys (may_leaf v)
alternates-in_order (Branch c l r) ys =
    ap (alternates true) (append_assoc (in_order l) (parent_cell c ∷ in_order r) ys)
    ∙ alternates-in_order l (parent_cell c ∷ (in_order r ++ ys))
    ∙ alternates-more false (parent_cell c) (in_order r ++ ys) (may_parent c)
    ∙ alternates-in_order r ys

alternates_before : (even : Bool) (c : Option Node) (ds : List (Option Node)) → may_stand even c ≡ true → alternates (not even) ds ≡ true → alternates even (before c ds) ≡ true
alternates_before even None [] h g = alternates-nil even
alternates_before even None (d ∷ ds) h g = alternates-more even None (d ∷ ds) h ∙ g
alternates_before even (Some n) ds h g = alternates-more even (Some n) ds h ∙ g

alternates-cut : (even : Bool) (xs : List (Option Node)) → alternates even xs ≡ true → alternates even (without_last_blanks xs) ≡ true
unfolding without_last_blanks alternates
alternates-cut even [] h = refl
alternates-cut even (c ∷ cs) h =
    let p = and_parts (may_stand even c) (alternates (not even) cs) h in
    alternates_before even c (without_last_blanks cs) p.0 (alternates-cut (not even) cs p.1)

-- nothing is cut before a cell that isn't blank
before_some : (c : Option Node) (ds : List (Option Node)) → 0 < length ds → before c ds ≡ c ∷ ds
before_some None [] some = absurd (omega arith)
before_some None (d ∷ ds) some = refl
before_some (Some n) ds some = refl

cut-behind : (xs ys : List (Option Node)) → 0 < length (without_last_blanks ys) → without_last_blanks (xs ++ ys) ≡ xs ++ without_last_blanks ys
unfolding without_last_blanks
cut-behind [] ys some = refl
cut-behind (c ∷ xs) ys some =
    ap (before c) (cut-behind xs ys some)
    ∙ before_some c (xs ++ without_last_blanks ys) (let e = length-append xs (without_last_blanks ys) in omega arith)

longer_before : (c : Option Node) (ds es : List (Option Node)) → (0 < length ds → 0 < length es) → 0 < length (before c ds) → 0 < length (before c es)
longer_before None [] es h some = absurd (omega arith)
longer_before None (d ∷ ds) [] h some = absurd (let e = h (omega arith) in omega arith)
longer_before None (d ∷ ds) (e ∷ es) h some = omega arith
longer_before (Some n) ds es h some = omega arith

cut-front : (xs ys : List (Option Node)) → 0 < length (without_last_blanks xs) → 0 < length (without_last_blanks (xs ++ ys))
unfolding without_last_blanks
cut-front [] ys some = absurd (omega arith)
cut-front (c ∷ xs) ys some = longer_before c (without_last_blanks xs) (without_last_blanks (xs ++ ys)) (cut-front xs ys) some

-- a tree with a member in its right half is cut behind its root
cut_root : (c : Option Parent) (l r : Term) → 0 < length (without_last_blanks (in_order r)) → size l + 2 ≤ length (without_last_blanks (in_order l ++ (parent_cell c ∷ in_order r)))
unfolding without_last_blanks
cut_root c l r some =
    let root = before_some (parent_cell c) (without_last_blanks (in_order r)) some in
    let e = ap length root in
    let f = ap length (cut-behind (in_order l) (parent_cell c ∷ in_order r) (let z = e in omega arith)) in
    let g = length-append (in_order l) (before (parent_cell c) (without_last_blanks (in_order r))) in
    let s = length-in_order l in
    omega arith

-- so some cell of a tree with a member is left
cut_member : (t : Term) → has_leaf t ≡ true → 0 < length (without_last_blanks (in_order t))
unfolding has_leaf in_order without_last_blanks
cut_member (Leaf None) h = absurd (true≢false (sym h))
cut_member (Leaf (Some v)) h = omega arith
cut_member (Branch c l r) h =
    elim (or_cases (has_leaf l) (has_leaf r) h) [
      | inl k ↦ cut-front (in_order l) (parent_cell c ∷ in_order r) (cut_member l k)
      | inr k ↦ let e = cut_root c l r (cut_member r k) in omega arith
    ]

-- ---- nodes

node_of_leaf : (b : ℕ) (v : Option LeafNode) (n : ℕ) → at_node None own_node b (Leaf v) (2 * b + n) ≡ get_or (leaf_cell v ∷ []) n None
node_of_leaf b v zero = at_node_leaf b v None own_node (2 * b + 0) (omega arith)
node_of_leaf b v (suc n) = at_node_no_leaf b v None own_node (2 * b + suc n) (λ e. absurd (omega arith))

-- the list has the nodes at their numbers
node_in_order : (b : ℕ) (t : Term) (n : ℕ) → at_node None own_node b t (2 * b + n) ≡ get_or (in_order t) n None
unfolding in_order
node_in_order b (Leaf v) n = node_of_leaf b v n
node_in_order b (Branch c l r) n =
    let s = size-width l in
    let len = length-in_order l in
    elim (cases_order n (size l)) [
      | inl e ↦
          at_node_here None own_node b c l r (2 * b + n) (omega arith)
          ∙ sym (get_or_at (in_order l) (parent_cell c) (in_order r) None n (len ∙ sym e))
      | inr (inl lt) ↦
          at_node_left None own_node b c l r (2 * b + n) (omega arith)
          ∙ node_in_order b l n
          ∙ sym (get_or_append_left (in_order l) (parent_cell c ∷ in_order r) None n (omega arith))
      | inr (inr gt) ↦
          let m : ℕ = n - suc (size l) in
          at_node_right None own_node b c l r (2 * b + n) (omega arith)
          ∙ ap (at_node None own_node (b + width l) r) (let e : 2 * b + n ≡ 2 * (b + width l) + m = omega arith in e)
          ∙ node_in_order (b + width l) r m
          ∙ ap (λ j. get_or (parent_cell c ∷ in_order r) j None) (let e : suc m ≡ n - size l = omega arith in e)
          ∙ sym (get_or-append_right (in_order l) (parent_cell c ∷ in_order r) (size l) n None len (omega arith))
    ]

pub node-in_order : (b : ℕ) (t : Term) (n : ℕ) → node_at b t (2 * b + n) ≡ get_or (in_order t) n None
unfolding node_at
node-in_order = node_in_order

-- ---- the least height

least : (more j h n : ℕ) → j ≤ h → h ≤ more + j → ((k : ℕ) → k < h → nodes_in k < n) → n ≤ nodes_in h → height_from more j n ≡ h
unfolding height_from
least zero j h n low high small enough = omega arith
least (suc more) j h n low high small enough =
    elim (cases_Bool (nat_le n (nodes_in j))) [
      | inl e ↦ cond-true _ _ _ e ∙ not_below (leb-true n (nodes_in j) e)
      | inr e ↦ cond-false _ _ _ e ∙ least more (suc j) h n (above e) (omega arith) small enough
    ]
  where
    not_below : n ≤ nodes_in j → j ≡ h
    not_below le = elim (cases_lt j h) [ inl lt ↦ absurd (let z = small j lt in omega arith) | inr ge ↦ omega arith ]

    above : nat_le n (nodes_in j) ≡ false → suc j ≤ h
    above e = elim (cases_lt j h) [
      | inl lt ↦ omega arith
      | inr ge ↦ let z = nodes_in_up h j ge in absurd (true≢false (sym (le-leb n (nodes_in j) (omega arith)) ∙ e))
    ]

pub least_height : (h n : ℕ) → ((k : ℕ) → k < h → nodes_in k < n) → n ≤ nodes_in h → height_for n ≡ h
unfolding height_for
least_height h n small enough = least n 0 h n (omega arith) (fits h small) small enough
  where
    fits : (h : ℕ) → ((k : ℕ) → k < h → nodes_in k < n) → h ≤ n + 0
    fits zero small = omega arith
    fits (suc j) small = let a = small j (omega arith) in let d = high_enough j in omega arith

-- ---- what is sent is read again

sent_long : (h : ℕ) (t : Term) → is_perfect h t ≡ true → is_full_width t ≡ true → (k : ℕ) → k < h → nodes_in k < length (without_last_blanks (in_order t))
unfolding is_perfect is_full_width in_order
sent_long h (Leaf v) p f k lt = absurd (leaf_is_low h v p k lt)
  where
    leaf_is_low : (h : ℕ) (v : Option LeafNode) → is_perfect h (Leaf v) ≡ true → (k : ℕ) → k < h → ⊥
    leaf_is_low zero v p k lt = omega arith
    leaf_is_low (suc h) v p k lt = true≢false (sym (unfold is_perfect in p))
sent_long zero (Branch c l r) p f k lt = absurd (omega arith)
sent_long (suc h) (Branch c l r) p f k lt =
    let q = and_parts (is_perfect h l) (is_perfect h r) p in
    let e = cut_root c l r (cut_member r f) in
    let s = size-perfect h l q.0 in
    let m = nodes_in_up k h (omega arith) in
    omega arith

sent_some : (t : Term) → is_full_width t ≡ true → 0 < length (without_last_blanks (in_order t))
sent_some t f = cut_member t (full_has_leaf t f)
  where
    full_has_leaf : (t : Term) → is_full_width t ≡ true → has_leaf t ≡ true
    full_has_leaf (Leaf v) f = unfold is_full_width has_leaf in f
    full_has_leaf (Branch c l r) f = unfold has_leaf in or_right (has_leaf l) (has_leaf r) (unfold is_full_width in f)

-- the height and the list of a tree that is sent
sent_height : (h : ℕ) (t : Term) → is_perfect h t ≡ true → is_full_width t ≡ true → height_for (length (without_last_blanks (in_order t))) ≡ h
sent_height h t p f =
    let w = (was_cut (in_order t)).sum in
    let e = length-in_order t in
    let s = size-perfect h t p in
    least_height h (length (without_last_blanks (in_order t))) (sent_long h t p f) (omega arith)

sent_list : (h : ℕ) (t : Term) → is_perfect h t ≡ true → is_full_width t ≡ true → with_padding (without_last_blanks (in_order t)) ≡ in_order t
unfolding with_padding
sent_list h t p f =
    let w = was_cut (in_order t) in
    let sum = w.sum in
    let e = length-in_order t in
    let s = size-perfect h t p in
    ap (λ j. without_last_blanks (in_order t) ++ replicate (nodes_in j - length (without_last_blanks (in_order t))) None) (sent_height h t p f)
    ∙ ap (λ j. without_last_blanks (in_order t) ++ replicate j None) (let k : nodes_in h - length (without_last_blanks (in_order t)) ≡ w.many = omega arith in k)
    ∙ w.whole

sent_again : (h : ℕ) (t : Term) → is_perfect h t ≡ true → is_full_width t ≡ true → sent_term (to_nodes t) ≡ t
unfolding sent_term to_nodes
sent_again h t p f =
    ap (λ j. term_of j (with_padding (without_last_blanks (in_order t)))) (sent_height h t p f)
    ∙ ap (term_of h) (sent_list h t p f)
    ∙ term_of-in_order h t p

sent_in_place : (t : Term) → alternates true (without_last_blanks (in_order t)) ≡ true
sent_in_place t =
    alternates-cut true (in_order t)
    (ap (alternates true) (sym (append-nil (in_order t))) ∙ alternates-in_order t [] ∙ alternates-nil false)

pub from_to_nodes : (limit h : ℕ) (t : Term) → is_perfect h t ≡ true → is_full_width t ≡ true → width t ≤ limit → from_nodes limit (to_nodes t) ≡ Ok t
unfolding from_nodes
from_to_nodes limit h t p f le =
    let last : has_last (to_nodes t) ≡ true = unfold to_nodes in last-cut (in_order t) (sent_some t f) in
    let place : alternates true (to_nodes t) ≡ true = unfold to_nodes in sent_in_place t in
    let same : sent_term (to_nodes t) ≡ t = sent_again h t p f in
    let small : is_within limit t ≡ true = unfold is_within in le-leb (width t) limit le in
    rw (last, place, same, f, small) refl

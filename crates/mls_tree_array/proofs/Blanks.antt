-- Laws: blank cells behind a list change nothing in the tree that it stands for.
use Rattle.std.proofs.Common.{◌≡◌, ℕ, zero, suc, ◌+◌, ◌-◌, ◌^◌, ◌<◌, ◌≤◌, false, ◌||◌, List, [], ◌∷◌, ◌++◌, length, get_or, slice_get, take, drop, replicate, Option, None, is_some, unwrap_or, refl, sym, ◌∙◌, ap, arith, pow-suc}
use Rattle.std.proofs.lemmas.List.{take_rest, take_all, drop_all}
use Rattle.std.proofs.Math.Bool.{or-false}
use Rattle.std.proofs.lemmas.Option.{unwrap_or-slice_get}
use Rattle.mls_leaf.specs.declared.node.Node.{Node}
use Rattle.mls_treemath.specs.Paths.{nodes_in}
use Rattle.mls_tree_model.specs.Term.{Leaf, Branch, has_leaf, is_full_width}
use Rattle.mls_tree_model.specs.Arrays.{leaf_in, parent_in, term_of}
use Rattle.mls_tree_model.proofs.ArrayLaws.{nodes_in-leaves, term_of-zero, term_of-suc}
use Rattle.mls_tree_model.proofs.Equations.{has_leaf_leaf, has_leaf_branch, is_full_width_leaf, is_full_width_branch}

-- one list is the other with blank cells behind it
record HasBlanksBehind (ys xs : List (Option Node)) : Type 0 where
  many : ℕ
  is : ys ≡ xs ++ replicate many None

read_behind : (xs : List (Option Node)) (k i : ℕ) → get_or (xs ++ replicate k None) i None ≡ get_or xs i None
read_behind [] zero i = refl
read_behind [] (suc k) zero = refl
read_behind [] (suc k) (suc i) = read_behind [] k i
read_behind (c ∷ xs) k zero = refl
read_behind (c ∷ xs) k (suc i) = read_behind xs k i

taken_blanks : (k n : ℕ) → HasBlanksBehind (take n (replicate k None)) []
taken_blanks k zero = record { many = 0; is = refl }
taken_blanks zero (suc n) = record { many = 0; is = refl }
taken_blanks (suc k) (suc n) =
    let rest = taken_blanks k n in
    record { many = suc rest.many; is = ap (λ ys. None ∷ ys) rest.is }

take_behind : (xs : List (Option Node)) (k n : ℕ) → HasBlanksBehind (take n (xs ++ replicate k None)) (take n xs)
take_behind xs k zero = record { many = 0; is = refl }
take_behind [] k (suc n) = taken_blanks k (suc n)
take_behind (c ∷ xs) k (suc n) =
    let rest = take_behind xs k n in
    record { many = rest.many; is = ap (λ ys. c ∷ ys) rest.is }

left_blanks : (k n : ℕ) → HasBlanksBehind (drop n (replicate k None)) []
left_blanks k zero = record { many = k; is = refl }
left_blanks zero (suc n) = record { many = 0; is = refl }
left_blanks (suc k) (suc n) = left_blanks k n

drop_behind : (xs : List (Option Node)) (k n : ℕ) → HasBlanksBehind (drop n (xs ++ replicate k None)) (drop n xs)
drop_behind xs k zero = record { many = k; is = refl }
drop_behind [] k (suc n) = left_blanks k (suc n)
drop_behind (c ∷ xs) k (suc n) = drop_behind xs k n

pub term_of-behind : (h : ℕ) (xs : List (Option Node)) (k : ℕ) → term_of h (xs ++ replicate k None) ≡ term_of h xs
unfolding term_of
term_of-behind zero xs k = ap (λ c. Leaf (leaf_in c)) (read_behind xs k 0)
term_of-behind (suc h) xs k =
    let m : ℕ = nodes_in h in
    let l = take_behind xs k m in
    let r = drop_behind xs k (suc m) in
    ap (λ c. Branch (parent_in c) (term_of h (take m (xs ++ replicate k None))) (term_of h (drop (suc m) (xs ++ replicate k None)))) (read_behind xs k m)
    ∙ ap (λ t. Branch (parent_in (get_or xs m None)) t (term_of h (drop (suc m) (xs ++ replicate k None)))) (ap (term_of h) l.is ∙ term_of-behind h (take m xs) l.many)
    ∙ ap (λ t. Branch (parent_in (get_or xs m None)) (term_of h (take m xs)) t) (ap (term_of h) r.is ∙ term_of-behind h (drop (suc m) xs) r.many)

-- ---- the members of a tree of which a front is given

pub first_leaf : (xs : List (Option Node)) (o : Option (Option Node)) → o ≡ slice_get xs 0 → is_some (leaf_in (unwrap_or o None)) ≡ has_leaf (term_of 0 xs)
first_leaf xs o is =
    ap (λ p. is_some (leaf_in (unwrap_or p None))) is
    ∙ ap (λ c. is_some (leaf_in c)) (unwrap_or-slice_get xs 0 None)
    ∙ sym (has_leaf_leaf (leaf_in (get_or xs 0 None)))
    ∙ ap has_leaf (sym (term_of-zero xs))

pub full_leaf : (xs : List (Option Node)) → has_leaf (term_of 0 xs) ≡ is_full_width (term_of 0 xs)
full_leaf xs =
    ap has_leaf (term_of-zero xs)
    ∙ has_leaf_leaf (leaf_in (get_or xs 0 None))
    ∙ sym (is_full_width_leaf (leaf_in (get_or xs 0 None)))
    ∙ ap is_full_width (sym (term_of-zero xs))

no_leaf : (h : ℕ) → has_leaf (term_of h []) ≡ false
no_leaf zero = ap has_leaf (term_of-zero []) ∙ has_leaf_leaf None
no_leaf (suc h) =
    ap has_leaf (term_of-suc h [])
    ∙ has_leaf_branch _ _ _
    ∙ ap (λ ys. has_leaf (term_of h ys) || has_leaf (term_of h (drop (suc (nodes_in h)) []))) (take_all (nodes_in h) [] (omega arith))
    ∙ ap (λ v. v || has_leaf (term_of h (drop (suc (nodes_in h)) []))) (no_leaf h)
    ∙ ap (λ ys. has_leaf (term_of h ys)) (drop_all (suc (nodes_in h)) [] (omega arith))
    ∙ no_leaf h

-- how many nodes a side has, by the leaves of the tree
pub side_nodes : (h leaves : ℕ) → 0 < h → leaves ≡ 2 ^ h → leaves - 1 ≡ nodes_in (h - 1)
side_nodes zero leaves above is = absurd (omega arith)
side_nodes (suc k) leaves above is =
    let e : suc k - 1 ≡ k = omega arith in
    rw e (omega (arith, is, pow-suc 2 k, nodes_in-leaves k))

module _ (h m : ℕ) (xs : List (Option Node)) (above : 0 < h) (side : m ≡ nodes_in (h - 1)) where
  split : (k : ℕ) → h ≡ suc k → term_of h xs ≡ Branch (parent_in (get_or xs m None)) (term_of (h - 1) (take m xs)) (term_of (h - 1) (drop (m + 1) xs))
  split k is =
      let e : h - 1 ≡ k = omega arith in
      let next : suc (nodes_in k) ≡ m + 1 = (let same = side ∙ ap nodes_in e in omega arith) in
      ap (λ j. term_of j xs) is
      ∙ term_of-suc k xs
      ∙ ap (λ n. Branch (parent_in (get_or xs n None)) (term_of k (take n xs)) (term_of k (drop (suc (nodes_in k)) xs))) (sym (side ∙ ap nodes_in e))
      ∙ ap (λ n. Branch (parent_in (get_or xs m None)) (term_of k (take m xs)) (term_of k (drop n xs))) next
      ∙ ap (λ j. Branch (parent_in (get_or xs m None)) (term_of j (take m xs)) (term_of j (drop (m + 1) xs))) (sym e)

  sides : term_of h xs ≡ Branch (parent_in (get_or xs m None)) (term_of (h - 1) (take m xs)) (term_of (h - 1) (take (length xs - (m + 1)) (drop (m + 1) xs)))
  sides =
      split (h - 1) (omega arith)
      ∙ ap (λ ys. Branch (parent_in (get_or xs m None)) (term_of (h - 1) (take m xs)) (term_of (h - 1) ys)) (sym (take_rest xs (m + 1)))

  pub has_sides : has_leaf (term_of h xs) ≡ (has_leaf (term_of (h - 1) (take m xs)) || has_leaf (term_of (h - 1) (take (length xs - (m + 1)) (drop (m + 1) xs))))
  has_sides = ap has_leaf sides ∙ has_leaf_branch _ _ _

  pub full_sides : is_full_width (term_of h xs) ≡ has_leaf (term_of (h - 1) (take (length xs - (m + 1)) (drop (m + 1) xs)))
  full_sides = ap is_full_width sides ∙ is_full_width_branch _ _ _

  -- no node is given of the right side
  module _ (short : length xs ≤ m) where
    none_right : has_leaf (term_of (h - 1) (drop (m + 1) xs)) ≡ false
    none_right = ap (λ ys. has_leaf (term_of (h - 1) ys)) (drop_all (m + 1) xs (omega arith)) ∙ no_leaf (h - 1)

    pub has_left : has_leaf (term_of h xs) ≡ has_leaf (term_of (h - 1) xs)
    has_left =
        ap has_leaf (split (h - 1) (omega arith))
        ∙ has_leaf_branch _ _ _
        ∙ ap (λ v. has_leaf (term_of (h - 1) (take m xs)) || v) none_right
        ∙ or-false (has_leaf (term_of (h - 1) (take m xs)))
        ∙ ap (λ ys. has_leaf (term_of (h - 1) ys)) (take_all m xs short)

    pub half_blank : is_full_width (term_of h xs) ≡ false
    half_blank = ap is_full_width (split (h - 1) (omega arith)) ∙ is_full_width_branch _ _ _ ∙ none_right

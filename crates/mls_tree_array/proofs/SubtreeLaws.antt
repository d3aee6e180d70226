-- A subtree by its cells: its root, and its sides.
use Rattle.std.proofs.Common.{◌≡◌, ℕ, zero, suc, ◌+◌, ◌-◌, ◌*◌, ◌^◌, ◌<◌, ◌≤◌, List, length, get_or, take, drop, Option, None, sym, ◌∙◌, ap, subst, arith, inl, inr, pow-suc}
use Rattle.std.proofs.lemmas.Bool.{cases_lt}
use Rattle.std.proofs.lemmas.List.{get_or-take, get_or-drop}
use Rattle.std.proofs.lemmas.Nat.{pow_pos}
use Rattle.std.proofs.Math.Pow.{pow_mono}
use Rattle.mls_leaf.specs.declared.node.Node.{Node}
use Rattle.mls_treemath.specs.Paths.{nodes_in}
use Rattle.mls_treemath.proofs.Sizes.{nodes_in_pos, nodes_in-suc, nodes_in-pow}
use Rattle.mls_tree_model.specs.Term.{Term, Leaf, Branch, width, height}
use Rattle.mls_tree_model.specs.Arrays.{leaf_in, parent_in, term_of}
use Rattle.mls_tree_model.proofs.ArrayLaws.{term_of-zero, term_of-suc, width-term_of, size-term_of}
use Rattle.mls_tree_array.specs.Spans.{part, term_at}
use Rattle.mls_tree_array.specs.Subtrees.{Subtree, end, root_place, root_number, IsOver}
use Rattle.mls_tree_array.proofs.SpanLaws.{part_left, part_right, part_root, part_whole}
use Rattle.mls_tree_array.proofs.StandingLaws.{height-term_of}

abbrev pub as_subtree : ℕ → Term → Subtree
as_subtree b t = record { first = b; term = t }

-- so few leaves make no high tree
pub low_height : (h b : ℕ) → b + 2 ^ h ≤ 2 ^ 31 → h < 32
low_height h b fits = elim (cases_lt h 32) [
  | inl lt ↦ lt
  | inr ge ↦ let more : 2 ^ 32 ≤ 2 ^ h = pow_mono {i = 32} {j = h} ge in absurd (omega arith)
]

-- a tree above a leaf has two sides of one height
pub two_sides : (h : ℕ) → 0 < h → nodes_in h ≡ nodes_in (h - 1) + suc (nodes_in (h - 1))
two_sides zero pos = absurd (omega arith)
two_sides (suc k) pos =
    let same : suc k - 1 ≡ k = omega arith in
    rw same (nodes_in-suc k)

pub two_halves : (h : ℕ) → 0 < h → 2 ^ h ≡ 2 ^ (h - 1) + 2 ^ (h - 1)
two_halves zero pos = absurd (omega arith)
two_halves (suc k) pos =
    let same : suc k - 1 ≡ k = omega arith in
    rw same (omega (arith, pow-suc 2 k))

-- ---- the root

-- it is in the middle
pub root_high : (h : ℕ) (ys : List (Option Node)) → suc (root_place (term_of h ys)) ≡ 2 ^ h
root_high zero ys = rw (term_of-zero ys) (omega arith)
root_high (suc h) ys = rw (term_of-suc h ys) (omega (arith, size-term_of h (take (nodes_in h) ys), nodes_in-pow h))

pub root_within : (h b n len : ℕ) → suc n ≡ 2 * b + 2 ^ h → 2 * b + nodes_in h ≤ len → n < len
root_within h b n len is shape = omega (arith, nodes_in-pow h, pow-suc 2 h, pow_pos h)

module _ (h b : ℕ) (xs : List (Option Node)) (t : Subtree) (view : as_subtree b (term_at h b xs) ≡ t) where
  first_is : b ≡ t.first
  first_is = ap (λ s. s.first) view

  pub term_is : term_at h b xs ≡ t.term
  term_is = ap (λ s. s.term) view

  pub number_is : (n : ℕ) → suc n ≡ 2 * b + 2 ^ h → n ≡ root_number t.first t.term
  number_is n is =
      let place : suc (root_place t.term) ≡ 2 ^ h = ap (λ s. suc (root_place s)) (sym term_is) ∙ root_high h (part h b xs) in
      let first : b ≡ t.first = first_is in
      omega arith

  pub end_is : b + 2 ^ h ≡ end t
  end_is = ap (λ k. b + k) (sym (width-term_of h (part h b xs))) ∙ ap end view

  pub height_is : h ≡ height t.term
  height_is = sym (height-term_of h (part h b xs)) ∙ ap (λ s. height s.term) view

  -- the cell c is that of a leaf
  pub is_leaf : (n : ℕ) (c : Option Node) → h ≡ 0 → suc n ≡ 2 * b + 2 ^ h → c ≡ get_or xs n None → t.term ≡ Leaf (leaf_in c)
  is_leaf n c low at is =
      let one : 2 ^ h ≡ 1 = ap (λ j. 2 ^ j) low in
      let place : n ≡ 2 * b + 0 = omega arith in
      let read : get_or (part h b xs) 0 None ≡ get_or xs (2 * b + 0) None =
      get_or-take (nodes_in h) (drop (2 * b) xs) 0 None (nodes_in_pos h) ∙ get_or-drop (2 * b) xs 0 None in
      sym term_is
      ∙ ap (λ j. term_of j (part h b xs)) low
      ∙ term_of-zero (part h b xs)
      ∙ ap (λ d. Leaf (leaf_in d)) (read ∙ ap (λ m. get_or xs m None) (sym place) ∙ sym is)

-- ---- the sides

pub term_split : (k b : ℕ) (xs : List (Option Node)) → 2 * b + nodes_in (suc k) ≤ length xs → term_at (suc k) b xs ≡ Branch (parent_in (get_or xs (2 * b + nodes_in k) None)) (term_at k b xs) (term_at k (b + 2 ^ k) xs)
term_split k b xs shape =
    term_of-suc k (part (suc k) b xs)
    ∙ ap (λ d. Branch (parent_in d) (term_of k (take (nodes_in k) (part (suc k) b xs))) (term_of k (drop (suc (nodes_in k)) (part (suc k) b xs)))) (part_root k b xs None shape)
    ∙ ap (λ ys. Branch (parent_in (get_or xs (2 * b + nodes_in k) None)) (term_of k ys) (term_of k (drop (suc (nodes_in k)) (part (suc k) b xs)))) (part_left k b xs)
    ∙ ap (λ ys. Branch (parent_in (get_or xs (2 * b + nodes_in k) None)) (term_at k b xs) (term_of k ys)) (part_right k b xs)

over_of : (k b n second : ℕ) (xs : List (Option Node)) (c : Option Node) (t : Subtree) → as_subtree b (term_at (suc k) b xs) ≡ t → suc n ≡ 2 * b + 2 ^ suc k → second ≡ b + 2 ^ k → c ≡ get_or xs n None → 2 * b + nodes_in (suc k) ≤ length xs → b + 2 ^ suc k ≤ 2 ^ 31 → IsOver t (as_subtree b (term_at k b xs)) (parent_in c) (as_subtree second (term_at k second xs))
over_of k b n second xs c t view at is_second is shape fits =
    let first : b ≡ t.first = ap (λ s. s.first) view in
    let term : term_at (suc k) b xs ≡ t.term = ap (λ s. s.term) view in
    let place : n ≡ 2 * b + nodes_in k = omega (arith, nodes_in-pow k) in
    let root : c ≡ get_or xs (2 * b + nodes_in k) None = is ∙ ap (λ m. get_or xs m None) place in
    let parts : term_at (suc k) b xs ≡ Branch (parent_in c) (term_at k b xs) (term_at k second xs) =
    term_split k b xs shape
    ∙ ap (λ d. Branch (parent_in d) (term_at k b xs) (term_at k (b + 2 ^ k) xs)) (sym root)
    ∙ ap (λ m. Branch (parent_in c) (term_at k b xs) (term_at k m xs)) (sym is_second) in
    let wide : width (term_at (suc k) b xs) ≡ 2 ^ suc k = width-term_of (suc k) (part (suc k) b xs) in
    let left_wide : width (term_at k b xs) ≡ 2 ^ k = width-term_of k (part k b xs) in
    let high : height (term_at (suc k) b xs) ≡ suc k = height-term_of (suc k) (part (suc k) b xs) in
    let left_high : height (term_at k b xs) ≡ k = height-term_of k (part k b xs) in
    let right_high : height (term_at k second xs) ≡ k = height-term_of k (part k second xs) in
    let low : suc k < 32 = low_height (suc k) b fits in
    record {
      is = sym term ∙ parts;
      left_first = first;
      right_first = is_second ∙ ap (λ w. b + w) (sym left_wide) ∙ ap (λ m. m + width (term_at k b xs)) first;
      fits = rw (← term, ← first) (omega arith);
      low = rw (← term) (omega arith);
      left_height = rw (← term) (omega arith);
      right_height = rw (← term) (omega arith);
    }

-- the cell c is read of a root, and the leaf `second` begins its right side
pub is_over : (h b n second : ℕ) (xs : List (Option Node)) (c : Option Node) (t : Subtree) → 0 < h → as_subtree b (term_at h b xs) ≡ t → suc n ≡ 2 * b + 2 ^ h → second ≡ b + 2 ^ (h - 1) → c ≡ get_or xs n None → 2 * b + nodes_in h ≤ length xs → b + 2 ^ h ≤ 2 ^ 31 → IsOver t (as_subtree b (term_at (h - 1) b xs)) (parent_in c) (as_subtree second (term_at (h - 1) second xs))
is_over h b n second xs c t pos view at is_second is shape fits =
    let same : h ≡ suc (h - 1) = omega arith in
    over_of (h - 1) b n second xs c t (ap (λ j. as_subtree b (term_at j b xs)) (sym same) ∙ view) (at ∙ ap (λ j. 2 * b + 2 ^ j) same) is_second is (subst (λ j. 2 * b + nodes_in j ≤ length xs) same shape) (subst (λ j. b + 2 ^ j ≤ 2 ^ 31) same fits)

-- what is said of a subtree's cells holds of those of its sides
pub left_shape : (h b len : ℕ) → 0 < h → 2 * b + nodes_in h ≤ len → 2 * b + nodes_in (h - 1) ≤ len
left_shape h b len pos shape = omega (arith, two_sides h pos)

pub right_shape : (h b second len : ℕ) → 0 < h → second ≡ b + 2 ^ (h - 1) → 2 * b + nodes_in h ≤ len → 2 * second + nodes_in (h - 1) ≤ len
right_shape h b second len pos is shape = omega (arith, two_sides h pos, nodes_in-pow (h - 1), pow-suc 2 (h - 1))

pub left_fits : (h b : ℕ) → 0 < h → b + 2 ^ h ≤ 2 ^ 31 → b + 2 ^ (h - 1) ≤ 2 ^ 31
left_fits h b pos fits = omega (arith, two_halves h pos)

pub right_fits : (h b second : ℕ) → 0 < h → second ≡ b + 2 ^ (h - 1) → b + 2 ^ h ≤ 2 ^ 31 → second + 2 ^ (h - 1) ≤ 2 ^ 31
right_fits h b second pos is fits = omega (arith, two_halves h pos)

-- a whole tree
pub whole_is : (h : ℕ) (xs : List (Option Node)) → length xs ≡ nodes_in h → as_subtree 0 (term_at h 0 xs) ≡ as_subtree 0 (term_of h xs)
whole_is h xs long = ap (λ ys. as_subtree 0 (term_of h ys)) (part_whole h xs long)

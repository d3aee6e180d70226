-- Tree hashes of a subtree, read and filled in among those of a whole tree. The root's number is r, as code has it.
use Rattle.std.proofs.Common.{◌≡◌, ℕ, zero, suc, ◌+◌, ◌-◌, ◌*◌, ◌^◌, ◌<◌, ◌≤◌, true, List, [], ◌∷◌, ◌++◌, length, get_or, take, drop, set, Option, Some, None, refl, sym, ◌∙◌, ap, subst, arith}
use Rattle.std.proofs.lemmas.List.{take-take, drop-take, drop-drop, get_or-take, get_or-drop, get_or_default}
use Rattle.std.proofs.lemmas.Bool.{true≢false, and_parts}
use Rattle.mls_leaf.specs.Parent.{Parent}
use Rattle.mls_leaf.specs.declared.node.Node.{Node}
use Rattle.mls_treemath.specs.Paths.{nodes_in}
use Rattle.mls_treemath.proofs.Sizes.{nodes_in-suc, nodes_in_pos}
use Rattle.mls_tree_model.specs.Term.{Term, Leaf, Branch, width, size, is_perfect}
use Rattle.mls_tree_model.specs.Inputs.{leaf_hash, branch_hash}
use Rattle.mls_tree_model.specs.Hashes.{tree_hash}
use Rattle.mls_tree_model.specs.Arrays.{leaf_in, parent_in, term_of}
use Rattle.mls_tree_model.proofs.Equations.{size_branch, tree_hash_leaf, tree_hash_branch}
use Rattle.mls_tree_model.proofs.ShapeLaws.{size-width}
use Rattle.mls_tree_model.proofs.ArrayLaws.{nodes_in-leaves, size-perfect, term_of-zero, term_of-suc, perfect-term_of, size-term_of, width-term_of}
use Rattle.mls_tree_hash.specs.Counter.{counted}
use Rattle.mls_tree_array.specs.KeptHashes.{hashes_of, Keeps, cold_places}
use Rattle.mls_tree_array.specs.Spans.{part, splice, term_at, AreHashesAt}
use Rattle.mls_tree_array.specs.Subtrees.{root_place}
use Rattle.mls_tree_array.proofs.KeptLaws.{root_part, left_part, right_part, length-hashes_of, hashes_of_branch, keeps_sides, warm_leaf, warm_branch}
use Rattle.mls_tree_array.proofs.MissingHashes.{none_missing, branch_counts}
use Rattle.mls_tree_array.proofs.SpanLaws.{root_leaf, root_suc, length_part, part_root, part_left, part_right, part_zero, part_behind, root_behind, before_splice, splice_one, splice_part, splice_sides, length_splice}

-- ---- the tree of a part

leaf_at_place : (b : ℕ) (xs : List (Option Node)) → term_at 0 b xs ≡ Leaf (leaf_in (get_or xs (2 * b) None))
leaf_at_place b xs =
    let own : 2 * b + 0 ≡ 2 * b = omega arith in
    term_of-zero (part 0 b xs)
    ∙ ap (λ c. Leaf (leaf_in c))
    (get_or-take (nodes_in 0) (drop (2 * b) xs) 0 None (nodes_in_pos 0)
    ∙ get_or-drop (2 * b) xs 0 None
    ∙ ap (λ j. get_or xs j None) own)

branch_at_place : (k b : ℕ) (xs : List (Option Node)) → 2 * b + nodes_in (suc k) ≤ length xs → term_at (suc k) b xs ≡ Branch (parent_in (get_or xs (2 * b + nodes_in k) None)) (term_at k b xs) (term_at k (b + 2 ^ k) xs)
branch_at_place k b xs within =
    term_of-suc k (part (suc k) b xs)
    ∙ ap (λ c. Branch (parent_in c) (term_of k (take (nodes_in k) (part (suc k) b xs))) (term_of k (drop (suc (nodes_in k)) (part (suc k) b xs)))) (part_root k b xs None within)
    ∙ ap (λ ys. Branch (parent_in (get_or xs (2 * b + nodes_in k) None)) (term_of k ys) (term_of k (drop (suc (nodes_in k)) (part (suc k) b xs)))) (part_left k b xs)
    ∙ ap (λ ys. Branch (parent_in (get_or xs (2 * b + nodes_in k) None)) (term_at k b xs) (term_of k ys)) (part_right k b xs)

pub term_leaf : (h b r : ℕ) (xs : List (Option Node)) → h ≡ 0 → suc r ≡ 2 * b + 2 ^ h → term_at h b xs ≡ Leaf (leaf_in (get_or xs r None))
term_leaf h b r xs low at =
    ap (λ j. term_at j b xs) low ∙ leaf_at_place b xs ∙ ap (λ j. Leaf (leaf_in (get_or xs j None))) (sym (root_leaf h b r low at))

-- ---- the hashes of a tree

-- the root is one of its nodes
pub root_low : (t : Term) → root_place t < size t
unfolding size
root_low (Leaf v) = omega arith
root_low (Branch c l r) = omega arith

pub root_hash : (b : ℕ) (t : Term) → get_or (hashes_of b t) (root_place t) None ≡ Some (tree_hash b t)
unfolding hashes_of
root_hash b (Leaf v) = refl
root_hash b (Branch c l r) = root_part (hashes_of b l) (hashes_of (b + width l) r) (Some (tree_hash b (Branch c l r))) (size l) (length-hashes_of b l)

-- where the root's is kept, all are
keeps_warm : (b : ℕ) (t : Term) (hs : List (Option (List ℕ))) (g : List ℕ) → Keeps b t hs → get_or hs (root_place t) None ≡ Some g → hs ≡ hashes_of b t
keeps_warm b (Leaf v) hs g k e = warm_leaf b v hs g k e
keeps_warm b (Branch c l r) hs g k e = warm_branch b c l r hs g k e

-- ---- hashes that are all there

-- those of a subtree's root and sides
module _ (b : ℕ) (t : Term) (hs : List (Option (List ℕ))) (are : AreHashesAt b t hs) where
  pub hash_there : get_or hs (2 * b + root_place t) None ≡ Some (tree_hash b t)
  hash_there =
      sym (get_or-drop (2 * b) hs (root_place t) None)
      ∙ sym (get_or-take (size t) (drop (2 * b) hs) (root_place t) None (root_low t))
      ∙ ap (λ ys. get_or ys (root_place t) None) are
      ∙ root_hash b t

module _ (b : ℕ) (c : Option Parent) (l r : Term) (hs : List (Option (List ℕ))) (are : AreHashesAt b (Branch c l r) hs) where
  both_there : take (size l + suc (size r)) (drop (2 * b) hs) ≡ hashes_of b l ++ (Some (tree_hash b (Branch c l r)) ∷ hashes_of (b + width l) r)
  both_there = ap (λ n. take n (drop (2 * b) hs)) (sym (size_branch c l r)) ∙ are ∙ hashes_of_branch b c l r

  pub hashes_left : AreHashesAt b l hs
  hashes_left =
      sym (take-take (size l) (size l + suc (size r)) (drop (2 * b) hs) (omega arith))
      ∙ ap (take (size l)) both_there
      ∙ left_part (hashes_of b l) (hashes_of (b + width l) r) (Some (tree_hash b (Branch c l r))) (size l) (length-hashes_of b l)

  pub hashes_right : AreHashesAt (b + width l) r hs
  hashes_right =
      let place : 2 * b + suc (size l) ≡ 2 * (b + width l) = omega (arith, size-width l) in
      let count : suc (size l) + size r ≡ size l + suc (size r) = omega arith in
      ap (λ k. take (size r) (drop k hs)) (sym place)
      ∙ ap (take (size r)) (sym (drop-drop (suc (size l)) (2 * b) hs))
      ∙ sym (drop-take (suc (size l)) (size r) (drop (2 * b) hs))
      ∙ ap (λ n. drop (suc (size l)) (take n (drop (2 * b) hs))) count
      ∙ ap (drop (suc (size l))) both_there
      ∙ right_part (hashes_of b l) (hashes_of (b + width l) r) (Some (tree_hash b (Branch c l r))) (size l) (length-hashes_of b l)

-- ---- a hash that is kept at the root

-- the place of the root of a tree of height h
place_of_root : (h b r : ℕ) (t : Term) → is_perfect h t ≡ true → suc r ≡ 2 * b + 2 ^ h → 2 * b + root_place t ≡ r
unfolding is_perfect
place_of_root zero b r (Leaf v) p at = let root = root_leaf 0 b r refl at in omega arith
place_of_root (suc h) b r (Leaf v) p at = absurd (true≢false (sym p))
place_of_root zero b r (Branch c l s) p at = absurd (true≢false (sym p))
place_of_root (suc h) b r (Branch c l s) p at =
    let sides = and_parts (is_perfect h l) (is_perfect h s) p in
    let count : size l ≡ nodes_in h = size-perfect h l sides.0 in
    let root = root_suc h b r at in
    omega arith

module _ (h b r : ℕ) (xs : List (Option Node)) (hs : List (Option (List ℕ))) (at : suc r ≡ 2 * b + 2 ^ h) (keeps : Keeps b (term_at h b xs) (part h b hs)) (g : List ℕ) (warm : get_or hs r None ≡ Some g) where
  abbrev tree : Term
  tree = term_at h b xs

  root_warm : get_or (part h b hs) (root_place tree) None ≡ Some g
  root_warm =
      let low : root_place tree < nodes_in h = omega (arith, root_low tree, size-term_of h (part h b xs)) in
      get_or-take (nodes_in h) (drop (2 * b) hs) (root_place tree) None low
      ∙ get_or-drop (2 * b) hs (root_place tree) None
      ∙ ap (λ j. get_or hs j None) (place_of_root h b r tree (perfect-term_of h (part h b xs)) at)
      ∙ warm

  pub part_warm : part h b hs ≡ hashes_of b tree
  part_warm = keeps_warm b tree (part h b hs) g keeps root_warm

  pub warm_value : g ≡ tree_hash b tree
  warm_value =
      let found : Some g ≡ Some (tree_hash b tree) = sym root_warm ∙ ap (λ ys. get_or ys (root_place tree) None) part_warm ∙ root_hash b tree in
      cc

  pub warm_all : 2 * b + nodes_in h ≤ length hs → hs ≡ splice b (hashes_of b tree) hs
  warm_all within = sym (ap (λ ys. splice b ys hs) (sym part_warm) ∙ splice_part h b hs within)

  pub warm_counted : (n : ℕ) → n ≡ counted n (cold_places (part h b hs))
  warm_counted n = none_missing n b tree (part h b hs) part_warm

-- ---- a hash that is missing at the root

-- a cold place, as a cell is asked for
pub cold_there : (hs : List (Option (List ℕ))) (r : ℕ) → r < length hs → get_or hs r None ≡ None → get_or hs r (Some []) ≡ None
cold_there hs r within none = get_or_default hs r (Some []) None within ∙ none

-- of a leaf
module _ (h b r : ℕ) (xs : List (Option Node)) (hs : List (Option (List ℕ))) (low : h ≡ 0) (at : suc r ≡ 2 * b + 2 ^ h) where
  pub leaf_value : tree_hash b (term_at h b xs) ≡ leaf_hash b (leaf_in (get_or xs r None))
  leaf_value = ap (tree_hash b) (term_leaf h b r xs low at) ∙ tree_hash_leaf b (leaf_in (get_or xs r None))

  leaf_hashes : hashes_of b (term_at h b xs) ≡ Some (tree_hash b (term_at h b xs)) ∷ []
  unfolding hashes_of
  leaf_hashes = ap (hashes_of b) (term_leaf h b r xs low at) ∙ ap (λ t. Some (tree_hash b t) ∷ []) (sym (term_leaf h b r xs low at))

  pub leaf_all : r < length hs → (g : List ℕ) → g ≡ tree_hash b (term_at h b xs) → set hs r (Some g) ≡ splice b (hashes_of b (term_at h b xs)) hs
  leaf_all within g made =
      let root : r ≡ 2 * b = root_leaf h b r low at in
      ap (λ j. set hs j (Some g)) root
      ∙ splice_one b (Some g) hs (omega arith)
      ∙ ap (λ v. splice b (Some v ∷ []) hs) made
      ∙ ap (λ ys. splice b ys hs) (sym leaf_hashes)

  pub leaf_counted : r < length hs → get_or hs r None ≡ None → (d e : ℕ) → e ≡ counted d 1 → e ≡ counted d (cold_places (part h b hs))
  leaf_counted within none d e more =
      let root : r ≡ 2 * b = root_leaf h b r low at in
      let one : part h b hs ≡ None ∷ [] =
      ap (λ j. part j b hs) low
      ∙ part_zero b hs None (omega arith)
      ∙ ap (λ j. get_or hs j None ∷ []) (sym root)
      ∙ ap (λ o. o ∷ []) none in
      let count : cold_places (part h b hs) ≡ 1 = ap cold_places one in
      more ∙ ap (counted d) (sym count)

-- of a root over two sides
module _ (k b r : ℕ) (xs : List (Option Node)) (hs : List (Option (List ℕ))) (at : suc r ≡ 2 * b + 2 ^ suc k) (fits : 2 * b + nodes_in (suc k) ≤ length xs) (long : length hs ≡ length xs) where
  abbrev second : ℕ
  second = b + 2 ^ k

  abbrev left : Term
  left = term_at k b xs

  abbrev right : Term
  right = term_at k second xs

  abbrev lefts : List (Option (List ℕ))
  lefts = hashes_of b left

  abbrev rights : List (Option (List ℕ))
  rights = hashes_of second right

  is_branch : term_at (suc k) b xs ≡ Branch (parent_in (get_or xs r None)) left right
  is_branch =
      branch_at_place k b xs fits ∙ ap (λ j. Branch (parent_in (get_or xs j None)) left right) (sym (root_suc k b r at))

  left_size : size left ≡ nodes_in k
  left_size = size-term_of k (part k b xs)

  left_width : width left ≡ 2 ^ k
  left_width = width-term_of k (part k b xs)

  lefts_long : length lefts ≡ nodes_in k
  lefts_long = length-hashes_of b left ∙ left_size

  rights_long : length rights ≡ nodes_in k
  rights_long = length-hashes_of second right ∙ size-term_of k (part k second xs)

  part_sides : Keeps b (term_at (suc k) b xs) (part (suc k) b hs) → Keeps b left (part k b hs) × Keeps second right (part k second hs)
  part_sides keeps =
      let sides = keeps_sides b (parent_in (get_or xs r None)) left right (part (suc k) b hs) (subst (λ t. Keeps b t (part (suc k) b hs)) is_branch keeps) in (
        subst (Keeps b left) (ap (λ n. take n (part (suc k) b hs)) left_size ∙ part_left k b hs) sides.left,
        subst (λ w. Keeps (b + w) right (part k second hs)) left_width
            (subst (Keeps (b + width left) right) (ap (λ n. drop (suc n) (part (suc k) b hs)) left_size ∙ part_right k b hs) sides.right),
      )

  second_part : part k second (splice b lefts hs) ≡ part k second hs
  second_part = part_behind k b lefts hs lefts_long (omega (arith, nodes_in-suc k))

  sides_value : tree_hash b (term_at (suc k) b xs) ≡ branch_hash (parent_in (get_or xs r None)) (tree_hash b left) (tree_hash second right)
  sides_value =
      ap (tree_hash b) is_branch
      ∙ tree_hash_branch b (parent_in (get_or xs r None)) left right
      ∙ ap (λ w. branch_hash (parent_in (get_or xs r None)) (tree_hash b left) (tree_hash (b + w) right)) left_width

  sides_cold : get_or hs r None ≡ None → get_or (splice second rights (splice b lefts hs)) r (Some []) ≡ None
  sides_cold none =
      let half = nodes_in-leaves k in
      let sum = nodes_in-suc k in
      let root : r ≡ 2 * b + nodes_in k = root_suc k b r at in
      let as_long : length (splice b lefts hs) ≡ length hs = length_splice b lefts hs (omega (arith, lefts_long)) in
      before_splice second r rights (splice b lefts hs) (Some []) (omega arith) (omega arith)
      ∙ ap (λ j. get_or (splice b lefts hs) j (Some [])) root
      ∙ root_behind k b lefts hs (Some []) lefts_long (omega arith)
      ∙ ap (λ j. get_or hs j (Some [])) (sym root)
      ∙ cold_there hs r (omega arith) none

  sides_all : (g : List ℕ) → g ≡ tree_hash b (term_at (suc k) b xs) → set (splice second rights (splice b lefts hs)) r (Some g) ≡ splice b (hashes_of b (term_at (suc k) b xs)) hs
  sides_all g made =
      let whole : Term = term_at (suc k) b xs in
      let all : hashes_of b whole ≡ lefts ++ (Some (tree_hash b whole) ∷ rights) =
      ap (hashes_of b) is_branch
      ∙ hashes_of_branch b (parent_in (get_or xs r None)) left right
      ∙ ap (λ t. lefts ++ (Some (tree_hash b t) ∷ hashes_of (b + width left) right)) (sym is_branch)
      ∙ ap (λ w. lefts ++ (Some (tree_hash b whole) ∷ hashes_of (b + w) right)) left_width in
      ap (λ j. set (splice second rights (splice b lefts hs)) j (Some g)) (root_suc k b r at)
      ∙ splice_sides k b lefts rights (Some g) hs lefts_long rights_long (omega arith)
      ∙ ap (λ v. splice b (lefts ++ (Some v ∷ rights)) hs) made
      ∙ ap (λ ys. splice b ys hs) (sym all)

  sides_counted : get_or hs r None ≡ None → (d e f g : ℕ) → e ≡ counted d (cold_places (part k b hs)) → f ≡ counted e (cold_places (part k second (splice b lefts hs))) → g ≡ counted f 1 → g ≡ counted d (cold_places (part (suc k) b hs))
  sides_counted none d e f g one two three =
      let sum = nodes_in-suc k in
      let within : 2 * b + nodes_in (suc k) ≤ length hs = omega arith in
      let count : length (part (suc k) b hs) ≡ nodes_in (suc k) = length_part (suc k) b hs within in
      let next : suc (nodes_in k) ≡ nodes_in k + 1 = omega arith in
      let cold : get_or (part (suc k) b hs) (nodes_in k) None ≡ None = part_root k b hs None within ∙ ap (λ j. get_or hs j None) (sym (root_suc k b r at)) ∙ none in
      let behind : drop (nodes_in k + 1) (part (suc k) b hs) ≡ part k second (splice b lefts hs) = ap (λ n. drop n (part (suc k) b hs)) (sym next) ∙ part_right k b hs ∙ sym second_part in
      branch_counts (nodes_in k) (part (suc k) b hs) d e f g (omega arith) cold
      (one ∙ ap (λ ys. counted d (cold_places ys)) (sym (part_left k b hs)))
      (two ∙ ap (λ ys. counted e (cold_places ys)) (sym behind))
      three

-- the same as code has them
module _ (h b r : ℕ) (xs : List (Option Node)) (hs : List (Option (List ℕ))) (pos : 0 < h) (at : suc r ≡ 2 * b + 2 ^ h) (fits : 2 * b + nodes_in h ≤ length xs) (long : length hs ≡ length xs) where
  up : suc (h - 1) ≡ h
  up = omega arith

  at_suc : suc r ≡ 2 * b + 2 ^ suc (h - 1)
  at_suc = at ∙ ap (λ j. 2 * b + 2 ^ j) (sym up)

  fits_suc : 2 * b + nodes_in (suc (h - 1)) ≤ length xs
  fits_suc = subst (λ j. 2 * b + nodes_in j ≤ length xs) (sym up) fits

  abbrev lower : List (Option (List ℕ))
  lower = hashes_of b (term_at (h - 1) b xs)

  abbrev upper : List (Option (List ℕ))
  upper = hashes_of (b + 2 ^ (h - 1)) (term_at (h - 1) (b + 2 ^ (h - 1)) xs)

  both_kept : Keeps b (term_at h b xs) (part h b hs) → Keeps b (term_at (h - 1) b xs) (part (h - 1) b hs) × Keeps (b + 2 ^ (h - 1)) (term_at (h - 1) (b + 2 ^ (h - 1)) xs) (part (h - 1) (b + 2 ^ (h - 1)) hs)
  both_kept keeps =
      part_sides (h - 1) b r xs hs at_suc fits_suc long (subst (λ j. Keeps b (term_at j b xs) (part j b hs)) (sym up) keeps)

  pub part_left_kept : Keeps b (term_at h b xs) (part h b hs) → Keeps b (term_at (h - 1) b xs) (part (h - 1) b hs)
  part_left_kept keeps = (both_kept keeps).0

  pub part_right_kept : Keeps b (term_at h b xs) (part h b hs) → Keeps (b + 2 ^ (h - 1)) (term_at (h - 1) (b + 2 ^ (h - 1)) xs) (part (h - 1) (b + 2 ^ (h - 1)) (splice b lower hs))
  part_right_kept keeps =
      subst (Keeps (b + 2 ^ (h - 1)) (term_at (h - 1) (b + 2 ^ (h - 1)) xs)) (sym (second_part (h - 1) b r xs hs at_suc fits_suc long)) (both_kept keeps).1

  pub part_value : tree_hash b (term_at h b xs) ≡ branch_hash (parent_in (get_or xs r None)) (tree_hash b (term_at (h - 1) b xs)) (tree_hash (b + 2 ^ (h - 1)) (term_at (h - 1) (b + 2 ^ (h - 1)) xs))
  part_value =
      ap (λ j. tree_hash b (term_at j b xs)) (sym up) ∙ sides_value (h - 1) b r xs hs at_suc fits_suc long

  pub part_cold : get_or hs r None ≡ None → get_or (splice (b + 2 ^ (h - 1)) upper (splice b lower hs)) r (Some []) ≡ None
  part_cold none = sides_cold (h - 1) b r xs hs at_suc fits_suc long none

  pub part_all : (g : List ℕ) → g ≡ tree_hash b (term_at h b xs) → set (splice (b + 2 ^ (h - 1)) upper (splice b lower hs)) r (Some g) ≡ splice b (hashes_of b (term_at h b xs)) hs
  part_all g made =
      sides_all (h - 1) b r xs hs at_suc fits_suc long g (made ∙ ap (λ j. tree_hash b (term_at j b xs)) (sym up))
      ∙ ap (λ j. splice b (hashes_of b (term_at j b xs)) hs) up

  pub part_counted : get_or hs r None ≡ None → (d e f g : ℕ) → e ≡ counted d (cold_places (part (h - 1) b hs)) → f ≡ counted e (cold_places (part (h - 1) (b + 2 ^ (h - 1)) (splice b lower hs))) → g ≡ counted f 1 → g ≡ counted d (cold_places (part h b hs))
  part_counted none d e f g one two three =
      sides_counted (h - 1) b r xs hs at_suc fits_suc long none d e f g one two three
      ∙ ap (λ j. counted d (cold_places (part j b hs))) up

  -- both sides have their places
  pub right_fits : 2 * (b + 2 ^ (h - 1)) + nodes_in (h - 1) ≤ length xs
  right_fits = omega (arith, fits_suc, nodes_in-suc (h - 1), nodes_in-leaves (h - 1))

  pub left_fits : 2 * b + nodes_in (h - 1) ≤ length xs
  left_fits = omega (arith, fits_suc, nodes_in-suc (h - 1))

  -- as many as before, once a side was filled
  pub part_long : length (splice b lower hs) ≡ length xs
  part_long =
      let many : length lower ≡ nodes_in (h - 1) = length-hashes_of b (term_at (h - 1) b xs) ∙ size-term_of (h - 1) (part (h - 1) b xs) in
      length_splice b lower hs (omega (arith, left_fits, many)) ∙ long

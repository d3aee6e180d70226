-- Lists of nodes as they are sent: the last node, what is cut at the end, and the least height.
use Rattle.std.proofs.Common.{◌≡◌, ℕ, zero, suc, ◌+◌, ◌-◌, ◌*◌, ◌^◌, ◌<◌, ◌≤◌, Bool, true, false, not, ◌&&◌, List, [], ◌∷◌, ◌++◌, length, get_or, slice_get, take, drop, Option, Some, None, is_some, unwrap_or, refl, sym, ◌∙◌, ap, arith, pow-suc}
use Rattle.std.proofs.lemmas.List.{take_more, get_or_read, at_drop_more, at_drop_all}
use Rattle.std.proofs.lemmas.Option.{unwrap_or-slice_get}
use Rattle.std.proofs.lemmas.Bool.{true≢false}
use Rattle.std.proofs.Math.Pow.{pow_mono}
use Rattle.mls_leaf.specs.declared.node.Node.{Node}
use Rattle.mls_treemath.specs.Paths.{nodes_in}
use Rattle.mls_tree_model.specs.Arrays.{before, without_last_blanks, has_last, may_stand, alternates, height_for}
use Rattle.mls_tree_model.proofs.ArrayLaws.{nodes_in-leaves, least_height}

-- ---- the last node

has_last_at : (xs : List (Option Node)) (i : ℕ) → length xs ≡ suc i → has_last xs ≡ is_some (get_or xs i None)
unfolding has_last
has_last_at [] i e = absurd (omega arith)
has_last_at (c ∷ []) zero e = refl
has_last_at (c ∷ []) (suc i) e = absurd (omega arith)
has_last_at (c ∷ d ∷ cs) zero e = absurd (omega arith)
has_last_at (c ∷ d ∷ cs) (suc i) e = has_last_at (d ∷ cs) i (omega arith)

pub has_last-lookup : (xs : List (Option Node)) (o : Option (Option Node)) → o ≡ slice_get xs (length xs - 1) → has_last xs ≡ is_some (unwrap_or o None)
unfolding has_last
has_last-lookup [] o e = sym (ap (λ p. is_some (unwrap_or p None)) e)
has_last-lookup (c ∷ cs) o e =
    has_last_at (c ∷ cs) (length (c ∷ cs) - 1) (omega arith)
    ∙ ap is_some (sym (unwrap_or-slice_get (c ∷ cs) (length (c ∷ cs) - 1) None))
    ∙ ap (λ p. is_some (unwrap_or p None)) (sym e)

-- ---- what is cut at the end

cut-blank : (xs : List (Option Node)) → without_last_blanks (xs ++ None ∷ []) ≡ without_last_blanks xs
unfolding without_last_blanks
cut-blank [] = refl
cut-blank (c ∷ xs) = ap (before c) (cut-blank xs)

before-more : (c : Option Node) (xs : List (Option Node)) (d : Option Node) → before c (xs ++ d ∷ []) ≡ c ∷ (xs ++ d ∷ [])
before-more None [] d = refl
before-more None (x ∷ xs) d = refl
before-more (Some n) xs d = refl

cut-taken : (xs : List (Option Node)) (n : Node) → without_last_blanks (xs ++ Some n ∷ []) ≡ xs ++ Some n ∷ []
unfolding without_last_blanks
cut-taken [] n = refl
cut-taken (c ∷ xs) n = ap (before c) (cut-taken xs n) ∙ before-more c xs (Some n)

pub cut-none : without_last_blanks [] ≡ []
unfolding without_last_blanks
cut-none = refl

-- the first n nodes, with the last of them
front : (xs : List (Option Node)) (n : ℕ) (x : Option Node) → 0 < n → n ≤ length xs → x ≡ get_or xs (n - 1) x → take n xs ≡ take (n - 1) xs ++ x ∷ []
front xs n x some within is =
    let next : n ≡ n - 1 + 1 = omega arith in
    ap (λ k. take k xs) next
    ∙ take_more xs (n - 1) None (omega arith)
    ∙ ap (λ y. take (n - 1) xs ++ y ∷ []) (sym (get_or_read xs (n - 1) x (omega arith) is None))

pub cut-front : (xs : List (Option Node)) (n : ℕ) (x : Option Node) → 0 < n → n ≤ length xs → x ≡ get_or xs (n - 1) x → is_some x ≡ true → take n xs ≡ without_last_blanks (take n xs)
cut-front xs n None some within is taken = absurd (true≢false (sym taken))
cut-front xs n (Some y) some within is taken =
    let e = front xs n (Some y) some within is in
    e ∙ sym (cut-taken (take (n - 1) xs) y) ∙ ap without_last_blanks (sym e)

pub cut-back : (xs : List (Option Node)) (n : ℕ) (x : Option Node) → 0 < n → n ≤ length xs → x ≡ get_or xs (n - 1) x → is_some x ≡ false → without_last_blanks (take (n - 1) xs) ≡ without_last_blanks (take n xs)
cut-back xs n None some within is blank = sym (ap without_last_blanks (front xs n None some within is) ∙ cut-blank (take (n - 1) xs))
cut-back xs n (Some y) some within is blank = absurd (true≢false blank)

-- ---- the least height

pub height_for-zero : height_for 0 ≡ 0
height_for-zero = least_height 0 0 (λ k lt. absurd (omega arith)) (omega arith)

pub height_for-log : (n h : ℕ) → 2 ^ h ≤ n → n < 2 * 2 ^ h → height_for n ≡ h
height_for-log n h low high = least_height h n small (omega (arith, nodes_in-leaves h))
  where
    small : (k : ℕ) → k < h → nodes_in k < n
    small k lt = omega (arith, nodes_in-leaves k, pow-suc 2 k, pow_mono {i = suc k} {j = h} (omega arith))

-- ---- cells in their places

-- at the cell x in the place i
module _ (even : Bool) (xs : List (Option Node)) (i : ℕ) (x : Option Node) (within : i < length xs) (is : x ≡ get_or xs i x) where
  step : alternates even (drop i xs) ≡ (may_stand even x && alternates (not even) (drop (i + 1) xs))
  unfolding alternates
  step =
      at_drop_more (alternates even) xs i None within
      ∙ ap (λ c. may_stand even c && alternates (not even) (drop (i + 1) xs)) (sym (get_or_read xs i x within is None))

  pub alternates-refused : may_stand even x ≡ false → alternates even (drop i xs) ≡ false
  alternates-refused no_place = step ∙ ap (λ v. v && alternates (not even) (drop (i + 1) xs)) no_place

  pub alternates-on : may_stand even x ≡ true → alternates (not even) (drop (i + 1) xs) ≡ alternates even (drop i xs)
  alternates-on place = sym (step ∙ ap (λ v. v && alternates (not even) (drop (i + 1) xs)) place)

pub alternates-end : (even : Bool) (xs : List (Option Node)) (i : ℕ) → length xs ≤ i → alternates even (drop i xs) ≡ true
unfolding alternates
alternates-end even xs i past = at_drop_all (alternates even) xs i past

-- The one node of a resolution that a list of leaves doesn't have.
use Rattle.std.proofs.Common.{◌≡◌, ℕ, ◌+◌, ◌-◌, ◌*◌, ◌/◌, ◌%◌, ◌<◌, ◌≤◌, ◌==◌, nat_lt, Bool, true, false, not, ◌&&◌, ◌||◌, List, [], ◌∷◌, Option, Some, None, refl, sym, ◌∙◌, ap, inl, inr, arith, eqb-true, eq-eqb, lt-ltb, le-ltb, ne_eqb}
use Rattle.std.specs.Prelude.{nat_le, nat_eq}
use Rattle.std.specs.Cmp.{both_ways}
use Rattle.std.specs.List.{list_all, list_any, find}
use Rattle.std.specs.List.Sorted.{IsPermutation}
use Rattle.std.proofs.lemmas.List.Sorted.{list_any-IsPermutation}
use Rattle.std.proofs.lemmas.Bool.{true≢false, cases_Bool, and_parts, and_from, or_cases, or_left, or_right, le-leb, lt-leb, and_right, not-true, false_from_ne_true}
use Rattle.mls_leaf.specs.Parent.{Parent}
use Rattle.mls_tree_model.specs.Sets.{has, within, leaf_numbers, is_same_set}
use Rattle.mls_tree_model.specs.Term.{Term, width}
use Rattle.mls_tree_model.specs.Resolution.{resolution}
use Rattle.mls_tree_model.specs.Hashes.{hash_at, is_some_bytes, is_witness, has_witness, parent_hash}
use Rattle.mls_tree_model.proofs.SetLaws.{eqb_refl, any_at, any_from, has-filter, has-leaf_numbers, of_leaf_numbers, set_at, has-any}
use Rattle.mls_tree_array.specs.Witnesses.{numbers_in, others, first_outside, keep_if, only_outside, candidate}

-- ---- lists as sets

-- what a list has doesn't depend on its order
has_moved : (xs ys : List ℕ) (x : ℕ) → IsPermutation xs ys → has ys x ≡ has xs x
has_moved xs ys x moved = sym (sym (has-any xs x) ∙ list_any-IsPermutation (λ y. nat_eq y x) xs ys moved ∙ has-any ys x)

others_moved : (d : ℕ) (xs ys : List ℕ) (x : ℕ) → IsPermutation xs ys → has (others d ys) x ≡ has (others d xs) x
others_moved d xs ys x moved =
    has-filter (λ y. not (y == d)) ys x ∙ ap (λ v. v && not (x == d)) (has_moved xs ys x moved) ∙ sym (has-filter (λ y. not (y == d)) xs x)

-- ---- the leaves in a range

and_yes : (a b : Bool) → b ≡ true → (a && b) ≡ a
and_yes true b e = e
and_yes false b e = refl

pub odd_off : (b e d : ℕ) (us : List ℕ) → d % 2 ≡ 1 → has (numbers_in b e us) d ≡ false
odd_off b e d us odd =
    false_from_ne_true _ (λ h. let g = of_leaf_numbers (within b (e - b) us) d h in let twice : d ≡ 2 * g.0 = g.1 in absurd (omega arith))

in_range : (b e d u : ℕ) (us : List ℕ) → d ≡ 2 * u → has (numbers_in b e us) d ≡ (has us u && (nat_le b u && nat_lt u (b + (e - b))))
in_range b e d u us is =
    ap (has (numbers_in b e us)) is ∙ has-leaf_numbers (within b (e - b) us) u ∙ has-filter (λ x. nat_le b x && nat_lt x (b + (e - b))) us u

pub low_off : (b e d : ℕ) (us : List ℕ) → d % 2 < 1 → d / 2 < b → has (numbers_in b e us) d ≡ false
low_off b e d us even low =
    in_range b e d (d / 2) us (omega arith)
    ∙ and_right (has us (d / 2)) _ (ap (λ v. v && nat_lt (d / 2) (b + (e - b))) (lt-leb b (d / 2) low))

pub high_off : (b e d : ℕ) (us : List ℕ) → d % 2 < 1 → b ≤ e → e ≤ d / 2 → has (numbers_in b e us) d ≡ false
high_off b e d us even order high =
    in_range b e d (d / 2) us (omega arith)
    ∙ and_right (has us (d / 2)) _ (and_right (nat_le b (d / 2)) _ (le-ltb (d / 2) (b + (e - b)) (omega arith)))

pub between : (b e d : ℕ) (us : List ℕ) → d % 2 < 1 → b ≤ d / 2 → d / 2 < e → has (numbers_in b e us) d ≡ has us (d / 2)
between b e d us even low high =
    in_range b e d (d / 2) us (omega arith)
    ∙ and_yes (has us (d / 2)) _ (and_from _ _ (le-leb b (d / 2) low) (lt-ltb (d / 2) (b + (e - b)) (omega arith)))

-- ---- the tests of a leaf and a node

inside : (b e u d : ℕ) (xs : List ℕ) → b ≤ u → u < e → (not (nat_le b u && nat_lt u (b + (e - b))) || has (others d xs) (2 * u)) ≡ (has xs (2 * u) && not (2 * u == d))
inside b e u d xs low high =
    ap (λ v. not v || has (others d xs) (2 * u)) (and_from _ _ (le-leb b u low) (lt-ltb u (b + (e - b)) (omega arith)))
    ∙ has-filter (λ x. not (x == d)) xs (2 * u)

pub inside_same : (b e u d : ℕ) (xs : List ℕ) → b ≤ u → u < e → 2 * u ≡ d → (not (nat_le b u && nat_lt u (b + (e - b))) || has (others d xs) (2 * u)) ≡ false
inside_same b e u d xs low high is =
    inside b e u d xs low high ∙ and_right (has xs (2 * u)) _ (ap not (eq-eqb (2 * u) d is))

pub inside_other : (b e u d : ℕ) (xs : List ℕ) → b ≤ u → u < e → (2 * u ≡ d → ⊥) → (not (nat_le b u && nat_lt u (b + (e - b))) || has (others d xs) (2 * u)) ≡ has xs (2 * u)
inside_other b e u d xs low high other =
    inside b e u d xs low high ∙ and_yes (has xs (2 * u)) _ (ap not (ne_eqb (2 * u) d other))

-- ---- tests of what filters keep

all_others : (p : ℕ → Bool) (d : ℕ) (xs : List ℕ) → list_all p (others d xs) ≡ list_all (λ x. (x == d) || p x) xs
all_others p d [] = refl
all_others p d (x ∷ xs) =
    elim (cases_Bool (x == d)) [
      | inl k ↦ rw k (all_others p d xs)
      | inr k ↦ rw k (ap (λ v. p x && v) (all_others p d xs))
    ]

all_numbers : (p : ℕ → Bool) (b n : ℕ) (us : List ℕ) → list_all p (leaf_numbers (within b n us)) ≡ list_all (λ u. not (nat_le b u && nat_lt u (b + n)) || p (2 * u)) us
all_numbers p b n [] = refl
all_numbers p b n (u ∷ us) =
    elim (cases_Bool (nat_le b u && nat_lt u (b + n))) [
      | inl k ↦ rw k (ap (λ v. p (2 * u) && v) (all_numbers p b n us))
      | inr k ↦ rw k (all_numbers p b n us)
    ]

pub not_others : (b e d : ℕ) (us xs : List ℕ) → list_all (λ x. (x == d) || has (numbers_in b e us) x) xs ≡ false → is_same_set (numbers_in b e us) (others d xs) ≡ false
not_others b e d us xs none = and_right _ _ (all_others (has (numbers_in b e us)) d xs ∙ none)

pub are_others : (b e d : ℕ) (us xs : List ℕ) → list_all (λ x. (x == d) || has (numbers_in b e us) x) xs ≡ true → is_same_set (numbers_in b e us) (others d xs) ≡ list_all (λ u. not (nat_le b u && nat_lt u (b + (e - b))) || has (others d xs) (2 * u)) us
are_others b e d us xs all =
    and_yes _ _ (all_others (has (numbers_in b e us)) d xs ∙ all)
    ∙ all_numbers (has (others d xs)) b (e - b) us

-- of leaves in the other nodes, where these are sorted
pub leaves_moved : (b e d : ℕ) (us xs ys : List ℕ) → IsPermutation xs ys → list_all (λ u. not (nat_le b u && nat_lt u (b + (e - b))) || has (others d ys) (2 * u)) us ≡ list_all (λ u. not (nat_le b u && nat_lt u (b + (e - b))) || has (others d xs) (2 * u)) us
leaves_moved b e d [] xs ys moved = refl
leaves_moved b e d (u ∷ us) xs ys moved =
    ap (λ v. (not (nat_le b u && nat_lt u (b + (e - b))) || v) && list_all (λ w. not (nat_le b w && nat_lt w (b + (e - b))) || has (others d ys) (2 * w)) us) (others_moved d xs ys (2 * u) moved)
    ∙ ap (λ v. (not (nat_le b u && nat_lt u (b + (e - b))) || has (others d xs) (2 * u)) && v) (leaves_moved b e d us xs ys moved)

-- ---- the first node that passes a test

pub find_here : (p : ℕ → Bool) (x : ℕ) (xs : List ℕ) → p x ≡ true → find p (x ∷ xs) ≡ Some x
find_here p x xs e = rw e refl

pub find_later : (p : ℕ → Bool) (x : ℕ) (xs : List ℕ) → p x ≡ false → find p (x ∷ xs) ≡ find p xs
find_later p x xs e = rw e refl

pub find_none : (p : ℕ → Bool) (xs : List ℕ) (x : ℕ) → find p xs ≡ None → has xs x ≡ true → p x ≡ false
unfolding has
find_none p [] x none e = absurd (true≢false (sym e))
find_none p (y ∷ ys) x none e =
    elim (cases_Bool (p y)) [
      | inl t ↦ absurd (let f = sym (find_here p y ys t) ∙ none in impossible y f)
      | inr t ↦
          elim (or_cases (y == x) (has ys x) e) [
            | inl k ↦ ap p (sym (eqb-true y x k)) ∙ t
            | inr k ↦ find_none p ys x (sym (find_later p y ys t) ∙ none) k
          ]
    ]
  where
    impossible : (y : ℕ) → Some y ≡ None → ⊥
    impossible y e = cc

pub find_some : (p : ℕ → Bool) (xs : List ℕ) (d : ℕ) → find p xs ≡ Some d → (has xs d ≡ true) × (p d ≡ true)
unfolding has
find_some p [] d some = absurd (impossible some)
  where
    impossible : None ≡ Some d → ⊥
    impossible e = cc
find_some p (y ∷ ys) d some =
    elim (cases_Bool (p y)) [
      | inl t ↦ let is : y ≡ d = inner (sym (find_here p y ys t) ∙ some) in (or_left (y == d) (has ys d) (eq-eqb y d is), sym (ap p is) ∙ t)
      | inr t ↦ let r = find_some p ys d (sym (find_later p y ys t) ∙ some) in (or_right (y == d) (has ys d) r.0, r.1)
    ]
  where
    inner : Some y ≡ Some d → y ≡ d
    inner e = cc

-- ---- the only node that can be a witness

-- whether there is a node, and it passes a test
abbrev pub given : (ℕ → Bool) → Option ℕ → Bool
given f None = false
given f (Some d) = f d

-- where a list is the other nodes, it doesn't have this one, and has all the others
pub off : (ls xs : List ℕ) (d : ℕ) → is_same_set ls (others d xs) ≡ true → has ls d ≡ false
off ls xs d same =
    set_at ls (others d xs) same d ∙ has-filter (λ x. not (x == d)) xs d ∙ and_right (has xs d) _ (ap not (eqb_refl d))

pub one : (ls xs : List ℕ) (d x : ℕ) → is_same_set ls (others x xs) ≡ true → has xs d ≡ true → has ls d ≡ false → d ≡ x
one ls xs d x same there out =
    elim (cases_Bool (d == x)) [
      | inl k ↦ eqb-true d x k
      | inr k ↦
          absurd (true≢false (sym (
          set_at ls (others x xs) same d ∙ has-filter (λ y. not (y == x)) xs d ∙ and_from _ _ there (ap not k)) ∙ out))
    ]

tied_at : (ls xs : List ℕ) (f : ℕ → Bool) (o : Option ℕ) → first_outside ls xs ≡ o → list_any (λ d. f d && is_same_set ls (others d xs)) xs ≡ given f (keep_if (λ d. is_same_set ls (others d xs)) o)
tied_at ls xs f None e =
    false_from_ne_true _ (λ h.
    let g = any_at (λ d. f d && is_same_set ls (others d xs)) xs h in
    let p = and_parts (f g.0) _ g.2 in
    let out : has ls g.0 ≡ false = off ls xs g.0 p.1 in
    absurd (true≢false (sym (ap not out) ∙ find_none (λ x. not (has ls x)) xs g.0 e g.1)))
tied_at ls xs f (Some d) e =
    let s = find_some (λ x. not (has ls x)) xs d e in
    let out : has ls d ≡ false = not-true (has ls d) s.1 in
    elim (cases_Bool (is_same_set ls (others d xs))) [
      | inl t ↦
          rw t (both_ways _ _
          (λ h. let g = any_at (λ d. f d && is_same_set ls (others d xs)) xs h in let p = and_parts (f g.0) _ g.2 in ap f (one ls xs d g.0 p.1 s.0 out) ∙ p.0)
          (λ h. any_from (λ d. f d && is_same_set ls (others d xs)) xs d s.0 (and_from (f d) _ h t)))
      | inr t ↦
          rw t (false_from_ne_true _ (λ h.
          let g = any_at (λ d. f d && is_same_set ls (others d xs)) xs h in
          let p = and_parts (f g.0) _ g.2 in
          absurd (true≢false (sym (ap (λ x. is_same_set ls (others x xs)) (one ls xs d g.0 p.1 s.0 out) ∙ p.1) ∙ t))))
    ]

pub witness_is : (p : Parent) (b : ℕ) (c : Term) (m : ℕ) (s : Term) → has_witness p b c m s ≡ given (λ d. is_some_bytes (hash_at b c d) (parent_hash p m s)) (candidate p b c)
unfolding has_witness is_witness candidate only_outside
witness_is p b c m s =
    tied_at (leaf_numbers (within b (width c) p.unmerged_leaves)) (resolution b c) (λ d. is_some_bytes (hash_at b c d) (parent_hash p m s)) _ refl

-- Fronts of keys, and the order by them.
use Rattle.std.proofs.Common.{◌≡◌, ℕ, zero, suc, ◌+◌, ◌*◌, ◌<◌, ◌==◌, ◌⊎◌, nat_eq, nat_lt, Bool, true, false, ◌&&◌, cond, List, [], ◌∷◌, get_or, Option, refl, sym, ◌∙◌, ap, subst, arith, inl, inr, eq-eqb, ne_eqb, lt-ltb, le-ltb}
use Rattle.std.proofs.lemmas.Bool.{true≢false, false_from_ne_true, cases_Bool, cases_lt}
use Rattle.std.proofs.lemmas.Cmp.{then_total, on_total, nat_cmp_total}
use Rattle.std.proofs.Math.Bool.{and-false}
use Rattle.std.specs.Cmp.{IsTotalOrder}
use Rattle.std.specs.Cmp.Lexicographic.{pointwise, slice_cmp, same_text}
use Rattle.std.specs.Option.{unwrap_or}
use Rattle.std.specs.Ordering.{nat_cmp, ordering_then, is_lt, is_eq, is_gt}
use Rattle.std.specs.declared.cmp.Ordering.{Ordering}
use Rattle.std.specs.declared.cmp.Ordering.TheVariants.{Less, Equal, Greater}
use Rattle.mls_tree_index.specs.declared.entry.Entry.{Entry}
use Rattle.mls_tree_index.specs.Keys.{is_key}
use Rattle.mls_tree_index.specs.Order.{entry_at, entry_cmp}
use Rattle.mls_tree_index.specs.Entries.{front_of, BeginsWithBytes, IsEntry, fronted, front_cmp}
use Rattle.mls_tree_index.proofs.OrderLaws.{entry_total, is_above, key_found, not_both}

pub front_total : IsTotalOrder front_cmp
front_total = then_total (on_total (λ e. e.0) nat_cmp_total) (on_total (λ e. e.1) entry_total)

-- ---- numbers in order

less_cmp : (x y : ℕ) → x < y → nat_cmp x y ≡ Less
less_cmp x y lt = ap (λ v. cond v Less (cond (x == y) Equal Greater)) (lt-ltb x y lt)

same_cmp : (x y : ℕ) → x ≡ y → nat_cmp x y ≡ Equal
same_cmp x y same = ap (λ v. cond v Less (cond (x == y) Equal Greater)) (le-ltb x y (omega arith)) ∙ ap (λ v. cond v Equal Greater) (eq-eqb x y same)

unequal : (v w : Bool) (s : Ordering) → w ≡ false → cond v Less (cond w Equal Greater) ≡ ordering_then (cond v Less (cond w Equal Greater)) s
unequal true w s h = refl
unequal false true s h = absurd (true≢false h)
unequal false false s h = refl

-- where numbers differ, nothing else tells their order
pub then_other : (x y : ℕ) (s : Ordering) → (x ≡ y → ⊥) → nat_cmp x y ≡ ordering_then (nat_cmp x y) s
then_other x y s other = unequal (nat_lt x y) (x == y) s (ne_eqb x y other)

-- and where they are one, all else does
pub then_same : (x y : ℕ) (s : Ordering) → x ≡ y → s ≡ ordering_then (nat_cmp x y) s
then_same x y s same = sym (ap (λ r. ordering_then r s) (same_cmp x y same))

is_lower : (v w : Bool) → v ≡ is_lt (cond v Less (cond w Equal Greater))
is_lower true w = refl
is_lower false true = refl
is_lower false false = refl

-- the same of what is lower
pub lower_other : (x y : ℕ) (s : Ordering) → (x ≡ y → ⊥) → nat_lt x y ≡ is_lt (ordering_then (nat_cmp x y) s)
lower_other x y s other = is_lower (nat_lt x y) (x == y) ∙ ap is_lt (then_other x y s other)

pub lower_same : (x y : ℕ) (s : Ordering) → x ≡ y → is_lt s ≡ is_lt (ordering_then (nat_cmp x y) s)
lower_same x y s same = ap is_lt (then_same x y s same)

more_cmp : (x y : ℕ) → y < x → nat_cmp x y ≡ Greater
more_cmp x y more = ap (λ v. cond v Less (cond (x == y) Equal Greater)) (le-ltb x y (omega arith)) ∙ ap (λ v. cond v Equal Greater) (ne_eqb x y (λ e. absurd (omega arith)))

-- ---- lists in order

abbrev rest : List ℕ → List ℕ
rest [] = []
rest (x ∷ xs) = xs

get_rest : (k : List ℕ) (j : ℕ) → get_or (rest k) j 0 ≡ get_or k (suc j) 0
get_rest [] j = refl
get_rest (x ∷ xs) j = refl

never_less : (xs : List ℕ) → slice_cmp nat_cmp xs [] ≡ Less → ⊥
never_less [] h = true≢false (ap is_eq h)
never_less (x ∷ xs) h = true≢false (ap is_gt h)

less_first : (k l : List ℕ) → get_or k 0 0 < get_or l 0 0 → slice_cmp nat_cmp k l ≡ Less
less_first [] [] lt = let bad : 0 < 0 = lt in absurd (omega arith)
less_first [] (y ∷ ys) lt = refl
less_first (x ∷ xs) [] lt = let bad : x < 0 = lt in absurd (omega arith)
less_first (x ∷ xs) (y ∷ ys) lt = ap (λ r. ordering_then r (slice_cmp nat_cmp xs ys)) (less_cmp x y lt)

less_behind : (k l : List ℕ) → get_or k 0 0 ≡ get_or l 0 0 → slice_cmp nat_cmp (rest k) (rest l) ≡ Less → slice_cmp nat_cmp k l ≡ Less
less_behind [] [] same h = h
less_behind [] (y ∷ ys) same h = refl
less_behind (x ∷ xs) [] same h = absurd (never_less xs h)
less_behind (x ∷ xs) (y ∷ ys) same h = ap (λ r. ordering_then r (slice_cmp nat_cmp xs ys)) (same_cmp x y same) ∙ h

-- the first place where two lists differ tells their order, and what is missing counts as 0
less_from : (n : ℕ) (k l : List ℕ) → ((j : ℕ) → j < n → get_or k j 0 ≡ get_or l j 0) → get_or k n 0 < get_or l n 0 → slice_cmp nat_cmp k l ≡ Less
less_from zero k l same lt = less_first k l lt
less_from (suc n) k l same lt =
    less_behind k l (same 0 (omega arith))
    (less_from n (rest k) (rest l) (λ j low. get_rest k j ∙ same (suc j) (omega arith) ∙ sym (get_rest l j)) (moved (get_rest k n) (get_rest l n)))
  where
    moved : get_or (rest k) n 0 ≡ get_or k (suc n) 0 → get_or (rest l) n 0 ≡ get_or l (suc n) 0 → get_or (rest k) n 0 < get_or (rest l) n 0
    moved a b = subst (λ m. m < get_or (rest l) n 0) (sym a) (subst (λ m. get_or k (suc n) 0 < m) (sym b) lt)

-- ---- fronts

same_more : (f g : ℕ → ℕ) (n : ℕ) → ((j : ℕ) → j < n → f j ≡ g j) → f n ≡ g n → (j : ℕ) → j < suc n → f j ≡ g j
same_more f g n below here j lt = elim (cases_lt j n) [
  | inl less ↦ below j less
  | inr ge ↦ let same : n ≡ j = omega arith in subst (λ m. f m ≡ g m) same here
]

-- which of four digits is the first that is lower
first_lower : (a b c d e f g h : ℕ) → b < 256 → c < 256 → d < 256 → f < 256 → g < 256 → h < 256
    → 16777216 * a + 65536 * b + 256 * c + d < 16777216 * e + 65536 * f + 256 * g + h
    → (a < e) ⊎ ((a ≡ e) × ((b < f) ⊎ ((b ≡ f) × ((c < g) ⊎ ((c ≡ g) × (d < h))))))
first_lower a b c d e f g h low_b low_c low_d low_f low_g low_h lt =
    elim (cases_lt a e) [
      | inl less ↦ inl less
      | inr ge ↦
          let one : a ≡ e = omega arith in
          inr (
            one,
            elim (cases_lt b f) [
              | inl less ↦ inl less
              | inr ge_b ↦
                  let two : b ≡ f = omega arith in
                  inr (
                    two,
                    elim (cases_lt c g) [
                      | inl less ↦ inl less
                      | inr ge_c ↦ let three : c ≡ g = omega arith in let four : d < h = omega arith in inr (three, four)
                    ],
                  )
            ],
          )
    ]

module _ (k l : List ℕ) (own : BeginsWithBytes k) (other : BeginsWithBytes l) where
  abbrev at_k : ℕ → ℕ
  at_k j = get_or k j 0

  abbrev at_l : ℕ → ℕ
  at_l j = get_or l j 0

  none_below : (j : ℕ) → j < 0 → at_k j ≡ at_l j
  none_below j lt = absurd (omega arith)

  -- keys with other fronts have the fronts' order
  pub front_less : front_of k < front_of l → slice_cmp nat_cmp k l ≡ Less
  front_less lt =
      elim (first_lower (get_or k 0 0) (get_or k 1 0) (get_or k 2 0) (get_or k 3 0) (get_or l 0 0) (get_or l 1 0) (get_or l 2 0) (get_or l 3 0) own.second own.third own.fourth other.second other.third other.fourth lt) [
        | inl first ↦ less_from 0 k l none_below first
        | inr one ↦
            let below_one = same_more at_k at_l 0 none_below one.0 in
            elim one.1 [
              | inl second ↦ less_from 1 k l below_one second
              | inr two ↦
                  let below_two = same_more at_k at_l 1 below_one two.0 in
                  elim two.1 [
                    | inl third ↦ less_from 2 k l below_two third
                    | inr three ↦ less_from 3 k l (same_more at_k at_l 2 below_two three.0) three.1
                  ]
            ]
      ]

-- ---- entries

module _ (at : ℕ → Option (List ℕ)) (d e : Entry) (one : IsEntry at d) (other : IsEntry at e) where
  abbrev key_d : List ℕ
  key_d = unwrap_or (at d.number) []

  abbrev key_e : List ℕ
  key_e = unwrap_or (at e.number) []

  own_d : key_d ≡ one.key
  own_d = ap (λ o. unwrap_or o []) one.here

  own_e : key_e ≡ other.key
  own_e = ap (λ o. unwrap_or o []) other.here

  keys_less : d.front < e.front → slice_cmp nat_cmp key_d key_e ≡ Less
  keys_less less =
      ap (λ k. slice_cmp nat_cmp k key_e) own_d
      ∙ ap (λ k. slice_cmp nat_cmp one.key k) own_e
      ∙ front_less one.key other.key one.bytes other.bytes (subst (λ n. n < front_of other.key) one.front (subst (λ n. d.front < n) other.front less))

  -- of two entries with other numbers, that which isn't above by front is below
  pub entry_below : is_lt (front_cmp (fronted at e) (fronted at d)) ≡ false → (e.number ≡ d.number → ⊥) → entry_cmp (entry_at at d.number) (entry_at at e.number) ≡ Less
  entry_below h apart =
      elim (cases_lt d.front e.front) [
        | inl less ↦ ap (λ r. ordering_then r (nat_cmp d.number e.number)) (keys_less less)
        | inr ge ↦ elim (cases_lt e.front d.front) [
          | inl more ↦ absurd (true≢false (sym (ap (λ r. is_lt (ordering_then r (entry_cmp (entry_at at e.number) (entry_at at d.number)))) (less_cmp e.front d.front more)) ∙ h))
          | inr le ↦ is_above (entry_at at e.number) (entry_at at d.number) (ap is_lt (then_same e.front d.front (entry_cmp (entry_at at e.number) (entry_at at d.number)) (omega arith)) ∙ h) apart
        ]
      ]

  -- entries with other fronts have other keys
  pub other_keys : (d.front ≡ e.front → ⊥) → pointwise nat_eq key_d key_e ≡ false
  other_keys apart = false_from_ne_true (pointwise nat_eq key_d key_e) (λ h.
      apart (one.front ∙ ap front_of (sym own_d ∙ same_text key_d key_e (sym h) ∙ own_e) ∙ sym other.front))

-- ---- an entry and a key

module _ (at : ℕ → Option (List ℕ)) (d : Entry) (one : IsEntry at d) (key : List ℕ) where
  own_key : unwrap_or (at d.number) [] ≡ one.key
  own_key = ap (λ o. unwrap_or o []) one.here

  -- by its front and then by its key, it is that of a key where it is by its key
  pub of_by_key : (nat_eq d.front (front_of key) && is_key key (at d.number)) ≡ is_key key (at d.number)
  of_by_key = elim (cases_Bool (is_key key (at d.number))) [
    | inl is ↦
        let same : one.key ≡ key = sym own_key ∙ ap (λ o. unwrap_or o []) (key_found key (at d.number) is) in
        ap (λ v. v && is_key key (at d.number)) (eq-eqb d.front (front_of key) (one.front ∙ ap front_of same))
    | inr other ↦ ap (λ v. nat_eq d.front (front_of key) && v) other ∙ and-false _ ∙ sym other
  ]

  module _ (bytes : BeginsWithBytes key) (x : ℕ) where
    below_key : d.front < front_of key → slice_cmp nat_cmp (unwrap_or (at d.number) []) key ≡ Less
    below_key less =
        ap (λ k. slice_cmp nat_cmp k key) own_key
        ∙ front_less one.key key one.bytes bytes (subst (λ n. n < front_of key) one.front less)

    above_key : front_of key < d.front → slice_cmp nat_cmp key (unwrap_or (at d.number) []) ≡ Less
    above_key more =
        ap (slice_cmp nat_cmp key) own_key
        ∙ front_less key one.key bytes one.bytes (subst (λ n. front_of key < n) one.front more)

    -- by front, by key and then by number, it is below a key with a number where it is by key and number
    pub lower_by_key : is_lt (front_cmp (fronted at d) (front_of key, (key, x))) ≡ is_lt (entry_cmp (entry_at at d.number) (key, x))
    lower_by_key = elim (cases_lt d.front (front_of key)) [
      | inl less ↦
          ap (λ r. is_lt (ordering_then r (entry_cmp (entry_at at d.number) (key, x)))) (less_cmp d.front (front_of key) less)
          ∙ sym (ap (λ r. is_lt (ordering_then r (nat_cmp d.number x))) (below_key less))
      | inr ge ↦ elim (cases_lt (front_of key) d.front) [
        | inl more ↦
            ap (λ r. is_lt (ordering_then r (entry_cmp (entry_at at d.number) (key, x)))) (more_cmp d.front (front_of key) more)
            ∙ sym (not_both (key, x) (entry_at at d.number) (ap (λ r. ordering_then r (nat_cmp x d.number)) (above_key more)))
        | inr le ↦ sym (ap is_lt (then_same d.front (front_of key) (entry_cmp (entry_at at d.number) (key, x)) (omega arith)))
      ]
    ]

-- Laws of cells of which some are blanked.
use Rattle.std.proofs.Common.{◌≡◌, ℕ, zero, suc, ◌+◌, ◌==◌, nat_eq, Bool, true, false, cond, List, [], ◌∷◌, length, get_or, Option, None, is_some, refl, sym, ◌∙◌, ap, arith, inl, inr, eq-eqb, ne_eqb, eqb-true, ◌||◌}
use Rattle.std.proofs.lemmas.Bool.{true≢false, cases_Bool, and_parts}
use Rattle.mls_leaf.specs.declared.node.Node.{Node}
use Rattle.mls_tree_model.specs.Sets.{has, count, is_distinct}
use Rattle.mls_tree_index.specs.declared.kind.KeyKind.{KeyKind}
use Rattle.mls_tree_index.specs.Keys.{key_of, key_in}
use Rattle.mls_tree_index.specs.Order.{IsPart}
use Rattle.mls_tree_index.specs.Indexes.{Listing, Indexes, Without}
use Rattle.mls_tree_index.specs.BlankedCells.{cells_without, HasPlaces}
use Rattle.mls_tree_index.proofs.EntryLaws.{no_key}
use Rattle.mls_tree_index.proofs.CountLaws.{none_blank}
use Rattle.mls_tree_index.proofs.Laws.{indexes_alike}

length_cleared : (b : ℕ) (ns : List ℕ) (cs : List (Option Node)) → length (cells_without b ns cs) ≡ length cs
unfolding cells_without
length_cleared b ns [] = refl
length_cleared b ns (c ∷ cs) = ap suc (length_cleared (suc b) ns cs)

cleared_from : (b : ℕ) (ns : List ℕ) (cs : List (Option Node)) (y : ℕ) → get_or (cells_without b ns cs) y None ≡ cond (has ns (b + y)) None (get_or cs y None)
unfolding cells_without
cleared_from b ns [] y = sym (both_none (has ns (b + y)))
  where
    both_none : (v : Bool) → cond {A = Option Node} v None None ≡ None
    both_none true = refl
    both_none false = refl
cleared_from b ns (c ∷ cs) zero = let at : b ≡ b + 0 = omega arith in ap (λ n. cond (has ns n) None c) at
cleared_from b ns (c ∷ cs) (suc y) = let at : suc b + y ≡ b + suc y = omega arith in cleared_from (suc b) ns cs y ∙ ap (λ n. cond (has ns n) None (get_or cs y None)) at

cleared_at : (ns : List ℕ) (cs : List (Option Node)) (y : ℕ) → get_or (cells_without 0 ns cs) y None ≡ cond (has ns y) None (get_or cs y None)
cleared_at ns cs y = let at : 0 + y ≡ y = omega arith in cleared_from 0 ns cs y ∙ ap (λ n. cond (has ns n) None (get_or cs y None)) at

module _ (k : KeyKind) (ns : List ℕ) (cs : List (Option Node)) where
  pub key_cleared : (y : ℕ) → has ns y ≡ true → key_in k (cells_without 0 ns cs) y ≡ None
  key_cleared y h = ap (key_of k) (cleared_at ns cs y ∙ ap (λ v. cond v None (get_or cs y None)) h) ∙ none_blank k

  pub key_left : (y : ℕ) → has ns y ≡ false → key_in k (cells_without 0 ns cs) y ≡ key_in k cs y
  key_left y h = ap (key_of k) (cleared_at ns cs y ∙ ap (λ v. cond v None (get_or cs y None)) h)

-- cells that were blanked have no other keys
pub cleared_part : (k : KeyKind) (ns : List ℕ) (cs : List (Option Node)) → IsPart (key_in k (cells_without 0 ns cs)) (key_in k cs)
cleared_part k ns cs y some = elim (cases_Bool (has ns y)) [
  | inl on ↦ absurd (no_key (key_in k (cells_without 0 ns cs) y) (key_cleared k ns cs y on) some)
  | inr out ↦ sym (key_left k ns cs y out)
]

-- without the same cells, two lists are indexed alike where they differ at those alone
pub cleared_alike : (t : Listing) (ns : List ℕ) (old new : List (Option Node)) → ((y : ℕ) → has ns y ≡ false → key_in t.kind old y ≡ key_in t.kind new y) → Indexes (cells_without 0 ns old) t → Indexes (cells_without 0 ns new) t
cleared_alike t ns old new same = indexes_alike t (cells_without 0 ns old) (cells_without 0 ns new) (λ y. elim (cases_Bool (has ns y)) [
  | inl h ↦ key_cleared t.kind ns old y h ∙ sym (key_cleared t.kind ns new y h)
  | inr h ↦ key_left t.kind ns old y h ∙ same y h ∙ sym (key_left t.kind ns new y h)
])

-- ---- one place after another

not_again : (x : ℕ) (ns : List ℕ) → count nat_eq x ns ≡ 0 → has ns x ≡ false
unfolding count has
not_again x [] h = refl
not_again x (n ∷ ns) h =
    elim (cases_Bool (n == x)) [
      | inl same ↦ absurd (some_more (count nat_eq x ns) (sym (ap (λ v. cond v 1 0 + count nat_eq x ns) same) ∙ h))
      | inr other ↦ rw other (not_again x ns (rest (count nat_eq x ns) (sym (ap (λ v. cond v 1 0 + count nat_eq x ns) other) ∙ h)))
    ]
  where
    some_more : (n : ℕ) → 1 + n ≡ 0 → ⊥
    some_more n e = absurd (omega arith)

    rest : (n : ℕ) → 0 + n ≡ 0 → n ≡ 0
    rest n e = omega arith

module _ (x : ℕ) (ns : List ℕ) (distinct : is_distinct nat_eq (x ∷ ns) ≡ true) where
  pub rest_distinct : is_distinct nat_eq ns ≡ true
  unfolding is_distinct
  rest_distinct = (and_parts (count nat_eq x ns == 0) (is_distinct nat_eq ns) distinct).1

  first_once : has ns x ≡ false
  unfolding is_distinct
  first_once = not_again x ns (eqb-true (count nat_eq x ns) 0 (and_parts (count nat_eq x ns == 0) (is_distinct nat_eq ns) distinct).0)

  first_has : has (x ∷ ns) x ≡ true
  unfolding has
  first_has = ap (λ v. v || has ns x) (eq-eqb x x refl)

  rest_has : (y : ℕ) → has ns y ≡ true → has (x ∷ ns) y ≡ true
  unfolding has
  rest_has y h = ap (λ v. (x == y) || v) h ∙ or_true (x == y)
    where
      or_true : (v : Bool) → (v || true) ≡ true
      or_true true = refl
      or_true false = refl

  one_has : (y : ℕ) → has (x ∷ []) y ≡ (x == y)
  unfolding has
  one_has y = or_false (x == y)
    where
      or_false : (v : Bool) → (v || false) ≡ v
      or_false true = refl
      or_false false = refl

  more_has : (y : ℕ) → (x == y) ≡ false → has (x ∷ ns) y ≡ has ns y
  unfolding has
  more_has y h = ap (λ v. v || has ns y) h

  module _ (k : KeyKind) (cells c : List (Option Node)) (places : HasPlaces k (x ∷ ns) cells c) where
    pub first_without : Without k x cells (cells_without 0 (x ∷ []) c) c
    first_without = record {
      wide = places.wide;
      long = length_cleared 0 (x ∷ []) c;
      part = places.part;
      here = places.here x first_has;
      blank = key_cleared k (x ∷ []) c x (one_has x ∙ eq-eqb x x refl);
      others = λ y other. key_left k (x ∷ []) c y (one_has y ∙ ne_eqb x y (λ e. other (sym e)));
    }

    part_rest : IsPart (key_in k (cells_without 0 (x ∷ []) c)) (key_in k cells)
    part_rest y some = elim (cases_Bool (has (x ∷ []) y)) [
      | inl h ↦ absurd (no_key (key_in k (cells_without 0 (x ∷ []) c) y) (key_cleared k (x ∷ []) c y h) some)
      | inr h ↦ places.part y (ap is_some (sym (key_left k (x ∷ []) c y h)) ∙ some) ∙ sym (key_left k (x ∷ []) c y h)
    ]

    pub rest_places : HasPlaces k ns cells (cells_without 0 (x ∷ []) c)
    rest_places = record {
      wide = length_cleared 0 (x ∷ []) c ∙ places.wide;
      part = part_rest;
      here = λ y h. key_left k (x ∷ []) c y (one_has y ∙ apart y h) ∙ places.here y (rest_has y h);
    }
      where
        apart : (y : ℕ) → has ns y ≡ true → (x == y) ≡ false
        apart y h = ne_eqb x y (λ e. true≢false (sym (ap (has ns) e ∙ h) ∙ first_once))

    -- the rest blanked after the first, or all at once
    both_cleared : (y : ℕ) → key_in k (cells_without 0 ns (cells_without 0 (x ∷ []) c)) y ≡ key_in k (cells_without 0 (x ∷ ns) c) y
    both_cleared y = elim (cases_Bool (has ns y)) [
      | inl h ↦ key_cleared k ns (cells_without 0 (x ∷ []) c) y h ∙ sym (key_cleared k (x ∷ ns) c y (rest_has y h))
      | inr h ↦
          key_left k ns (cells_without 0 (x ∷ []) c) y h
          ∙ elim (cases_Bool (x == y)) [
            | inl same ↦ key_cleared k (x ∷ []) c y (one_has y ∙ same) ∙ sym (key_cleared k (x ∷ ns) c y (first_here y same))
            | inr other ↦ key_left k (x ∷ []) c y (one_has y ∙ other) ∙ sym (key_left k (x ∷ ns) c y (more_has y other ∙ h))
          ]
    ]
      where
        first_here : (y : ℕ) → (x == y) ≡ true → has (x ∷ ns) y ≡ true
        first_here y same = ap (has (x ∷ ns)) (sym (eqb-true x y same)) ∙ first_has

  -- the first comes back before the rest
  pub back_without : (k : KeyKind) (cs : List (Option Node)) → Without k x cs (cells_without 0 (x ∷ ns) cs) (cells_without 0 ns cs)
  back_without k cs = record {
    wide = length_cleared 0 ns cs;
    long = length_cleared 0 (x ∷ ns) cs ∙ sym (length_cleared 0 ns cs);
    part = cleared_part k ns cs;
    here = key_left k ns cs x first_once;
    blank = key_cleared k (x ∷ ns) cs x first_has;
    others = λ y other. elim (cases_Bool (has ns y)) [
      | inl on ↦ key_cleared k (x ∷ ns) cs y (rest_has y on) ∙ sym (key_cleared k ns cs y on)
      | inr out ↦ key_left k (x ∷ ns) cs y (more_has y (ne_eqb x y (λ e. other (sym e))) ∙ out) ∙ sym (key_left k ns cs y out)
    ];
  }

pub all_left : (x : ℕ) (ns : List ℕ) (distinct : is_distinct nat_eq (x ∷ ns) ≡ true) (t : Listing) (cells c : List (Option Node)) → HasPlaces t.kind (x ∷ ns) cells c → Indexes (cells_without 0 ns (cells_without 0 (x ∷ []) c)) t → Indexes (cells_without 0 (x ∷ ns) c) t
all_left x ns distinct t cells c places = indexes_alike t _ _ (both_cleared x ns distinct t.kind cells c places)

pub all_blank : (x : ℕ) (ns : List ℕ) (distinct : is_distinct nat_eq (x ∷ ns) ≡ true) (t : Listing) (cells c : List (Option Node)) → HasPlaces t.kind (x ∷ ns) cells c → Indexes (cells_without 0 (x ∷ ns) c) t → Indexes (cells_without 0 ns (cells_without 0 (x ∷ []) c)) t
all_blank x ns distinct t cells c places = indexes_alike t _ _ (λ y. sym (both_cleared x ns distinct t.kind cells c places y))

pub none_cleared : (t : Listing) (c : List (Option Node)) → Indexes c t → Indexes (cells_without 0 [] c) t
unfolding has
none_cleared t c = indexes_alike t c (cells_without 0 [] c) (λ y. sym (key_left t.kind [] c y refl))

pub cleared_none : (t : Listing) (c : List (Option Node)) → Indexes (cells_without 0 [] c) t → Indexes c t
unfolding has
cleared_none t c = indexes_alike t (cells_without 0 [] c) c (λ y. key_left t.kind [] c y refl)

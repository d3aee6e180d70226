-- The pairs of a member's keys are in order, and they are what it has.
use Rattle.std.proofs.Common.{◌≡◌, ℕ, suc, ◌+◌, ◌*◌, ◌<◌, ◌≤◌, Bool, true, false, ◌==◌, if◌then◌else◌, List, [], ◌∷◌, ◌++◌, Option, Some, None, refl, ap, sym, ◌∙◌, inl, inr, arith, lt-ltb, le-ltb, eq-eqb, ne_eqb}
use Rattle.std.proofs.lemmas.Bool.{cond-true, cond-false, cases_lt, cases_eq}
use Rattle.mls_leaf.specs.Parent.{Parent}
use Rattle.mls_tree_model.specs.Term.{Term, Leaf, Branch, width, size}
use Rattle.mls_tree_model.specs.Way.{way}
use Rattle.mls_tree_model.specs.Laws.{IsIn}
use Rattle.mls_tree_model.proofs.ShapeLaws.{size-width}
use Rattle.mls_treekem_model.specs.Keys.{Keys, key_in}
use Rattle.mls_treekem_model.specs.Pairs.{Pair, pair_of, pairs, find_key, AllAfter, IsInOrder}
use Rattle.mls_treekem_model.proofs.EntryLaws.{key_nil, key_at_leaf, key_here, key_left, key_right, key_outside}
use Rattle.mls_treekem_model.specs.Laws.{PairsFound, PairsInOrder}

module _ (b : ℕ) (p : Option Parent) (l r : Term) (j : ℕ) (o : Option (List ℕ)) (ks : Keys) where
  pairs_left : j < b + width l → pairs b (Branch p l r) j (o ∷ ks) ≡ pairs b l j ks ++ pair_of (2 * b + size l) o
  unfolding pairs
  pairs_left lj = cond-true _ _ _ (lt-ltb j (b + width l) lj)

  pairs_right : b + width l ≤ j → pairs b (Branch p l r) j (o ∷ ks) ≡ pair_of (2 * b + size l) o ++ pairs (b + width l) r j ks
  unfolding pairs
  pairs_right rj = cond-false _ _ _ (le-ltb j (b + width l) rj)

-- ---- order

unfoldable AllBetween : ℕ → ℕ → List Pair → Type 0
AllBetween lo hi [] = Unit {0}
AllBetween lo hi (p ∷ ps) = (lo ≤ p.node) × (p.node < hi) × AllBetween lo hi ps

between_append : (lo hi : ℕ) (ps qs : List Pair) → AllBetween lo hi ps → AllBetween lo hi qs → AllBetween lo hi (ps ++ qs)
unfolding AllBetween
between_append lo hi [] qs h k = k
between_append lo hi (p ∷ ps) qs h k = (h.0, h.1, between_append lo hi ps qs h.2 k)

between_more : (lo hi lo' hi' : ℕ) (ps : List Pair) → lo' ≤ lo → hi ≤ hi' → AllBetween lo hi ps → AllBetween lo' hi' ps
unfolding AllBetween
between_more lo hi lo' hi' [] a b h = tt
between_more lo hi lo' hi' (p ∷ ps) a b h =
    let low : lo ≤ p.node = h.0 in
    let high : p.node < hi = h.1 in
    (omega arith, omega arith, between_more lo hi lo' hi' ps a b h.2)

between_pair : (lo hi n : ℕ) (o : Option (List ℕ)) → lo ≤ n → n < hi → AllBetween lo hi (pair_of n o)
unfolding AllBetween
between_pair lo hi n (Some k) a b = (a, b, tt)
between_pair lo hi n None a b = tt

pairs_between : (b : ℕ) (t : Term) (j : ℕ) (ks : Keys) → IsIn b t j → AllBetween (2 * b) (2 * b + size t) (pairs b t j ks)
unfolding AllBetween pairs width size
pairs_between b (Leaf v) j [] hj = tt
pairs_between b (Leaf v) j (o ∷ ks) hj = between_pair (2 * b) (2 * b + 1) (2 * j) o (omega arith) (omega arith)
pairs_between b (Branch p l r) j [] hj = tt
pairs_between b (Branch p l r) j (o ∷ ks) hj =
    let s = size-width l in
    let n : ℕ = 2 * b + size l in
    let hi : ℕ = 2 * b + (size l + suc (size r)) in
    elim (cases_lt j (b + width l)) [
      | inl lj ↦
          rw (pairs_left b p l r j o ks lj) (between_append (2 * b) hi (pairs b l j ks) (pair_of n o)
          (between_more (2 * b) (2 * b + size l) (2 * b) hi (pairs b l j ks) (omega arith) (omega arith) (pairs_between b l j ks (record { low = hj.low; high = lj })))
          (between_pair (2 * b) hi n o (omega arith) (omega arith)))
      | inr rj ↦
          rw (pairs_right b p l r j o ks rj) (between_append (2 * b) hi (pair_of n o) (pairs (b + width l) r j ks)
          (between_pair (2 * b) hi n o (omega arith) (omega arith))
          (between_more (2 * (b + width l)) (2 * (b + width l) + size r) (2 * b) hi (pairs (b + width l) r j ks) (omega arith) (omega arith)
          (pairs_between (b + width l) r j ks (record { low = rj; high = omega arith }))))
    ]

after_pair : (a n : ℕ) (o : Option (List ℕ)) → a < n → AllAfter a (pair_of n o)
unfolding AllAfter
after_pair a n (Some k) h = (h, tt)
after_pair a n None h = tt

after_between : (a lo hi : ℕ) (ps : List Pair) → a < lo → AllBetween lo hi ps → AllAfter a ps
unfolding AllAfter AllBetween
after_between a lo hi [] h k = tt
after_between a lo hi (p ∷ ps) h k = let low : lo ≤ p.node = k.0 in (omega arith, after_between a lo hi ps h k.2)

after_append : (a : ℕ) (ps qs : List Pair) → AllAfter a ps → AllAfter a qs → AllAfter a (ps ++ qs)
unfolding AllAfter
after_append a [] qs h k = k
after_append a (p ∷ ps) qs h k = (h.0, after_append a ps qs h.1 k)

order_then_pair : (lo n : ℕ) (o : Option (List ℕ)) (ps : List Pair) → AllBetween lo n ps → IsInOrder ps → IsInOrder (ps ++ pair_of n o)
unfolding AllAfter AllBetween IsInOrder
order_then_pair lo n (Some k) [] h r = (tt, tt)
order_then_pair lo n None [] h r = tt
order_then_pair lo n o (p ∷ ps) h r = (after_append p.node ps (pair_of n o) r.0 (after_pair p.node n o h.1), order_then_pair lo n o ps h.2 r.1)

pair_then_order : (lo hi n : ℕ) (o : Option (List ℕ)) (ps : List Pair) → n < lo → AllBetween lo hi ps → IsInOrder ps → IsInOrder (pair_of n o ++ ps)
unfolding IsInOrder
pair_then_order lo hi n (Some k) ps lt h r = (after_between n lo hi ps lt h, r)
pair_then_order lo hi n None ps lt h r = r

pub pairs_in_order : PairsInOrder
unfolding AllAfter IsInOrder pairs width
pairs_in_order b (Leaf v) j [] hj = tt
pairs_in_order b (Leaf v) j (None ∷ ks) hj = tt
pairs_in_order b (Leaf v) j (Some k ∷ ks) hj = (tt, tt)
pairs_in_order b (Branch p l r) j [] hj = tt
pairs_in_order b (Branch p l r) j (o ∷ ks) hj =
    let s = size-width l in
    elim (cases_lt j (b + width l)) [
      | inl lj ↦
          let inside : IsIn b l j = record { low = hj.low; high = lj } in
          rw (pairs_left b p l r j o ks lj) (order_then_pair (2 * b) (2 * b + size l) o (pairs b l j ks) (pairs_between b l j ks inside) (pairs_in_order b l j ks inside))
      | inr rj ↦
          let inside : IsIn (b + width l) r j = record { low = rj; high = omega arith } in
          rw (pairs_right b p l r j o ks rj) (pair_then_order (2 * (b + width l)) (2 * (b + width l) + size r) (2 * b + size l) o (pairs (b + width l) r j ks) (omega arith)
          (pairs_between (b + width l) r j ks inside) (pairs_in_order (b + width l) r j ks inside))
    ]

-- ---- what is found

find_pair : (n m : ℕ) (o : Option (List ℕ)) → find_key n (pair_of m o) ≡ (if n == m then o else None)
unfolding find_key
find_pair n m (Some k) = refl
find_pair n m None = both (n == m)
  where
    both : (t : Bool) → ◌≡◌ {A = Option (List ℕ)} None (if t then None else None)
    both true = refl
    both false = refl

find_before : (n : ℕ) (ps qs : List Pair) → find_key n qs ≡ None → find_key n (ps ++ qs) ≡ find_key n ps
unfolding find_key
find_before n [] qs h = h
find_before n (p ∷ ps) qs h = ap (λ z. if n == p.node then Some p.key else z) (find_before n ps qs h)

find_after : (n : ℕ) (ps qs : List Pair) → find_key n ps ≡ None → find_key n (ps ++ qs) ≡ find_key n qs
unfolding find_key
find_after n [] qs h = refl
find_after n (p ∷ ps) qs h = by_test (n == p.node) h (find_after n ps qs)
  where
    by_test : (t : Bool) → (if t then Some p.key else find_key n ps) ≡ None → (find_key n ps ≡ None → find_key n (ps ++ qs) ≡ find_key n qs) → (if t then Some p.key else find_key n (ps ++ qs)) ≡ find_key n qs
    by_test true h rec = cc
    by_test false h rec = rec h

find_none : (b : ℕ) (t : Term) (j n : ℕ) → find_key n (pairs b t j []) ≡ key_in b t j [] n
find_none b (Leaf v) j n = unfold pairs find_key in sym (key_nil (way b (Leaf v) j) j n)
find_none b (Branch p l r) j n = unfold pairs find_key in sym (key_nil (way b (Branch p l r) j) j n)

pub pairs_found : PairsFound
unfolding width
pairs_found b t j [] n hj = find_none b t j n
pairs_found b (Leaf v) j (o ∷ ks) n hj = unfold pairs in find_pair n (2 * j) o ∙ sym (key_at_leaf b v j o ks n)
pairs_found b (Branch p l r) j (o ∷ ks) n hj =
    let s = size-width l in
    elim (cases_lt j (b + width l)) [
      | inl lj ↦
          let inside : IsIn b l j = record { low = hj.low; high = lj } in
          let rec = pairs_found b l j ks n inside in
          ap (find_key n) (pairs_left b p l r j o ks lj) ∙ elim (cases_eq n (2 * b + size l)) [
            | inl e ↦
                find_after n (pairs b l j ks) (pair_of (2 * b + size l) o) (rec ∙ key_outside b l j ks n inside (inr (omega arith)))
                ∙ find_pair n (2 * b + size l) o ∙ cond-true _ _ _ (eq-eqb n (2 * b + size l) e) ∙ sym (key_here b p l r j o ks n e)
            | inr ne ↦
                find_before n (pairs b l j ks) (pair_of (2 * b + size l) o) (find_pair n (2 * b + size l) o ∙ cond-false _ _ _ (ne_eqb n (2 * b + size l) ne))
                ∙ rec ∙ sym (key_left b p l r j o ks n ne lj)
          ]
      | inr rj ↦
          let inside : IsIn (b + width l) r j = record { low = rj; high = omega arith } in
          let rec = pairs_found (b + width l) r j ks n inside in
          ap (find_key n) (pairs_right b p l r j o ks rj) ∙ elim (cases_eq n (2 * b + size l)) [
            | inl e ↦
                find_before n (pair_of (2 * b + size l) o) (pairs (b + width l) r j ks) (rec ∙ key_outside (b + width l) r j ks n inside (inl (omega arith)))
                ∙ find_pair n (2 * b + size l) o ∙ cond-true _ _ _ (eq-eqb n (2 * b + size l) e) ∙ sym (key_here b p l r j o ks n e)
            | inr ne ↦
                find_after n (pair_of (2 * b + size l) o) (pairs (b + width l) r j ks) (find_pair n (2 * b + size l) o ∙ cond-false _ _ _ (ne_eqb n (2 * b + size l) ne))
                ∙ rec ∙ sym (key_right b p l r j o ks n ne rj)
          ]
    ]

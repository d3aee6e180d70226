-- A path reaches each other member by just one of its nodes, and by just one key that the member has.
use Rattle.std.proofs.Common.{◌≡◌, ℕ, ◌+◌, ◌*◌, ◌<◌, ◌≤◌, Bool, true, false, not, ◌==◌, ◌||◌, if◌then◌else◌, List, [], ◌∷◌, ◌++◌, map, filter, length, suc, Option, None, is_some, refl, ap, ap₂, sym, ◌∙◌, inl, inr, arith, eq-eqb}
use Rattle.std.specs.List.{flat_map}
use Rattle.std.proofs.lemmas.Bool.{cases_lt, and_parts, or_right, true≢false}
use Rattle.mls_tree_model.specs.Sets.{has, leaf_numbers}
use Rattle.mls_tree_model.proofs.SetLaws.{has-append, has-filter}
use Rattle.mls_tree_model.specs.Term.{Term, Leaf, Branch, width, size}
use Rattle.mls_tree_model.specs.Resolution.{resolution, is_empty}
use Rattle.mls_tree_model.proofs.ResolutionLaws.{resolution_range}
use Rattle.mls_tree_model.specs.Way.{Step, step_at, way, is_filtered, filtered_way, is_beside}
use Rattle.mls_tree_model.proofs.EntryLaws.{one_filtered}
use Rattle.mls_tree_model.proofs.Equations.{way_left, way_right}
use Rattle.mls_tree_model.specs.Laws.{IsIn}
use Rattle.mls_tree_model.proofs.ShapeLaws.{size-width}
use Rattle.mls_suite.specs.Crypto.{Crypto}
use Rattle.mls_treekem_model.specs.Keys.{Keys, HoldsDueKey, Exact, key_in}
use Rattle.mls_treekem_model.specs.Make.{one_if}
use Rattle.mls_treekem_model.specs.Lists.{ListsBelow, below_here}
use Rattle.mls_treekem_model.specs.Seal.{targets}
use Rattle.mls_treekem_model.specs.Laws.{OneNode, OneTarget, held_count}
use Rattle.mls_treekem_model.proofs.WayLaws.{along_none, along_left, along_right}
use Rattle.mls_treekem_model.proofs.ListLaws.{lists_left, lists_right, below_bound}
use Rattle.mls_treekem_model.proofs.EntryLaws.{key_left, key_right, key_outside, one_entry}

-- ---- one node

count_both : {A : Type 0} (p q : A → Bool) (xs : List A) → length (filter q (filter p xs)) ≡ length (filter (λ b. b) (map p (filter q xs)))
count_both p q [] = refl
count_both p q (x ∷ xs) = by_tests (p x) (q x) refl refl (count_both p q xs)
  where
    by_tests : (a b : Bool) → p x ≡ a → q x ≡ b → length (filter q (filter p xs)) ≡ length (filter (λ b. b) (map p (filter q xs))) →
        length (filter q (if a then x ∷ filter p xs else filter p xs)) ≡ length (filter (λ b. b) (map p (if b then x ∷ filter q xs else filter q xs)))
    by_tests true true e f rec = rw (e, f) (ap suc rec)
    by_tests true false e f rec = rw f rec
    by_tests false true e f rec = rw e rec
    by_tests false false e f rec = rec

pub one_node : OneNode
unfolding filtered_way
one_node b t i j two taken =
    count_both is_filtered (λ s. is_beside s j) (way b t i)
    ∙ ap (λ bs. length (filter (λ b. b) bs)) (one_filtered b t i j two.first.low two.first.high two.second.low two.second.high two.apart taken)

-- ---- one key

-- what a path is sealed to, along a way
abbrev reached_along : List ℕ → List Step → List ℕ
reached_along added ss = flat_map (targets added) (filter is_filtered ss)

none_of_none : (p : ℕ → Bool) (xs : List ℕ) → not (is_empty xs) ≡ false → filter p xs ≡ []
none_of_none p [] e = refl
none_of_none p (x ∷ xs) e = absurd (true≢false e)

reached_step : (added : List ℕ) (s : Step) (ss : List Step) → reached_along added (s ∷ ss) ≡ targets added s ++ reached_along added ss
unfolding targets
reached_step added s ss = by_test (is_filtered s) refl
  where
    by_test : (t : Bool) → is_filtered s ≡ t → flat_map (targets added) (if t then s ∷ filter is_filtered ss else filter is_filtered ss) ≡ targets added s ++ reached_along added ss
    by_test true e = refl
    by_test false e = sym (ap (λ zs. zs ++ reached_along added ss) (none_of_none (λ d. not (has (leaf_numbers added) d)) (resolution s.first s.other) e))

target_in : (added : List ℕ) (s : Step) (d : ℕ) → ListsBelow s.first s.other → has (targets added s) d ≡ true → (2 * s.first ≤ d) × (d < 2 * s.first + size s.other)
unfolding targets
target_in added s d good h =
    let e = sym (has-filter (λ d. not (has (leaf_numbers added) d)) (resolution s.first s.other) d) ∙ h in
    resolution_range below_here below_bound s.first s.other d good.below (and_parts (has (resolution s.first s.other) d) _ e).0

-- all of them are nodes of the tree
in_either : (added : List ℕ) (s : Step) (ss : List Step) (d lo hi : ℕ) → (has (targets added s) d ≡ true → (lo ≤ d) × (d < hi)) → (has (reached_along added ss) d ≡ true → (lo ≤ d) × (d < hi)) →
    has (reached_along added (s ∷ ss)) d ≡ true → (lo ≤ d) × (d < hi)
in_either added s ss d lo hi here there h = by_test (has (targets added s) d) refl (sym (has-append (targets added s) (reached_along added ss) d) ∙ sym (ap (λ ds. has ds d) (reached_step added s ss)) ∙ h)
  where
    by_test : (t : Bool) → has (targets added s) d ≡ t → (t || has (reached_along added ss) d) ≡ true → (lo ≤ d) × (d < hi)
    by_test true e h = here e
    by_test false e h = there h

none_at_leaf : (added : List ℕ) (b : ℕ) (v : _) (i d : ℕ) → has (reached_along added (way b (Leaf v) i)) d ≡ false
unfolding way has
none_at_leaf added b v i d = refl

reached_in : (added : List ℕ) (b : ℕ) (t : Term) (i d : ℕ) → ListsBelow b t → has (reached_along added (way b t i)) d ≡ true → (2 * b ≤ d) × (d < 2 * b + size t)
unfolding size
reached_in added b (Leaf v) i d good h = absurd (true≢false (sym h ∙ none_at_leaf added b v i d))
reached_in added b (Branch p l r) i d good h =
    let s = size-width l in
    let lo : ℕ = 2 * b in
    let hi : ℕ = 2 * b + (size l + suc (size r)) in
    elim (cases_lt i (b + width l)) [
      | inl li ↦
          in_either added (step_at p (2 * b + size l) (b + width l) r) (way b l i) d lo hi
          (λ e. let k = target_in added (step_at p (2 * b + size l) (b + width l) r) d (lists_right b p l r good) e in (omega (arith, k.0), omega (arith, k.1)))
          (λ e. let k = reached_in added b l i d (lists_left b p l r good) e in (k.0, omega (arith, k.1)))
          (sym (ap (λ ss. has (reached_along added ss) d) (way_left b p l r i li)) ∙ h)
      | inr ri ↦
          in_either added (step_at p (2 * b + size l) b l) (way (b + width l) r i) d lo hi
          (λ e. let k = target_in added (step_at p (2 * b + size l) b l) d (lists_left b p l r good) e in (k.0, omega (arith, k.1)))
          (λ e. let k = reached_in added (b + width l) r i d (lists_right b p l r good) e in (omega (arith, k.0), omega (arith, k.1)))
          (sym (ap (λ ss. has (reached_along added ss) d) (way_right b p l r i ri)) ∙ h)
    ]

-- keys are counted by what they are at the nodes of the list
count_same : (f g : ℕ → Option (List ℕ)) (ds : List ℕ) → ((d : ℕ) → has ds d ≡ true → f d ≡ g d) → held_count f ds ≡ held_count g ds
unfolding held_count has
count_same f g [] h = refl
count_same f g (d ∷ ds) h =
    let first : ((d == d) || has ds d) ≡ true = (let e = eq-eqb d d refl in rw e refl) in
    ap₂ (λ o n. one_if (is_some o) n) (h d first) (count_same f g ds (λ e k. h e (or_right (d == e) (has ds e) k)))

none_counted : (ds : List ℕ) → held_count (λ d. None) ds ≡ 0
unfolding held_count
none_counted [] = refl
none_counted (d ∷ ds) = none_counted ds

count_append : (f : ℕ → Option (List ℕ)) (xs ys : List ℕ) → held_count f (xs ++ ys) ≡ held_count f xs + held_count f ys
unfolding held_count
count_append f [] ys = let e : held_count f ys ≡ 0 + held_count f ys = omega arith in e
count_append f (x ∷ xs) ys = by_test (is_some (f x)) (count_append f xs ys)
  where
    by_test : (t : Bool) → held_count f (xs ++ ys) ≡ held_count f xs + held_count f ys → one_if t (held_count f (xs ++ ys)) ≡ one_if t (held_count f xs) + held_count f ys
    by_test true e = omega (arith, e)
    by_test false e = e

module _ (c : Crypto) (added : List ℕ) where
  -- a count along a way, by its first parent and the others
  counted : (f : ℕ → Option (List ℕ)) (s : Step) (ss : List Step) (m n : ℕ) → held_count f (targets added s) ≡ m → held_count f (reached_along added ss) ≡ n → m + n ≡ 1 → held_count f (reached_along added (s ∷ ss)) ≡ 1
  counted f s ss m n e g one = ap (held_count f) (reached_step added s ss) ∙ count_append f (targets added s) (reached_along added ss) ∙ ap₂ (λ x y. x + y) e g ∙ one

  one_along : (b : ℕ) (t : Term) (i j : ℕ) (ks : Keys) → IsIn b t i → IsIn b t j → (j ≡ i → ⊥) → ListsBelow b t → Exact c b t j ks → has added j ≡ false → held_count (key_in b t j ks) (reached_along added (way b t i)) ≡ 1
  unfolding width
  one_along b (Leaf v) i j ks hi hj ne good h old = absurd (ne (omega arith))
  one_along b (Branch p l r) i j [] hi hj ne good h old = absurd (along_none c (HoldsDueKey c j) b p l r j h)
  one_along b (Branch p l r) i j (o ∷ ks) hi hj ne good h old =
      let s = size-width l in
      let f : ℕ → Option (List ℕ) = key_in b (Branch p l r) j (o ∷ ks) in
      let goodl = lists_left b p l r good in
      let goodr = lists_right b p l r good in
      elim (cases_lt i (b + width l)) [
        | inl li ↦
            let top : Step = step_at p (2 * b + size l) (b + width l) r in
            ap (λ ss. held_count f (reached_along added ss)) (way_left b p l r i li) ∙ elim (cases_lt j (b + width l)) [
              | inl lj ↦
                  let inside : IsIn b l j = record { low = hj.low; high = lj } in
                  counted f top (way b l i) 0 1
                  (count_same f (λ d. None) (targets added top) (λ d e.
                  let k = target_in added top d goodr e in
                  let low : 2 * (b + width l) ≤ d = k.0 in
                  key_left b p l r j o ks d (λ q. omega arith) lj ∙ key_outside b l j ks d inside (inr (omega arith))) ∙ none_counted (targets added top))
                  (count_same f (key_in b l j ks) (reached_along added (way b l i)) (λ d e.
                  let k = reached_in added b l i d goodl e in
                  let high : d < 2 * b + size l = k.1 in
                  key_left b p l r j o ks d (λ q. omega arith) lj)
                  ∙ one_along b l i j ks (record { low = hi.low; high = li }) inside ne goodl (along_left c (HoldsDueKey c j) b p l r j o ks lj h).1 old)
                  refl
              | inr rj ↦
                  let inside : IsIn (b + width l) r j = record { low = rj; high = omega arith } in
                  counted f top (way b l i) 1 0
                  (count_same f (key_in (b + width l) r j ks) (targets added top) (λ d e.
                  let k = target_in added top d goodr e in
                  let low : 2 * (b + width l) ≤ d = k.0 in
                  key_right b p l r j o ks d (λ q. omega arith) rj)
                  ∙ (unfold targets in one_entry c added (b + width l) r j ks goodr inside (along_right c (HoldsDueKey c j) b p l r j o ks rj h).1 old))
                  (count_same f (λ d. None) (reached_along added (way b l i)) (λ d e.
                  let k = reached_in added b l i d goodl e in
                  let high : d < 2 * b + size l = k.1 in
                  key_right b p l r j o ks d (λ q. omega arith) rj ∙ key_outside (b + width l) r j ks d inside (inl (omega arith))) ∙ none_counted (reached_along added (way b l i)))
                  refl
            ]
        | inr ri ↦
            let top : Step = step_at p (2 * b + size l) b l in
            ap (λ ss. held_count f (reached_along added ss)) (way_right b p l r i ri) ∙ elim (cases_lt j (b + width l)) [
              | inl lj ↦
                  let inside : IsIn b l j = record { low = hj.low; high = lj } in
                  counted f top (way (b + width l) r i) 1 0
                  (count_same f (key_in b l j ks) (targets added top) (λ d e.
                  let k = target_in added top d goodl e in
                  let high : d < 2 * b + size l = k.1 in
                  key_left b p l r j o ks d (λ q. omega arith) lj)
                  ∙ (unfold targets in one_entry c added b l j ks goodl inside (along_left c (HoldsDueKey c j) b p l r j o ks lj h).1 old))
                  (count_same f (λ d. None) (reached_along added (way (b + width l) r i)) (λ d e.
                  let k = reached_in added (b + width l) r i d goodr e in
                  let low : 2 * (b + width l) ≤ d = k.0 in
                  key_left b p l r j o ks d (λ q. omega arith) lj ∙ key_outside b l j ks d inside (inr (omega arith))) ∙ none_counted (reached_along added (way (b + width l) r i)))
                  refl
              | inr rj ↦
                  let inside : IsIn (b + width l) r j = record { low = rj; high = omega arith } in
                  counted f top (way (b + width l) r i) 0 1
                  (count_same f (λ d. None) (targets added top) (λ d e.
                  let k = target_in added top d goodl e in
                  let high : d < 2 * b + size l = k.1 in
                  key_right b p l r j o ks d (λ q. omega arith) rj ∙ key_outside (b + width l) r j ks d inside (inl (omega arith))) ∙ none_counted (targets added top))
                  (count_same f (key_in (b + width l) r j ks) (reached_along added (way (b + width l) r i)) (λ d e.
                  let k = reached_in added (b + width l) r i d goodr e in
                  let low : 2 * (b + width l) ≤ d = k.0 in
                  key_right b p l r j o ks d (λ q. omega arith) rj)
                  ∙ one_along (b + width l) r i j ks (record { low = ri; high = omega arith }) inside ne goodr (along_right c (HoldsDueKey c j) b p l r j o ks rj h).1 old)
                  refl
            ]
      ]

pub one_target : OneTarget
unfolding filtered_way
one_target c added b t i j ks two good h old = one_along c added b t i j ks two.first two.second two.apart good h old

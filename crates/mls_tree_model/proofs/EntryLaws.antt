-- A member has the key of one node of a resolution, and its way parts from another's at one parent.
use Rattle.std.proofs.Common.{◌≡◌, ℕ, ◌+◌, ◌*◌, ◌<◌, ◌≤◌, ◌==◌, nat_lt, nat_le, nat_eq, Bool, true, false, not, ◌&&◌, ◌||◌, cond, List, [], ◌∷◌, ◌++◌, length, map, filter, length-append, Option, Some, None, is_some, IsSome, refl, sym, ◌∙◌, ap, ap₂, arith, inl, inr, eqb-true, eq-eqb, ne_eqb, lt-ltb, le-ltb, le-leb, ltb-true, leb-true}
use Rattle.std.specs.Cmp.{both_ways}
use Rattle.std.proofs.lemmas.Bool.{true≢false, and_parts, and_from, or_left, or_right, cond-true, cond-false, cases_lt, cases_eq, cases_Bool, false_from_ne_true}
use Rattle.std.proofs.lemmas.List.Elements.{filter-append}
use Rattle.mls_leaf.specs.Parent.{Parent}
use Rattle.mls_leaf.specs.declared.leaf.LeafNode.{LeafNode}
use Rattle.mls_tree_model.proofs.Equations.{leaf_at_left, leaf_at_right, way_left, way_right}
use Rattle.mls_tree_model.specs.Term.{Term, Leaf, Branch, width, size, leaf_at}
use Rattle.mls_tree_model.specs.Sets.{has, leaf_numbers, count}
use Rattle.mls_tree_model.specs.Resolution.{resolution}
use Rattle.mls_tree_model.specs.Lists.{all_parents, may_list, rises_here}
use Rattle.mls_tree_model.specs.Resolution.{is_reached}
use Rattle.mls_tree_model.specs.HeldKeys.{holds_key_of, held_nodes}
use Rattle.mls_tree_model.specs.Way.{Step, step_at, way, is_filtered, is_beside}
use Rattle.mls_tree_model.proofs.SetLaws.{of_leaf_numbers, has-leaf_numbers, eqb_refl}
use Rattle.mls_tree_model.proofs.ShapeLaws.{size-width}
use Rattle.mls_tree_model.proofs.ParentLaws.{parents_parts}
use Rattle.mls_tree_model.proofs.ResolutionLaws.{resolution_range, reached}
use Rattle.mls_tree_model.proofs.CountLaws.{count_none, count_once}
use Rattle.mls_tree_model.proofs.MemberLaws.{leaf_taken}
use Rattle.mls_tree_model.proofs.NamedLaws.{IsBound}

tally-append : (p : ℕ → Bool) (xs ys : List ℕ) → length (filter p (xs ++ ys)) ≡ length (filter p xs) + length (filter p ys)
tally-append p xs ys = ap length (filter-append p xs ys) ∙ length-append (filter p xs) (filter p ys)

tally_agree : (p q : ℕ → Bool) (xs : List ℕ) → ((x : ℕ) → has xs x ≡ true → p x ≡ q x) → length (filter p xs) ≡ length (filter q xs)
unfolding has
tally_agree p q [] h = refl
tally_agree p q (x ∷ xs) h =
    let e : p x ≡ q x = h x (or_left (x == x) (has xs x) (eqb_refl x)) in
    let rest = tally_agree p q xs (λ y k. h y (or_right (x == y) (has xs y) k)) in
    elim (cases_Bool (q x)) [
      | inl t ↦ rw (e ∙ t, t) (omega arith)
      | inr t ↦ rw (e ∙ t, t) rest
    ]

tally_none : (p : ℕ → Bool) (xs : List ℕ) → ((x : ℕ) → has xs x ≡ true → p x ≡ false) → length (filter p xs) ≡ 0
unfolding has
tally_none p [] h = refl
tally_none p (x ∷ xs) h =
    let e : p x ≡ false = h x (or_left (x == x) (has xs x) (eqb_refl x)) in
    rw e (tally_none p xs (λ y k. h y (or_right (x == y) (has xs y) k)))

-- what is left out by a second test that follows from the first is nothing
tally_kept : (p k : ℕ → Bool) (xs : List ℕ) → ((x : ℕ) → has xs x ≡ true → p x ≡ true → k x ≡ true) → length (filter p (filter k xs)) ≡ length (filter p xs)
unfolding has
tally_kept p k [] h = refl
tally_kept p k (x ∷ xs) h =
    let rest = tally_kept p k xs (λ y e. h y (or_right (x == y) (has xs y) e)) in
    elim (cases_Bool (k x)) [
      | inl t ↦ rw t (elim (cases_Bool (p x)) [ inl u ↦ rw u (omega arith) | inr u ↦ rw u rest ])
      | inr t ↦
          let e : p x ≡ false = false_from_ne_true (p x) (λ u. true≢false (sym (h x (or_left (x == x) (has xs x) (eqb_refl x)) u) ∙ t)) in
          rw (t, e) rest
    ]

tally_count : (x : ℕ) (ys : List ℕ) → length (filter (λ y. y == x) ys) ≡ count nat_eq x ys
unfolding count
tally_count x [] = refl
tally_count x (y ∷ ys) =
    let rest = tally_count x ys in
    elim (cases_Bool (y == x)) [ inl t ↦ rw t (omega arith) | inr t ↦ rw t (omega arith) ]

-- a number that a list has is there at least once
count_some : (xs : List ℕ) (x : ℕ) → has xs x ≡ true → 0 < count nat_eq x xs
unfolding has count
count_some [] x h = absurd (true≢false (sym h))
count_some (y ∷ ys) x h =
    elim (cases_Bool (y == x)) [
      | inl t ↦ rw t (omega arith)
      | inr t ↦ rw t (let rest = count_some ys x (sym (ap (λ v. v || has ys x) t) ∙ h) in omega arith)
    ]

module _ (b : ℕ) (c : Option Parent) (l r : Term) (j d : ℕ) where
  holds_own : d ≡ 2 * b + size l → holds_key_of b (Branch c l r) j d ≡ not (may_list c j)
  unfolding holds_key_of
  holds_own e = cond-true _ _ _ (eq-eqb d (2 * b + size l) e)

  holds_left : (d ≡ 2 * b + size l → ⊥) → j < b + width l → holds_key_of b (Branch c l r) j d ≡ holds_key_of b l j d
  unfolding holds_key_of
  holds_left n lt = cond-false _ _ _ (ne_eqb d (2 * b + size l) n) ∙ cond-true _ _ _ (lt-ltb j (b + width l) lt)

  holds_right : (d ≡ 2 * b + size l → ⊥) → b + width l ≤ j → holds_key_of b (Branch c l r) j d ≡ holds_key_of (b + width l) r j d
  unfolding holds_key_of
  holds_right n ge = cond-false _ _ _ (ne_eqb d (2 * b + size l) n) ∙ cond-false _ _ _ (le-ltb j (b + width l) ge)

holds_range : (b : ℕ) (t : Term) (j d : ℕ) → holds_key_of b t j d ≡ true → (2 * b ≤ d) × (d < 2 * b + size t)
unfolding holds_key_of size
holds_range b (Leaf v) j d h = let e : d ≡ 2 * b = eqb-true d (2 * b) h in (omega arith, omega arith)
holds_range b (Branch c l r) j d h =
    let s = size-width l in
    elim (cases_eq d (2 * b + size l)) [
      | inl e ↦ (omega arith, omega arith)
      | inr n ↦ elim (cases_lt j (b + width l)) [
        | inl lt ↦ let f = holds_range b l j d (sym (holds_left b c l r j d n lt) ∙ h) in let low = f.0 in let high = f.1 in (omega arith, omega arith)
        | inr ge ↦ let f = holds_range (b + width l) r j d (sym (holds_right b c l r j d n ge) ∙ h) in let low = f.0 in let high = f.1 in (omega arith, omega arith)
      ]
    ]

twice : (u j : ℕ) → (u == j) ≡ (2 * u == 2 * j)
twice u j = both_ways _ _ (λ k. let f : u ≡ j = eqb-true u j k in eq-eqb (2 * u) (2 * j) (omega arith)) (λ k. let f : 2 * u ≡ 2 * j = eqb-true (2 * u) (2 * j) k in eq-eqb u j (omega arith))

holds_at_leaf : (b : ℕ) (v : Option LeafNode) (j u : ℕ) → b ≡ j → holds_key_of b (Leaf v) j (2 * u) ≡ (u == j)
unfolding holds_key_of
holds_at_leaf b v j u e = ap (λ n. 2 * u == 2 * n) e ∙ sym (twice u j)

alone : (b : ℕ) (v : LeafNode) (j : ℕ) → length (held_nodes b (Leaf (Some v)) j) ≡ 1
unfolding holds_key_of resolution
alone b v j = ap length (cond-true _ _ _ (eqb_refl (2 * b)))

holds_leaf : (b : ℕ) (t : Term) (j u : ℕ) → b ≤ j → j < b + width t → holds_key_of b t j (2 * u) ≡ (u == j)
unfolding width
holds_leaf b (Leaf v) j u low high = holds_at_leaf b v j u (omega arith)
holds_leaf b (Branch c l r) j u low high =
    let s = size-width l in
    elim (cases_lt j (b + width l)) [
      | inl lt ↦ holds_left b c l r j (2 * u) (λ e. absurd (omega arith)) lt ∙ holds_leaf b l j u low lt
      | inr ge ↦ holds_right b c l r j (2 * u) (λ e. absurd (omega arith)) ge ∙ holds_leaf (b + width l) r j u ge (omega arith)
    ]

-- each taken leaf has the key of one node of a resolution
pub one_held : (test : ℕ → Parent → Term → Term → Bool) → IsBound test → (b : ℕ) (t : Term) (j : ℕ) → all_parents test b t ≡ true → all_parents rises_here b t ≡ true → b ≤ j → j < b + width t → IsSome (leaf_at b t j) → length (held_nodes b t j) ≡ 1
unfolding resolution width leaf_at rises_here
one_held test bound b (Leaf None) j h g low high some = absurd (true≢false (sym some))
one_held test bound b (Leaf (Some v)) j h g low high some = alone b v j
one_held test bound b (Branch (Some p) l r) j h g low high some =
    let q = holds_key_of b (Branch (Some p) l r) j in
    let own = holds_own b (Some p) l r j (2 * b + size l) refl in
    let once = count_once 0 p.unmerged_leaves (2 * j) (parents_parts rises_here b (Some p) l r g).0 in
    let listed : length (filter q (leaf_numbers p.unmerged_leaves)) ≡ count nat_eq (2 * j) (leaf_numbers p.unmerged_leaves) =
    tally_agree q (λ d. d == 2 * j) (leaf_numbers p.unmerged_leaves) (λ d e.
    let f = of_leaf_numbers p.unmerged_leaves d e in
    let is : holds_key_of b (Branch (Some p) l r) j (2 * f.0) ≡ (f.0 == j) = holds_leaf b (Branch (Some p) l r) j f.0 low (wide (Some p) high) in
    ap q f.1 ∙ is ∙ twice f.0 j ∙ ap (λ n. n == 2 * j) (sym f.1))
    ∙ tally_count (2 * j) (leaf_numbers p.unmerged_leaves) in
    elim (cases_Bool (has p.unmerged_leaves j)) [
      | inl t ↦
          let e : q (2 * b + size l) ≡ false = own ∙ ap not t in
          let more = count_some (leaf_numbers p.unmerged_leaves) (2 * j) (has-leaf_numbers p.unmerged_leaves j ∙ t) in
          rw e (omega arith)
      | inr t ↦
          let e : q (2 * b + size l) ≡ true = own ∙ ap not t in
          let none = count_none (leaf_numbers p.unmerged_leaves) (2 * j) (has-leaf_numbers p.unmerged_leaves j ∙ t) in
          rw e (omega arith)
    ]
  where
    wide : (c : Option Parent) → j < b + (width l + width r) → j < b + width (Branch c l r)
    wide c k = k
one_held test bound b (Branch None l r) j h g low high some =
    let s = size-width l in
    let p = parents_parts test b None l r h in
    let w = parents_parts rises_here b None l r g in
    let q = holds_key_of b (Branch None l r) j in
    let sum = tally-append q (resolution b l) (resolution (b + width l) r) in
    elim (cases_lt j (b + width l)) [
      | inl lt ↦
          let here = one_held test bound b l j p.1 w.1 low lt (sym (ap is_some (leaf_at_left b None l r j lt)) ∙ some) in
          let left : length (filter q (resolution b l)) ≡ length (filter (holds_key_of b l j) (resolution b l)) = tally_agree q (holds_key_of b l j) (resolution b l) (λ d e.
          let f = (resolution_range test bound b l d p.1 e).1 in holds_left b None l r j d (λ k. absurd (omega arith)) lt) in
          let right : length (filter q (resolution (b + width l) r)) ≡ 0 = tally_none q (resolution (b + width l) r) (λ d e.
          let f = (resolution_range test bound (b + width l) r d p.2 e).0 in
          holds_left b None l r j d (λ k. absurd (omega arith)) lt
          ∙ false_from_ne_true _ (λ k. let z = (holds_range b l j d k).1 in absurd (omega arith))) in
          omega arith
      | inr ge ↦
          let here = one_held test bound (b + width l) r j p.2 w.2 ge (omega arith) (sym (ap is_some (leaf_at_right b None l r j ge)) ∙ some) in
          let right : length (filter q (resolution (b + width l) r)) ≡ length (filter (holds_key_of (b + width l) r j) (resolution (b + width l) r)) = tally_agree q (holds_key_of (b + width l) r j) (resolution (b + width l) r) (λ d e.
          let f = (resolution_range test bound (b + width l) r d p.2 e).0 in holds_right b None l r j d (λ k. absurd (omega arith)) ge) in
          let left : length (filter q (resolution b l)) ≡ 0 = tally_none q (resolution b l) (λ d e.
          let f = (resolution_range test bound b l d p.1 e).1 in
          holds_right b None l r j d (λ k. absurd (omega arith)) ge
          ∙ false_from_ne_true _ (λ k. let z = (holds_range (b + width l) r j d k).0 in absurd (omega arith))) in
          omega arith
    ]

-- and still does where some other leaves are taken out
pub one_held_of_rest : (test : ℕ → Parent → Term → Term → Bool) → IsBound test → (b : ℕ) (t : Term) (j : ℕ) (us : List ℕ) → all_parents test b t ≡ true → all_parents rises_here b t ≡ true → b ≤ j → j < b + width t → IsSome (leaf_at b t j) → has us j ≡ false → length (filter (holds_key_of b t j) (filter (λ d. not (has (leaf_numbers us) d)) (resolution b t))) ≡ 1
one_held_of_rest test bound b t j us h g low high some out =
    tally_kept (holds_key_of b t j) (λ d. not (has (leaf_numbers us) d)) (resolution b t) (λ d _ e.
    ap not (false_from_ne_true (has (leaf_numbers us) d) (λ k.
    let f = of_leaf_numbers us d k in
    let is : f.0 ≡ j = eqb-true f.0 j (sym (holds_leaf b t j f.0 low high) ∙ sym (ap (holds_key_of b t j) f.1) ∙ e) in
    true≢false (sym f.2 ∙ ap (has us) is ∙ out))))
    ∙ one_held test bound b t j h g low high some

pub leaf_reached : (b : ℕ) (t : Term) (j : ℕ) → IsSome (leaf_at b t j) → is_reached b t ≡ true
leaf_reached b t j some = reached b t (leaf_taken b t j some)

-- where two leaves' ways part
within_false : (b e j : ℕ) → (b ≤ j → j < e → ⊥) → (nat_le b j && nat_lt j e) ≡ false
within_false b e j out =
    false_from_ne_true _ (λ k. let p = and_parts (nat_le b j) (nat_lt j e) k in out (leb-true b j p.0) (ltb-true j e p.1))

-- at each parent over leaf i whose other side has leaf j, whether the path takes it in
forks : List Step → ℕ → List Bool
forks ss j = map is_filtered (filter (λ s. is_beside s j) ss)

forks_more : (s : Step) (ss : List Step) (j : ℕ) → forks (s ∷ ss) j ≡ cond (is_beside s j) (is_filtered s ∷ []) [] ++ forks ss j
unfolding forks
forks_more s ss j = elim (cases_Bool (is_beside s j)) [ inl e ↦ rw e refl | inr e ↦ rw e refl ]

module _ (b : ℕ) (c : Option Parent) (l r : Term) (i j : ℕ) where
  forks_left : i < b + width l → forks (way b (Branch c l r) i) j ≡ cond (nat_le (b + width l) j && nat_lt j ((b + width l) + width r)) (is_reached (b + width l) r ∷ []) [] ++ forks (way b l i) j
  forks_left lt = ap (λ ss. forks ss j) (way_left b c l r i lt) ∙ forks_more (step_at c (2 * b + size l) (b + width l) r) (way b l i) j

  forks_right : b + width l ≤ i → forks (way b (Branch c l r) i) j ≡ cond (nat_le b j && nat_lt j (b + width l)) (is_reached b l ∷ []) [] ++ forks (way (b + width l) r i) j
  forks_right ge = ap (λ ss. forks ss j) (way_right b c l r i ge) ∙ forks_more (step_at c (2 * b + size l) b l) (way (b + width l) r i) j

forks_leaf : (b : ℕ) (v : Option LeafNode) (i j : ℕ) → forks (way b (Leaf v) i) j ≡ []
unfolding way forks
forks_leaf b v i j = refl

forks_none : (b : ℕ) (t : Term) (i j : ℕ) → (b ≤ j → j < b + width t → ⊥) → forks (way b t i) j ≡ []
unfolding width
forks_none b (Leaf v) i j out = forks_leaf b v i j
forks_none b (Branch c l r) i j out =
    elim (cases_lt i (b + width l)) [
      | inl lt ↦ forks_left b c l r i j lt ∙ ap₂ ◌++◌ (cond-false _ _ _ (within_false (b + width l) ((b + width l) + width r) j (λ low high. out (omega arith) (omega arith)))) (forks_none b l i j (λ low high. out low (omega arith)))
      | inr ge ↦ forks_right b c l r i j ge ∙ ap₂ ◌++◌ (cond-false _ _ _ (within_false b (b + width l) j (λ low high. out low (omega arith)))) (forks_none (b + width l) r i j (λ low high. out (omega arith) (omega arith)))
    ]

one_fork : (b : ℕ) (t : Term) (i j : ℕ) → b ≤ i → i < b + width t → b ≤ j → j < b + width t → (j ≡ i → ⊥) → IsSome (leaf_at b t j) → forks (way b t i) j ≡ true ∷ []
unfolding width
one_fork b (Leaf v) i j il ih jl jh ne some = absurd (ne (omega arith))
one_fork b (Branch c l r) i j il ih jl jh ne some =
    elim (cases_lt i (b + width l)) [
      | inl lt ↦ forks_left b c l r i j lt ∙ elim (cases_lt j (b + width l)) [
        | inl m ↦ ap₂ ◌++◌ (cond-false _ _ _ (within_false (b + width l) ((b + width l) + width r) j (λ low _. absurd (omega arith)))) (one_fork b l i j il lt jl m ne (sym (ap is_some (leaf_at_left b c l r j m)) ∙ some))
        | inr m ↦ ap₂ ◌++◌ (cond-true _ _ _ (and_from (nat_le (b + width l) j) _ (le-leb (b + width l) j m) (lt-ltb j ((b + width l) + width r) (omega arith))) ∙ ap (λ v. v ∷ []) (leaf_reached (b + width l) r j (sym (ap is_some (leaf_at_right b c l r j m)) ∙ some))) (forks_none b l i j (λ _ high. absurd (omega arith)))
      ]
      | inr ge ↦ forks_right b c l r i j ge ∙ elim (cases_lt j (b + width l)) [
        | inl m ↦ ap₂ ◌++◌ (cond-true _ _ _ (and_from (nat_le b j) _ (le-leb b j jl) (lt-ltb j (b + width l) m)) ∙ ap (λ v. v ∷ []) (leaf_reached b l j (sym (ap is_some (leaf_at_left b c l r j m)) ∙ some))) (forks_none (b + width l) r i j (λ low _. absurd (omega arith)))
        | inr m ↦ ap₂ ◌++◌ (cond-false _ _ _ (within_false b (b + width l) j (λ _ high. absurd (omega arith)))) (one_fork (b + width l) r i j ge (omega arith) m (omega arith) ne (sym (ap is_some (leaf_at_right b c l r j m)) ∙ some))
      ]
    ]

pub one_filtered : (b : ℕ) (t : Term) (i j : ℕ) → b ≤ i → i < b + width t → b ≤ j → j < b + width t → (j ≡ i → ⊥) → IsSome (leaf_at b t j) → map is_filtered (filter (λ s. is_beside s j) (way b t i)) ≡ true ∷ []
unfolding forks
one_filtered = one_fork

-- Laws of the way to a leaf: its numbers are those of nodes of the tree, each once.
use Rattle.std.proofs.Common.{◌≡◌, ℕ, zero, suc, ◌+◌, ◌*◌, ◌^◌, ◌<◌, ◌≤◌, ◌==◌, nat_eq, true, false, ◌||◌, List, [], ◌∷◌, length, refl, sym, ◌∙◌, ap, arith, inl, inr, eqb-true, eq-eqb, lt-ltb, le-ltb}
use Rattle.std.proofs.lemmas.Bool.{true≢false, cases_Bool, cases_lt, cond-true, cond-false, and_from, or_parts}
use Rattle.mls_treemath.specs.Paths.{nodes_in}
use Rattle.mls_tree_model.specs.Sets.{has, count, is_distinct}
use Rattle.mls_tree_model.proofs.CountLaws.{count_none}
use Rattle.mls_tree_model.proofs.ArrayLaws.{nodes_in-leaves}
use Rattle.mls_tree.specs.Way.{numbers_from, way_numbers}

pub numbers_leaf : (b i : ℕ) → numbers_from 0 b i ≡ (2 * b) ∷ []
unfolding numbers_from
numbers_leaf b i = refl

pub numbers_left : (h b i : ℕ) → i < b + 2 ^ h → numbers_from (suc h) b i ≡ (2 * b + nodes_in h) ∷ numbers_from h b i
unfolding numbers_from
numbers_left h b i lt = ap (λ ns. (2 * b + nodes_in h) ∷ ns) (cond-true _ _ _ (lt-ltb i (b + 2 ^ h) lt))

pub numbers_right : (h b i : ℕ) → b + 2 ^ h ≤ i → numbers_from (suc h) b i ≡ (2 * b + nodes_in h) ∷ numbers_from h (b + 2 ^ h) i
unfolding numbers_from
numbers_right h b i ge = ap (λ ns. (2 * b + nodes_in h) ∷ ns) (cond-false _ _ _ (le-ltb i (b + 2 ^ h) ge))

-- as many as the tree has levels
pub length-numbers : (h b i : ℕ) → length (numbers_from h b i) ≡ suc h
length-numbers zero b i = ap length (numbers_leaf b i)
length-numbers (suc h) b i = elim (cases_lt i (b + 2 ^ h)) [
  | inl lt ↦ ap length (numbers_left h b i lt) ∙ ap suc (length-numbers h b i)
  | inr ge ↦ ap length (numbers_right h b i ge) ∙ ap suc (length-numbers h (b + 2 ^ h) i)
]

-- ---- they are nodes of the tree, and each stands once

pub has-cons : (n : ℕ) (ns : List ℕ) (x : ℕ) → has (n ∷ ns) x ≡ ((n == x) || has ns x)
unfolding has
has-cons n ns x = refl

no_number : (x : ℕ) → has [] x ≡ false
unfolding has
no_number x = refl

-- a number outside a list is neither its first nor among the others
pub other_number : (n : ℕ) (ns : List ℕ) (x : ℕ) → has (n ∷ ns) x ≡ false → (n ≡ x → ⊥) × (has ns x ≡ false)
other_number n ns x out =
    let p = or_parts (n == x) (has ns x) (sym (has-cons n ns x) ∙ out) in
    (λ same. true≢false (sym (eq-eqb n x same) ∙ p.0), p.1)

not_among : (n : ℕ) (ns : List ℕ) (x : ℕ) → (n ≡ x → ⊥) → has ns x ≡ false → has (n ∷ ns) x ≡ false
not_among n ns x other out =
    has-cons n ns x
    ∙ elim (cases_Bool (n == x)) [
      | inl same ↦ absurd (other (eqb-true n x same))
      | inr apart ↦ rw apart out
    ]

pub below_way : (h b i x : ℕ) → x < 2 * b → has (numbers_from h b i) x ≡ false
below_way zero b i x low =
    ap (λ ns. has ns x) (numbers_leaf b i) ∙ not_among (2 * b) [] x (λ e. absurd (omega arith)) (no_number x)
below_way (suc h) b i x low = elim (cases_lt i (b + 2 ^ h)) [
  | inl lt ↦ ap (λ ns. has ns x) (numbers_left h b i lt) ∙ not_among _ _ x (λ e. absurd (omega arith)) (below_way h b i x low)
  | inr ge ↦ ap (λ ns. has ns x) (numbers_right h b i ge) ∙ not_among _ _ x (λ e. absurd (omega arith)) (below_way h (b + 2 ^ h) i x (omega arith))
]

pub behind_way : (h b i x : ℕ) → 2 * b + nodes_in h ≤ x → has (numbers_from h b i) x ≡ false
unfolding nodes_in
behind_way zero b i x high =
    ap (λ ns. has ns x) (numbers_leaf b i) ∙ not_among (2 * b) [] x (λ e. absurd (omega arith)) (no_number x)
behind_way (suc h) b i x high =
    let half = nodes_in-leaves h in
    elim (cases_lt i (b + 2 ^ h)) [
      | inl lt ↦ ap (λ ns. has ns x) (numbers_left h b i lt) ∙ not_among _ _ x (λ e. absurd (omega arith)) (behind_way h b i x (omega arith))
      | inr ge ↦ ap (λ ns. has ns x) (numbers_right h b i ge) ∙ not_among _ _ x (λ e. absurd (omega arith)) (behind_way h (b + 2 ^ h) i x (omega arith))
    ]

distinct_first : (n : ℕ) (ns : List ℕ) → has ns n ≡ false → is_distinct nat_eq ns ≡ true → is_distinct nat_eq (n ∷ ns) ≡ true
unfolding is_distinct
distinct_first n ns out rest = and_from (count nat_eq n ns == 0) _ (eq-eqb (count nat_eq n ns) 0 (count_none ns n out)) rest

one_distinct : (n : ℕ) → is_distinct nat_eq (n ∷ []) ≡ true
unfolding is_distinct count
one_distinct n = refl

pub numbers_distinct : (h b i : ℕ) → is_distinct nat_eq (numbers_from h b i) ≡ true
numbers_distinct zero b i = ap (is_distinct nat_eq) (numbers_leaf b i) ∙ one_distinct (2 * b)
numbers_distinct (suc h) b i =
    let half = nodes_in-leaves h in
    elim (cases_lt i (b + 2 ^ h)) [
      | inl lt ↦ ap (is_distinct nat_eq) (numbers_left h b i lt) ∙ distinct_first _ _ (behind_way h b i _ (omega arith)) (numbers_distinct h b i)
      | inr ge ↦ ap (is_distinct nat_eq) (numbers_right h b i ge) ∙ distinct_first _ _ (below_way h (b + 2 ^ h) i _ (omega arith)) (numbers_distinct h (b + 2 ^ h) i)
    ]

pub way_distinct : (h i : ℕ) → is_distinct nat_eq (way_numbers h i) ≡ true
way_distinct h i = numbers_distinct h 0 i

-- A removal: where it halves no tree, and the bounds after it.
use Rattle.std.proofs.Common.{◌≡◌, ℕ, zero, suc, ◌+◌, ◌*◌, ◌^◌, ◌<◌, ◌≤◌, ◌==◌, ltb, true, List, Option, None, is_some, IsSome, refl, sym, ◌∙◌, ap, subst, arith, inl, inr, ne_eqb}
use Rattle.std.specs.Bool.{OnTrue}
use Rattle.std.proofs.Math.Pow.{pow_mono}
use Rattle.std.proofs.lemmas.Bool.{OnTrue_from, ltb-true, cases_lt, cond_both, cond-true, cond-false, true≢false, and_parts}
use Rattle.mls_leaf.specs.declared.node.Node.{Node}
use Rattle.mls_treemath.specs.Limits.{max_height}
use Rattle.mls_tree_model.specs.Term.{Term, Leaf, Branch, width, leaf_of, leaf_at, is_perfect}
use Rattle.mls_tree_model.specs.Edits.{put, trim, remove}
use Rattle.mls_tree_model.specs.Arrays.{term_of}
use Rattle.mls_tree_model.proofs.ArrayLaws.{width-term_of, perfect-term_of}
use Rattle.mls_tree_model.proofs.Equations.{leaf_of_in, leaf_of_out, leaf_at_right, remove_is}
use Rattle.mls_tree_model.proofs.MemberLaws.{leaf_taken}
use Rattle.mls_tree_model.proofs.PlaceLaws.{leaf_at-put}
use Rattle.mls_tree_model.proofs.ShapeLaws.{width-put, width-perfect, perfect-put}
use Rattle.mls_tree_array.specs.EndOfMembers.{end_of_members}
use Rattle.mls_tree_array.proofs.EndLaws.{last_taken, has_some, blank_behind, end_before, end-within}
use Rattle.mls_tree_array.specs.StandingLaws.{StandsFor}
use Rattle.mls_tree.specs.Bounds.{Bounds, IsLastBeside}

-- a tree whose right half has a member is not halved
not_halved : (h : ℕ) (t : Term) (k : ℕ) → is_perfect h t ≡ true → IsSome (leaf_at 0 t k) → width t < 2 * suc k → trim t ≡ t
unfolding trim is_perfect width
not_halved h (Leaf v) k shape some wide = refl
not_halved zero (Branch c l r) k shape some wide = absurd (true≢false (sym shape))
not_halved (suc h) (Branch c l r) k shape some wide =
    let sides = and_parts (is_perfect h l) (is_perfect h r) shape in
    let left = width-perfect h l sides.0 in
    let right = width-perfect h r sides.1 in
    let past : 0 + width l ≤ k = omega arith in
    cond-true _ _ _ (leaf_taken (0 + width l) r k (sym (ap is_some (leaf_at_right 0 c l r k past)) ∙ some))

-- leaf k stays where another one is blanked
stays_at : (t : Term) (i k : ℕ) → i < width t → k < width t → i < k → IsSome (leaf_at 0 t k) → IsSome (leaf_at 0 (put 0 t i None) k)
stays_at t i k inside high less some =
    ap is_some (leaf_at-put 0 t i None k (omega arith) (omega arith) (omega arith) (omega arith) ∙ cond-false _ _ _ (ne_eqb k i (λ e. absurd (omega arith))))
    ∙ some

-- where the last member is another one and on the right half, blanking leaf i halves no tree
pub not_trimmed : (h : ℕ) (t : Term) (i e : ℕ) → is_perfect h t ≡ true → i < width t → e ≡ end_of_members 0 t → i + 1 < e → width t < 2 * e → trim (put 0 t i None) ≡ put 0 t i None
not_trimmed h t i e shape inside end other right =
    let last = last_taken 0 t (has_some 0 t (omega arith)) in
    let is = last.1.end in
    let high = last.1.high in
    let w = width-put 0 t i None in
    not_halved h (put 0 t i None) last.0 (perfect-put h 0 t i None shape) (stays_at t i last.0 inside (omega arith) (omega arith) last.1.taken) (omega arith)

module _ (t : Term) (full_to blank_from e : ℕ) (bounds : Bounds t full_to blank_from) (end : e ≡ end_of_members 0 t) where
  -- behind the members all leaves are blank
  blank_there : (j : ℕ) → e ≤ j → leaf_of t j ≡ None
  blank_there j ge =
      elim (cases_lt j (width t)) [
        | inr out ↦ leaf_of_out t j out
        | inl lt ↦ leaf_of_in t j lt ∙ blank_behind 0 t j (omega arith) (omega arith)
      ]

  pub ended : Bounds t full_to e
  ended = record { full = bounds.full; blank = blank_there }

  -- leaf i is blanked
  pub bounds-blanked : (i n : ℕ) → i < width t → n ≤ full_to → n ≤ i → Bounds (put 0 t i None) n e
  bounds-blanked i n inside less before =
      let w = width-put 0 t i None in
      let at : (j : ℕ) → j < width t → leaf_of (put 0 t i None) j ≡ leaf_at 0 (put 0 t i None) j = λ j lt. leaf_of_in (put 0 t i None) j (omega arith) in
      record {
        full = λ j lt. full_there i n inside less before j lt;
        blank = λ j ge.
            elim (cases_lt j (width t)) [
              | inr out ↦ leaf_of_out (put 0 t i None) j (omega arith)
              | inl lt ↦
                  at j lt
                  ∙ leaf_at-put 0 t i None j (omega arith) (omega arith) (omega arith) (omega arith)
                  ∙ cond_both (j == i) _ _ (λ o. o ≡ None) (λ _. refl) (λ _. sym (leaf_of_in t j lt) ∙ blank_there j ge)
            ];
      }
    where
      full_there : (i n : ℕ) → i < width t → n ≤ full_to → n ≤ i → (j : ℕ) → j < n → IsSome (leaf_of (put 0 t i None) j)
      full_there i n inside less before j lt =
          let w = width-put 0 t i None in
          ap is_some (
          leaf_of_in (put 0 t i None) j (omega arith)
          ∙ leaf_at-put 0 t i None j (omega arith) (omega arith) (omega arith) (omega arith)
          ∙ cond-false _ _ _ (ne_eqb j i (λ e. absurd (omega arith)))
          ∙ sym (leaf_of_in t j (omega arith))
          )
          ∙ bounds.full j (omega arith)

-- ---- the same, where the trees are given by their nodes

-- a leaf that is taken lies in the tree
taken_in : (t : Term) (i : ℕ) → IsSome (leaf_of t i) → i < width t
taken_in t i some =
    elim (cases_lt i (width t)) [
      | inl lt ↦ lt
      | inr ge ↦ absurd (true≢false (sym some ∙ ap is_some (leaf_of_out t i ge)))
    ]

-- so the numbers of its members are low, and where they end
module _ (h : ℕ) (xs : List (Option Node)) (old : Term) (view : term_of h xs ≡ old) (low : h ≤ max_height) where
  few_leaves : width old ≤ 2 ^ max_height
  few_leaves =
      let wide = ap width (sym view) ∙ width-term_of h xs in
      let most : 2 ^ h ≤ 2 ^ max_height = pow_mono low in
      omega arith

  pub member_low : (i : ℕ) → IsSome (leaf_of old i) → i < 2 ^ max_height
  member_low i some = let inside = taken_in old i some in let few = few_leaves in omega arith

  pub end_low : (e : ℕ) → e ≡ end_of_members 0 old → e ≤ 2 ^ max_height
  end_low e end = let within = end-within 0 old in let few = few_leaves in omega arith

module _ (h full_to blank_from : ℕ) (xs : List (Option Node)) (old : Term) (view : term_of h xs ≡ old) (bounds : Bounds (term_of h xs) full_to blank_from) (i e : ℕ) (some : IsSome (leaf_of old i)) (end : e ≡ end_of_members 0 old) where
  end_here : e ≡ end_of_members 0 (term_of h xs)
  end_here = end ∙ ap (end_of_members 0) (sym view)

  in_here : i < width (term_of h xs)
  in_here = taken_in (term_of h xs) i (ap (λ t. is_some (leaf_of t i)) view ∙ some)

  pub ended_here : Bounds (term_of h xs) full_to e
  ended_here = ended (term_of h xs) full_to blank_from e bounds end_here

  pub blanked : (n : ℕ) (ys : List (Option Node)) → StandsFor h ys (put 0 (term_of h xs) i None) → n ≤ full_to → n ≤ i → Bounds (term_of h ys) n e
  blanked n ys stands less before =
      subst (λ t. Bounds t n e) (sym stands.term) (bounds-blanked (term_of h xs) full_to blank_from e bounds end_here i n in_here less before)

  pub removed_inside : (ys : List (Option Node)) → StandsFor h ys (put 0 (term_of h xs) i None) → IsLastBeside i e old → term_of h ys ≡ remove old i
  removed_inside ys stands last =
      stands.term
      ∙ sym (not_trimmed h (term_of h xs) i e (perfect-term_of h xs) in_here end_here last.other (subst (λ t. width t < 2 * e) (sym view) last.right))
      ∙ ap (λ t. trim (put 0 t i None)) view
      ∙ sym (remove_is old i)

-- the members end where no later leaf is taken
pub end_bound : (full_to blank_from : ℕ) (t : Term) → Bounds t full_to blank_from → end_of_members 0 t ≤ blank_from
end_bound full_to blank_from t bounds =
    end_before 0 t blank_from (omega arith) (λ j ge lt. sym (leaf_of_in t j (omega arith)) ∙ bounds.blank j ge)

-- ---- whether the last member is another one on the right half, as the code reckons it

pub last_beside : (i e n : ℕ) (t : Term) → n ≡ width t → i + 1 < e → OnTrue (ltb n (2 * e)) (IsLastBeside i e t)
last_beside i e n t wide other =
    OnTrue_from (ltb n (2 * e)) (IsLastBeside i e t) (λ right. record {
      other = other;
      right = let less = ltb-true n (2 * e) right in omega arith;
    })

pub last_not_beside : (i e : ℕ) (t : Term) → e ≤ i + 1 → OnTrue (ltb (i + 1) e) (IsLastBeside i e t)
last_not_beside i e t end =
    OnTrue_from (ltb (i + 1) e) (IsLastBeside i e t) (λ less. absurd (let past = ltb-true (i + 1) e less in omega arith))

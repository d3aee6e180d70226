-- Which leaves are taken, by the bounds that a tree keeps: where an edit looks for them, and the bounds after it.
use Rattle.std.proofs.Common.{◌≡◌, ℕ, ◌+◌, ◌^◌, ◌<◌, ◌≤◌, ◌==◌, false, List, [], reverse, Option, Some, None, is_some, IsSome, refl, sym, ◌∙◌, ap, subst, arith, inl, inr, eqb-true, eq-eqb, ne_eqb}
use Rattle.std.proofs.Math.Pow.{pow_mono}
use Rattle.std.proofs.lemmas.Bool.{cases_lt, cond_both, cond-true, cond-false, true≢false}
use Rattle.mls_leaf.specs.declared.leaf.LeafNode.{LeafNode}
use Rattle.mls_treemath.specs.Limits.{max_height}
use Rattle.mls_tree_model.specs.Term.{Term, width, leaf_of}
use Rattle.mls_tree_model.specs.Edits.{put, enter, grow, trim, first_blank}
use Rattle.mls_tree_model.specs.Merge.{merge, merge_path}
use Rattle.mls_leaf.specs.declared.node.Node.{Node}
use Rattle.mls_tree_model.specs.Arrays.{term_of}
use Rattle.mls_tree_model.proofs.ArrayLaws.{width-term_of}
use Rattle.mls_tree_model.proofs.Equations.{leaf_of_in, leaf_of_out, remove_is}
use Rattle.mls_tree_model.proofs.ShapeLaws.{width-put, width-enter}
use Rattle.mls_tree_model.proofs.MergeLaws.{width-merge}
use Rattle.mls_tree_model.proofs.PlaceLaws.{first_blank_at, first_blank_none, first_blank_first, leaf_at-put, leaf_at-enter, leaf_at-merge, leaf_at-grow, leaf_at-grown, leaf_at-trim, width-grow, width-trim}
use Rattle.mls_tree_model.proofs.MemberLaws.{remove_elsewhere}
use Rattle.mls_tree_array.specs.EndOfMembers.{end_of_members}
use Rattle.mls_tree_array.proofs.EndLaws.{end_before, blank_behind}
use Rattle.mls_tree_array.specs.StandingLaws.{StandsFor}
use Rattle.mls_tree.specs.Bounds.{Bounds}
use Rattle.mls_tree.proofs.Pathing.{merge_is}

-- a leaf that is taken lies in the tree
in_tree : (t : Term) (j : ℕ) → IsSome (leaf_of t j) → j < width t
in_tree t j some =
    elim (cases_lt j (width t)) [
      | inl lt ↦ lt
      | inr ge ↦ absurd (true≢false (sym some ∙ ap is_some (leaf_of_out t j ge)))
    ]

none_of : (o : Option LeafNode) → is_some o ≡ false → o ≡ None
none_of None e = refl
none_of (Some v) e = absurd (true≢false e)

-- of a tree of which nothing is known
pub unbounded : (t : Term) (n : ℕ) → width t ≤ n → Bounds t 0 n
unbounded t n wide = record { full = λ j lt. absurd (omega arith); blank = λ j ge. leaf_of_out t j (omega arith) }

-- ---- where an edit looks

module _ (t : Term) (full_to blank_from : ℕ) (bounds : Bounds t full_to blank_from) where
  pub not_before : (i : ℕ) → first_blank 0 t ≡ Some i → full_to ≤ i
  not_before i first =
      let at = first_blank_at 0 t i first in
      let low = at.1 in
      elim (cases_lt i full_to) [
        | inr ge ↦ ge
        | inl lt ↦ absurd (true≢false (sym (bounds.full i lt) ∙ ap is_some (leaf_of_in t i (omega arith) ∙ at.2)))
      ]

  -- where leaf i is blanked
  pub not_behind : (i : ℕ) → i < width t → end_of_members 0 (put 0 t i None) ≤ blank_from
  not_behind i inside =
      let w = width-put 0 t i None in
      end_before 0 (put 0 t i None) blank_from (omega arith)
      (λ j ge lt.
      leaf_at-put 0 t i None j (omega arith) (omega arith) (omega arith) (omega arith)
      ∙ cond_both (j == i) _ _ (λ o. o ≡ None) (λ _. refl) (λ _. sym (leaf_of_in t j (omega arith)) ∙ bounds.blank j ge))

  -- ---- the bounds after it

  kept_by : (s : Term) → ((j : ℕ) → is_some (leaf_of s j) ≡ is_some (leaf_of t j)) → Bounds s full_to blank_from
  kept_by s same =
      record {
        full = λ j lt. same j ∙ bounds.full j lt;
        blank = λ j ge. none_of (leaf_of s j) (same j ∙ ap is_some (bounds.blank j ge));
      }

  put_same : (i : ℕ) (x : LeafNode) → IsSome (leaf_of t i) → (j : ℕ) → is_some (leaf_of (put 0 t i (Some x)) j) ≡ is_some (leaf_of t j)
  put_same i x some j =
      let inside = in_tree t i some in
      let w = width-put 0 t i (Some x) in
      elim (cases_lt j (width t)) [
        | inr ge ↦ ap is_some (leaf_of_out (put 0 t i (Some x)) j (omega arith) ∙ sym (leaf_of_out t j ge))
        | inl lt ↦
            ap is_some (leaf_of_in (put 0 t i (Some x)) j (omega arith) ∙ leaf_at-put 0 t i (Some x) j (omega arith) (omega arith) (omega arith) (omega arith))
            ∙ cond_both (j == i) _ _ (λ o. is_some o ≡ is_some (leaf_of t j))
            (λ e. sym (ap (λ k. is_some (leaf_of t k)) (eqb-true j i e) ∙ some))
            (λ _. ap is_some (sym (leaf_of_in t j lt)))
      ]

  pub bounds-put : (i : ℕ) (x : LeafNode) → IsSome (leaf_of t i) → Bounds (put 0 t i (Some x)) full_to blank_from
  bounds-put i x some = kept_by (put 0 t i (Some x)) (put_same i x some)

  merge_same : (i : ℕ) (x : LeafNode) (ks : List (List ℕ)) (h : List ℕ) (j : ℕ) → leaf_of (merge 0 t i ks h x) j ≡ leaf_of (put 0 t i (Some x)) j
  merge_same i x ks h j =
      let w = width-merge 0 t i ks h x in
      let v = width-put 0 t i (Some x) in
      elim (cases_lt j (width t)) [
        | inr ge ↦ leaf_of_out (merge 0 t i ks h x) j (omega arith) ∙ sym (leaf_of_out (put 0 t i (Some x)) j (omega arith))
        | inl lt ↦
            leaf_of_in (merge 0 t i ks h x) j (omega arith)
            ∙ leaf_at-merge 0 t i ks h x j
            ∙ sym (leaf_of_in (put 0 t i (Some x)) j (omega arith))
      ]

  pub bounds-merge : (i : ℕ) (x : LeafNode) (keys : List (List ℕ)) → IsSome (leaf_of t i) → Bounds (merge_path t i x keys) full_to blank_from
  bounds-merge i x keys some =
      subst (λ s. Bounds s full_to blank_from) (merge_is t i x keys)
      (kept_by (merge 0 t i (reverse keys) [] x) (λ j. ap is_some (merge_same i x (reverse keys) [] j) ∙ put_same i x some j))

  -- leaf i is filled, the leftmost blank one
  pub bounds-enter : (i n : ℕ) (x : LeafNode) → first_blank 0 t ≡ Some i → blank_from ≤ n → i < n → Bounds (enter 0 t i x) (i + 1) n
  bounds-enter i n x first more past =
      let at = first_blank_at 0 t i first in
      let inside = at.1 in
      let w = width-enter 0 t i x in
      record {
        full = λ j lt.
            ap is_some (leaf_of_in (enter 0 t i x) j (omega arith) ∙ leaf_at-enter 0 t i x j (omega arith) (omega arith) (omega arith) (omega arith))
            ∙ elim (cases_lt j i) [
              | inl less ↦ ap is_some (cond-false _ _ _ (ne_eqb j i (λ e. absurd (omega arith)))) ∙ first_blank_first 0 t i j first (omega arith) less
              | inr same ↦ ap is_some (cond-true _ _ _ (eq-eqb j i (omega arith)))
            ];
        blank = λ j ge.
            elim (cases_lt j (width t)) [
              | inr out ↦ leaf_of_out (enter 0 t i x) j (omega arith)
              | inl lt ↦
                  leaf_of_in (enter 0 t i x) j (omega arith)
                  ∙ leaf_at-enter 0 t i x j (omega arith) (omega arith) (omega arith) (omega arith)
                  ∙ cond-false _ _ _ (ne_eqb j i (λ e. absurd (omega arith)))
                  ∙ sym (leaf_of_in t j lt)
                  ∙ bounds.blank j (omega arith)
            ];
      }

  -- leaf i is blanked, and the tree halved as long as its right half has no member
  pub bounds-remove : (i n m : ℕ) → i < width t → n ≤ full_to → n ≤ i → m ≡ end_of_members 0 (put 0 t i None) → Bounds (trim (put 0 t i None)) n m
  bounds-remove i n m inside less before end =
      let s = put 0 t i None in
      let w = width-put 0 t i None in
      let v = width-trim (put 0 t i None) in
      record {
        full = λ j lt.
            let some = bounds.full j (omega arith) in
            let low = in_tree t j some in
            let stays = remove_elsewhere t i j inside low (λ e. absurd (omega arith)) (ap is_some (sym (leaf_of_in t j low)) ∙ some) in
            subst (λ r. IsSome (leaf_of r j)) (remove_is t i)
            (ap is_some (leaf_of_in _ j stays.0 ∙ stays.1 ∙ sym (leaf_of_in t j low)) ∙ some);
        blank = λ j ge.
            elim (cases_lt j (width (trim (put 0 t i None)))) [
              | inr out ↦ leaf_of_out (trim (put 0 t i None)) j out
              | inl lt ↦
                  leaf_of_in (trim (put 0 t i None)) j lt
                  ∙ leaf_at-trim 0 (put 0 t i None) j (omega arith)
                  ∙ blank_behind 0 (put 0 t i None) j (omega arith) (omega arith)
            ];
      }

-- a full tree is doubled, and the first of the new leaves filled
pub bounds-append : (t : Term) (i n : ℕ) (x : LeafNode) → first_blank 0 t ≡ None → i ≡ width t → n ≡ i + 1 → Bounds (enter 0 (grow t) i x) n n
bounds-append t i n x none at past =
    let room = width-grow t in
    let w = width-enter 0 (grow t) i x in
    record {
      full = λ j lt.
          ap is_some (leaf_of_in (enter 0 (grow t) i x) j (omega arith) ∙ leaf_at-enter 0 (grow t) i x j (omega arith) (omega arith) (omega arith) (omega arith))
          ∙ elim (cases_lt j i) [
            | inl less ↦ ap is_some (cond-false _ _ _ (ne_eqb j i (λ e. absurd (omega arith))) ∙ leaf_at-grown 0 t j (omega arith)) ∙ first_blank_none 0 t j none (omega arith) (omega arith)
            | inr same ↦ ap is_some (cond-true _ _ _ (eq-eqb j i (omega arith)))
          ];
      blank = λ j ge.
          elim (cases_lt j (width (grow t))) [
            | inr out ↦ leaf_of_out (enter 0 (grow t) i x) j (omega arith)
            | inl lt ↦
                leaf_of_in (enter 0 (grow t) i x) j (omega arith)
                ∙ leaf_at-enter 0 (grow t) i x j (omega arith) (omega arith) (omega arith) (omega arith)
                ∙ cond-false _ _ _ (ne_eqb j i (λ e. absurd (omega arith)))
                ∙ leaf_at-grow 0 t j (omega arith)
          ];
    }

-- ---- the same, where the trees are given by their nodes

pub unknown : (h n : ℕ) (xs : List (Option Node)) → n ≡ 2 ^ h → Bounds (term_of h xs) 0 n
unknown h n xs all = unbounded (term_of h xs) n (let w = width-term_of h xs in omega arith)

module _ (h full_to blank_from : ℕ) (xs : List (Option Node)) (old : Term) (view : term_of h xs ≡ old) (bounds : Bounds (term_of h xs) full_to blank_from) where
  here : (i : ℕ) → IsSome (leaf_of old i) → IsSome (leaf_of (term_of h xs) i)
  here i some = ap (λ t. is_some (leaf_of t i)) view ∙ some

  pub updated : (i j : ℕ) (x : LeafNode) (ys : List (Option Node)) → StandsFor j ys (put 0 (term_of h xs) i (Some x)) → IsSome (leaf_of old i) → Bounds (term_of j ys) full_to blank_from
  updated i j x ys stands some =
      subst (λ t. Bounds t full_to blank_from) (sym stands.term) (bounds-put (term_of h xs) full_to blank_from bounds i x (here i some))

  pub merged : (i j : ℕ) (x : LeafNode) (keys : List (List ℕ)) (ys : List (Option Node)) → StandsFor j ys (merge_path (term_of h xs) i x keys) → IsSome (leaf_of old i) → Bounds (term_of j ys) full_to blank_from
  merged i j x keys ys stands some =
      subst (λ t. Bounds t full_to blank_from) (sym stands.term) (bounds-merge (term_of h xs) full_to blank_from bounds i x keys (here i some))

  -- leaf i is blanked
  pub removal_end : (i j : ℕ) (ys cells : List (Option Node)) → cells ≡ ys → StandsFor j ys (put 0 (term_of h xs) i None) → IsSome (leaf_of old i) → end_of_members 0 (term_of j cells) ≤ blank_from
  removal_end i j ys cells same stands some =
      let is : term_of j cells ≡ put 0 (term_of h xs) i None = ap (term_of j) same ∙ stands.term in
      subst (λ t. end_of_members 0 t ≤ blank_from) (sym is) (not_behind (term_of h xs) full_to blank_from bounds i (in_tree (term_of h xs) i (here i some)))

  pub removed : (i j k n m : ℕ) (ys cells zs : List (Option Node)) → cells ≡ ys → StandsFor j ys (put 0 (term_of h xs) i None) → StandsFor k zs (trim (term_of j ys)) → IsSome (leaf_of old i) → n ≤ full_to → n ≤ i → m ≡ end_of_members 0 (term_of j cells) → Bounds (term_of k zs) n m
  removed i j k n m ys cells zs same stands trimmed some less before end =
      let is : term_of k zs ≡ trim (put 0 (term_of h xs) i None) = trimmed.term ∙ ap trim stands.term in
      subst (λ t. Bounds t n m) (sym is)
      (bounds-remove (term_of h xs) full_to blank_from bounds i n m (in_tree (term_of h xs) i (here i some)) less before (end ∙ ap (λ ws. end_of_members 0 (term_of j ws)) same ∙ ap (end_of_members 0) stands.term))

-- where the leftmost blank leaf was looked for in a copy of the nodes
module _ (h full_to blank_from : ℕ) (xs cells : List (Option Node)) (same : cells ≡ xs) (bounds : Bounds (term_of h xs) full_to blank_from) where
  pub from_there : (i : ℕ) → first_blank 0 (term_of h cells) ≡ Some i → full_to ≤ i
  from_there i first = not_before (term_of h xs) full_to blank_from bounds i (ap (λ ws. first_blank 0 (term_of h ws)) (sym same) ∙ first)

  pub found_low : (i : ℕ) → h ≤ max_height → Some i ≡ first_blank 0 (term_of h cells) → i < 2 ^ max_height
  found_low i tall first =
      let low = (first_blank_at 0 (term_of h cells) i (sym first)).1 in
      let w = width-term_of h cells in
      let most : 2 ^ h ≤ 2 ^ max_height = pow_mono tall in
      omega arith

  pub added : (i j n : ℕ) (x : LeafNode) (ys : List (Option Node)) → Some i ≡ first_blank 0 (term_of h cells) → StandsFor j ys (enter 0 (term_of h xs) i x) → blank_from ≤ n → i < n → Bounds (term_of j ys) (i + 1) n
  added i j n x ys first stands more past =
      subst (λ t. Bounds t (i + 1) n) (sym stands.term)
      (bounds-enter (term_of h xs) full_to blank_from bounds i n x (ap (λ ws. first_blank 0 (term_of h ws)) (sym same) ∙ sym first) more past)

  pub added_beside : (j n : ℕ) (x : LeafNode) (ys : List (Option Node)) → None ≡ first_blank 0 (term_of h cells) → StandsFor j ys (enter 0 (grow (term_of h xs)) (2 ^ h) x) → n ≡ 2 ^ h + 1 → Bounds (term_of j ys) n n
  added_beside j n x ys none stands past =
      subst (λ t. Bounds t n n) (sym stands.term)
      (bounds-append (term_of h xs) (2 ^ h) n x (ap (λ ws. first_blank 0 (term_of h ws)) (sym same) ∙ sym none) (sym (width-term_of h xs)) past)

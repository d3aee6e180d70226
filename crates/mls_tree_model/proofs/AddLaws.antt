-- An add keeps every parent hash valid.
use Rattle.std.proofs.Common.{◌≡◌, ℕ, ◌+◌, ◌*◌, ◌<◌, ◌≤◌, ◌==◌, nat_lt, nat_le, Bool, true, false, not, ◌&&◌, ◌||◌, List, filter, Option, Some, None, refl, sym, ◌∙◌, ap, ap₂, arith, inl, inr, eqb-true, ne_eqb, le-leb, lt-ltb, leb-true, ltb-true}
use Rattle.std.proofs.lemmas.Bool.{true≢false, and_parts, and_from, or_cases, or_left, or_right, or_parts, cases_lt, false_from_ne_true}
use Rattle.std.proofs.Math.Bool.{or-false}
use Rattle.mls_leaf.specs.Parent.{Parent, rising_with}
use Rattle.mls_leaf.specs.declared.leaf.LeafNode.{LeafNode}
use Rattle.mls_tree_model.proofs.Equations.{enter_left, enter_right, leaf_at_left, leaf_at_right}
use Rattle.mls_tree_model.specs.Term.{Term, Leaf, Branch, width, leaf_at}
use Rattle.mls_tree_model.specs.Sets.{has, within, leaf_numbers, is_same_set}
use Rattle.mls_tree_model.specs.Resolution.{resolution}
use Rattle.mls_tree_model.specs.Edits.{enter, list_leaf, with_leaf}
use Rattle.mls_tree_model.specs.Lists.{parent_passes, all_parents, lists_here, lists, is_listed_anywhere}
use Rattle.mls_tree_model.specs.Hashes.{parent_hash, hash_at, is_some_bytes, is_witness, has_witness, is_parent_hash_valid}
use Rattle.mls_tree_model.proofs.SetLaws.{numbers_more, numbers_same, any_at, any_from, has-filter, has-with, set_at, set_from}
use Rattle.mls_tree_model.proofs.ShapeLaws.{width-enter}
use Rattle.mls_tree_model.proofs.ParentLaws.{parents_parts, parents_from}
use Rattle.mls_tree_model.proofs.NamedLaws.{fresh}
use Rattle.mls_tree_model.proofs.ResolutionLaws.{resolution-enter, unnamed, hash_at-enter}
use Rattle.mls_tree_model.proofs.OriginalLaws.{parent_hash-out, parent_hash-in}

-- one more that passes, and one more that doesn't
mix : (a e v : Bool) → (e ≡ true → v ≡ true) → ((a || e) && v) ≡ ((a && v) || e)
mix true true true h = refl
mix true true false h = h refl
mix true false v h = sym (or-false v)
mix false true v h = h refl
mix false false v h = refl

drop : (a e v : Bool) → (e ≡ true → v ≡ false) → ((a || e) && v) ≡ (a && v)
drop true e v h = refl
drop false true v h = h refl
drop false false v h = refl

-- the listed leaves below a side, where the added one is below it and where it isn't
within_in : (b n i : ℕ) (us : List ℕ) → b ≤ i → i < b + n → (d : ℕ) → has (leaf_numbers (within b n (rising_with i us))) d ≡ (has (leaf_numbers (within b n us)) d || (2 * i == d))
within_in b n i us low high =
    numbers_more i (within b n (rising_with i us)) (within b n us) (λ u.
    has-filter (λ x. nat_le b x && nat_lt x (b + n)) (rising_with i us) u
    ∙ ap (λ v. v && (nat_le b u && nat_lt u (b + n))) (has-with i us u)
    ∙ mix (has us u) (i == u) _ (λ e. let is : i ≡ u = eqb-true i u e in and_from (nat_le b u) _ (le-leb b u (omega arith)) (lt-ltb u (b + n) (omega arith)))
    ∙ ap (λ v. v || (i == u)) (sym (has-filter (λ x. nat_le b x && nat_lt x (b + n)) us u)))

within_out : (b n i : ℕ) (us : List ℕ) → (b ≤ i → i < b + n → ⊥) → (d : ℕ) → has (leaf_numbers (within b n (rising_with i us))) d ≡ has (leaf_numbers (within b n us)) d
within_out b n i us out =
    numbers_same (within b n (rising_with i us)) (within b n us) (λ u.
    has-filter (λ x. nat_le b x && nat_lt x (b + n)) (rising_with i us) u
    ∙ ap (λ v. v && (nat_le b u && nat_lt u (b + n))) (has-with i us u)
    ∙ drop (has us u) (i == u) _ (λ e. false_from_ne_true _ (λ t.
    let is : i ≡ u = eqb-true i u e in
    let p = and_parts (nat_le b u) (nat_lt u (b + n)) t in
    let low = leb-true b u p.0 in
    let high = ltb-true u (b + n) p.1 in
    out (omega arith) (omega arith)))
    ∙ sym (has-filter (λ x. nat_le b x && nat_lt x (b + n)) us u))

module _ (p : Parent) (i : ℕ) (x : LeafNode) (b : ℕ) (c : Term) (m : ℕ) (s : Term) where
  -- the leaf is added on the witness's side
  under : b ≤ i → i < b + width c → leaf_at b c i ≡ None → is_listed_anywhere c i ≡ false → is_listed_anywhere s i ≡ false → (m ≤ i → i < m + width s → ⊥) → has_witness p b c m s ≡ true → has_witness (with_leaf i p) b (enter b c i x) m s ≡ true
  unfolding has_witness is_witness
  under low high none nc ns out h =
      let f = any_at (is_witness p b c m s) (resolution b c) h in
      let d = f.0 in
      let w = and_parts (is_some_bytes (hash_at b c d) (parent_hash p m s)) _ f.2 in
      let ne : 2 * i ≡ d → ⊥ = λ e. true≢false (sym f.1 ∙ sym (ap (has (resolution b c)) e) ∙ unnamed b c i nc (λ _ _. none)) in
      let first : is_some_bytes (hash_at b (enter b c i x) d) (parent_hash (with_leaf i p) m s) ≡ true =
      ap₂ is_some_bytes (hash_at-enter b c i x d low high ne) (parent_hash-out p i m s ns (λ l g. absurd (out l g))) ∙ w.0 in
      let rest : (e : ℕ) → has (filter (λ y. not (y == d)) (resolution b (enter b c i x))) e ≡ (has (filter (λ y. not (y == d)) (resolution b c)) e || (2 * i == e)) = λ e.
      has-filter (λ y. not (y == d)) (resolution b (enter b c i x)) e
      ∙ ap (λ v. v && not (e == d)) (resolution-enter b c i x e low high none)
      ∙ mix (has (resolution b c) e) (2 * i == e) (not (e == d)) (λ t. ap not (ne_eqb e d (λ z. ne (eqb-true (2 * i) e t ∙ z))))
      ∙ ap (λ v. v || (2 * i == e)) (sym (has-filter (λ y. not (y == d)) (resolution b c) e)) in
      let second : is_same_set (leaf_numbers (within b (width (enter b c i x)) (rising_with i p.unmerged_leaves))) (filter (λ y. not (y == d)) (resolution b (enter b c i x))) ≡ true =
      set_from (leaf_numbers (within b (width (enter b c i x)) (rising_with i p.unmerged_leaves))) (filter (λ y. not (y == d)) (resolution b (enter b c i x))) (λ e.
      ap (λ n. has (leaf_numbers (within b n (rising_with i p.unmerged_leaves))) e) (width-enter b c i x)
      ∙ within_in b (width c) i p.unmerged_leaves low high e
      ∙ ap (λ v. v || (2 * i == e)) (set_at (leaf_numbers (within b (width c) p.unmerged_leaves)) (filter (λ y. not (y == d)) (resolution b c)) w.1 e)
      ∙ sym (rest e)) in
      any_from (is_witness (with_leaf i p) b (enter b c i x) m s) (resolution b (enter b c i x)) d
      (resolution-enter b c i x d low high none ∙ or_left (has (resolution b c) d) _ f.1)
      (and_from _ _ first second)

  -- it is added on the other side
  beside : m ≤ i → i < m + width s → leaf_at m s i ≡ None → is_listed_anywhere s i ≡ false → (b ≤ i → i < b + width c → ⊥) → has_witness p b c m s ≡ true → has_witness (with_leaf i p) b c m (enter m s i x) ≡ true
  unfolding has_witness is_witness
  beside low high none ns out h =
      let f = any_at (is_witness p b c m s) (resolution b c) h in
      let d = f.0 in
      let w = and_parts (is_some_bytes (hash_at b c d) (parent_hash p m s)) _ f.2 in
      let first : is_some_bytes (hash_at b c d) (parent_hash (with_leaf i p) m (enter m s i x)) ≡ true =
      ap (is_some_bytes (hash_at b c d)) (parent_hash-in p i m s ns x low high none) ∙ w.0 in
      let second : is_same_set (leaf_numbers (within b (width c) (rising_with i p.unmerged_leaves))) (filter (λ y. not (y == d)) (resolution b c)) ≡ true =
      set_from (leaf_numbers (within b (width c) (rising_with i p.unmerged_leaves))) (filter (λ y. not (y == d)) (resolution b c)) (λ e.
      within_out b (width c) i p.unmerged_leaves out e
      ∙ set_at (leaf_numbers (within b (width c) p.unmerged_leaves)) (filter (λ y. not (y == d)) (resolution b c)) w.1 e) in
      any_from (is_witness (with_leaf i p) b c m (enter m s i x)) (resolution b c) d f.1 (and_from _ _ first second)

valid_left : (b : ℕ) (c : Option Parent) (l r : Term) (i : ℕ) (x : LeafNode) → b ≤ i → i < b + width l → leaf_at b l i ≡ None → is_listed_anywhere l i ≡ false → is_listed_anywhere r i ≡ false → parent_passes is_parent_hash_valid b c l r ≡ true → parent_passes is_parent_hash_valid b (list_leaf i c) (enter b l i x) r ≡ true
unfolding is_parent_hash_valid
valid_left b None l r i x low high none nl nr h = refl
valid_left b (Some p) l r i x low high none nl nr h =
    let w = width-enter b l i x in
    elim (or_cases (has_witness p b l (b + width l) r) _ h) [
      | inl j ↦ or_left (has_witness (with_leaf i p) b (enter b l i x) (b + width (enter b l i x)) r) _
          (ap (λ n. has_witness (with_leaf i p) b (enter b l i x) (b + n) r) w
          ∙ under p i x b l (b + width l) r low high none nl nr (λ far _. absurd (omega arith)) j)
      | inr j ↦ or_right (has_witness (with_leaf i p) b (enter b l i x) (b + width (enter b l i x)) r) _
          (ap (λ n. has_witness (with_leaf i p) (b + n) r b (enter b l i x)) w
          ∙ beside p i x (b + width l) r b l low high none nl (λ far _. absurd (omega arith)) j)
    ]

valid_right : (b : ℕ) (c : Option Parent) (l r : Term) (i : ℕ) (x : LeafNode) → b + width l ≤ i → i < (b + width l) + width r → leaf_at (b + width l) r i ≡ None → is_listed_anywhere l i ≡ false → is_listed_anywhere r i ≡ false → parent_passes is_parent_hash_valid b c l r ≡ true → parent_passes is_parent_hash_valid b (list_leaf i c) l (enter (b + width l) r i x) ≡ true
unfolding is_parent_hash_valid
valid_right b None l r i x low high none nl nr h = refl
valid_right b (Some p) l r i x low high none nl nr h =
    elim (or_cases (has_witness p b l (b + width l) r) _ h) [
      | inl j ↦ or_left (has_witness (with_leaf i p) b l (b + width l) (enter (b + width l) r i x)) _
          (beside p i x b l (b + width l) r low high none nr (λ _ far. absurd (omega arith)) j)
      | inr j ↦ or_right (has_witness (with_leaf i p) b l (b + width l) (enter (b + width l) r i x)) _
          (under p i x (b + width l) r b l low high none nr nl (λ _ far. absurd (omega arith)) j)
    ]

pub valid-enter : (b : ℕ) (t : Term) (i : ℕ) (x : LeafNode) → b ≤ i → i < b + width t → leaf_at b t i ≡ None → is_listed_anywhere t i ≡ false → all_parents is_parent_hash_valid b t ≡ true → all_parents is_parent_hash_valid b (enter b t i x) ≡ true
unfolding width is_listed_anywhere
valid-enter b (Leaf v) i x low high none n h = valid_leaf b v i x
  where
    valid_leaf : (b : ℕ) (v : Option LeafNode) (i : ℕ) (x : LeafNode) → all_parents is_parent_hash_valid b (enter b (Leaf v) i x) ≡ true
    valid_leaf b v i x = unfold all_parents enter in refl
valid-enter b (Branch c l r) i x low high none n h =
    let p = parents_parts is_parent_hash_valid b c l r h in
    let w = or_parts (is_listed_anywhere l i) (is_listed_anywhere r i) (or_parts (lists c i) _ n).1 in
    elim (cases_lt i (b + width l)) [
      | inl j ↦
          let e = sym (leaf_at_left b c l r i j) ∙ none in
          rw (enter_left b c l r i x j) (parents_from is_parent_hash_valid b (b + width l) (list_leaf i c) (enter b l i x) r (valid_left b c l r i x low j e w.0 w.1 p.0) (valid-enter b l i x low j e w.0 p.1) (ap (λ n. b + n) (sym (width-enter b l i x))) p.2)
      | inr j ↦
          let e = sym (leaf_at_right b c l r i j) ∙ none in
          let top : i < (b + width l) + width r = omega arith in
          rw (enter_right b c l r i x j) (parents_from is_parent_hash_valid b (b + width l) (list_leaf i c) l (enter (b + width l) r i x) (valid_right b c l r i x j top e w.0 w.1 p.0) p.1 refl (valid-enter (b + width l) r i x j top e w.1 p.2))
    ]

pub valid-add : (b : ℕ) (t : Term) (i : ℕ) (x : LeafNode) → b ≤ i → i < b + width t → leaf_at b t i ≡ None → all_parents lists_here b t ≡ true → all_parents is_parent_hash_valid b t ≡ true → all_parents is_parent_hash_valid b (enter b t i x) ≡ true
valid-add b t i x low high none h = valid-enter b t i x low high none (fresh b t i h none)

-- The witness of a parent on a side, by the only node that can be one.
use Rattle.std.proofs.Common.{◌≡◌, ℕ, Bool, true, false, not, ◌&&◌, List, Option, Some, None, refl, sym, ◌∙◌, ap, inl, inr}
use Rattle.std.specs.List.{find}
use Rattle.std.proofs.lemmas.Bool.{true≢false, cases_Bool, and_parts, and_from, not-true, false_from_ne_true, cond-true, cond-false}
use Rattle.mls_leaf.specs.Parent.{Parent}
use Rattle.mls_tree_model.specs.Sets.{has, within, leaf_numbers, is_same_set}
use Rattle.mls_tree_model.specs.Term.{Term, width}
use Rattle.mls_tree_model.specs.Inputs.{sibling_hash}
use Rattle.mls_tree_model.specs.Resolution.{resolution}
use Rattle.mls_tree_model.specs.Hashes.{tree_hash, original_tree, hash_at, is_some_bytes, is_witness, parent_hash}
use Rattle.mls_tree_model.specs.LastPath.{witness}
use Rattle.mls_tree_array.specs.Witnesses.{others, first_outside, keep_if, only_outside, candidate}
use Rattle.mls_tree_array.proofs.Others.{find_none, find_some, off, one}
use Rattle.mls_tree_array.proofs.Ties.{asked_hash}

-- ---- the first node that passes a test

-- it is what is wanted, where no node passes and where one does
found_by : (q : ℕ → Bool) (xs : List ℕ) (want : Option ℕ) → (find q xs ≡ None → None ≡ want) → ((d : ℕ) → has xs d ≡ true → q d ≡ true → Some d ≡ want) → find q xs ≡ want
found_by q xs want none some = go (find q xs) refl
  where
    go : (o : Option ℕ) → find q xs ≡ o → find q xs ≡ want
    go None e = e ∙ none e
    go (Some d) e = let s = find_some q xs d e in e ∙ some d s.0 s.1

-- what passes two tests, or not
both_kept : (f g : ℕ → Bool) (d : ℕ) → f d ≡ true → g d ≡ true → Some d ≡ keep_if f (keep_if g (Some d))
both_kept f g d y z = sym (ap (keep_if f) (cond-true (g d) (Some d) None z) ∙ cond-true (f d) (Some d) None y)

none_kept : (f g : ℕ → Bool) (d : ℕ) → (f d && g d) ≡ false → None ≡ keep_if f (keep_if g (Some d))
none_kept f g d t =
    elim (cases_Bool (g d)) [
      | inl z ↦
          let other : f d ≡ false = false_from_ne_true (f d) (λ y. absurd (true≢false (sym (and_from (f d) (g d) y z) ∙ t))) in
          sym (ap (keep_if f) (cond-true (g d) (Some d) None z) ∙ cond-false (f d) (Some d) None other)
      | inr z ↦ sym (ap (keep_if f) (cond-false (g d) (Some d) None z))
    ]

-- the first node for which the others are a set, and that passes a test
kept_at : (ls xs : List ℕ) (f : ℕ → Bool) (o : Option ℕ) → first_outside ls xs ≡ o → find (λ d. f d && is_same_set ls (others d xs)) xs ≡ keep_if f (keep_if (λ d. is_same_set ls (others d xs)) o)
kept_at ls xs f None e =
    found_by (λ d. f d && is_same_set ls (others d xs)) xs None (λ _. refl)
    (λ d there passes.
    let p = and_parts (f d) (is_same_set ls (others d xs)) passes in
    let out : has ls d ≡ false = off ls xs d p.1 in
    absurd (true≢false (sym (ap not out) ∙ find_none (λ x. not (has ls x)) xs d e there)))
kept_at ls xs f (Some d) e =
    let s = find_some (λ x. not (has ls x)) xs d e in
    let out : has ls d ≡ false = not-true (has ls d) s.1 in
    elim (cases_Bool (f d && is_same_set ls (others d xs))) [
      | inl t ↦
          let p = and_parts (f d) (is_same_set ls (others d xs)) t in
          found_by (λ x. f x && is_same_set ls (others x xs)) xs (keep_if f (keep_if (λ x. is_same_set ls (others x xs)) (Some d)))
          (λ none. absurd (true≢false (sym t ∙ find_none (λ x. f x && is_same_set ls (others x xs)) xs d none s.0)))
          (λ x there passes.
          let q = and_parts (f x) (is_same_set ls (others x xs)) passes in
          ap Some (sym (one ls xs d x q.1 s.0 out)) ∙ both_kept f (λ x. is_same_set ls (others x xs)) d p.0 p.1)
      | inr t ↦
          found_by (λ x. f x && is_same_set ls (others x xs)) xs (keep_if f (keep_if (λ x. is_same_set ls (others x xs)) (Some d)))
          (λ none. none_kept f (λ x. is_same_set ls (others x xs)) d t)
          (λ x there passes.
          let q = and_parts (f x) (is_same_set ls (others x xs)) passes in
          absurd (true≢false (sym (ap (λ y. f y && is_same_set ls (others y xs)) (one ls xs d x q.1 s.0 out) ∙ passes) ∙ t)))
    ]

-- ---- the witness

witness_by : (p : Parent) (b : ℕ) (c : Term) (m : ℕ) (s : Term) → witness p b c m s ≡ keep_if (λ d. is_some_bytes (hash_at b c d) (parent_hash p m s)) (candidate p b c)
unfolding witness is_witness candidate only_outside
witness_by p b c m s =
    kept_at (leaf_numbers (within b (width c) p.unmerged_leaves)) (resolution b c) (λ d. is_some_bytes (hash_at b c d) (parent_hash p m s)) _ refl

pub no_witness : (p : Parent) (b : ℕ) (c : Term) (m : ℕ) (s : Term) → None ≡ candidate p b c → None ≡ witness p b c m s
no_witness p b c m s none =
    sym (witness_by p b c m s ∙ ap (keep_if (λ d. is_some_bytes (hash_at b c d) (parent_hash p m s))) (sym none))

-- the hash that is asked for is made of the parent's parts
module _ (p : Parent) (b m d : ℕ) (c s : Term) (key hash us sibling g : List ℕ) (some : Some d ≡ candidate p b c) (is_key : key ≡ p.encryption_key) (is_hash : hash ≡ p.parent_hash) (is_list : us ≡ p.unmerged_leaves) (is_sibling : sibling ≡ tree_hash m (original_tree us m s)) (is_asked : g ≡ sibling_hash key hash sibling) where
  kept : witness p b c m s ≡ keep_if (λ x. is_some_bytes (hash_at b c x) (parent_hash p m s)) (Some d)
  kept = witness_by p b c m s ∙ ap (keep_if (λ x. is_some_bytes (hash_at b c x) (parent_hash p m s))) (sym some)

  asked : is_some_bytes (hash_at b c d) (parent_hash p m s) ≡ is_some_bytes (hash_at b c d) g
  asked = ap (is_some_bytes (hash_at b c d)) (sym (asked_hash p m s key hash us sibling g is_key is_hash is_list is_sibling is_asked))

  pub the_witness : is_some_bytes (hash_at b c d) g ≡ true → Some d ≡ witness p b c m s
  the_witness has_it =
      sym (kept ∙ cond-true (is_some_bytes (hash_at b c d) (parent_hash p m s)) (Some d) None (asked ∙ has_it))

  pub not_witness : is_some_bytes (hash_at b c d) g ≡ false → None ≡ witness p b c m s
  not_witness has_not =
      sym (kept ∙ cond-false (is_some_bytes (hash_at b c d) (parent_hash p m s)) (Some d) None (asked ∙ has_not))

-- How long hashes are.
use Rattle.std.proofs.Common.{◌≡◌, ℕ, ◌+◌, ◌==◌, Bool, true, false, cond, List, [], ◌∷◌, length, reverse, Option, Some, None, sym, ◌∙◌, ap, arith, inl, inr, ◌⊎◌, ne_eqb}
use Rattle.std.proofs.lemmas.Bool.{cases_lt, cond-false}
use Rattle.std.proofs.lemmas.List.{length-reverse}
use Rattle.sha2.proofs.Facts256 as facts
use Rattle.mls_leaf.specs.Parent.{Parent}
use Rattle.mls_tree_model.specs.Term.{Term, Leaf, Branch, width}
use Rattle.mls_tree_model.specs.Resolution.{is_reached}
use Rattle.mls_tree_model.specs.Way.{path_length}
use Rattle.mls_tree_model.specs.Inputs.{leaf_hash, branch_hash, sibling_hash}
use Rattle.mls_tree_model.specs.Hashes.{tree_hash, parent_hash}
use Rattle.mls_tree_model.specs.Merge.{new_parent, keys_below, hash_below, path_hash, path_parent_hash}
use Rattle.mls_tree_model.proofs.Equations.{path_hash_leaf, path_hash_left, path_hash_right, path_length_leaf, path_length_left, path_length_right}

pub length-tree_hash : (b : ℕ) (t : Term) → length (tree_hash b t) ≡ 32
unfolding tree_hash leaf_hash branch_hash
length-tree_hash b (Leaf v) = facts.length-sha256 _
length-tree_hash b (Branch c l r) = facts.length-sha256 _

length-parent_hash : (p : Parent) (m : ℕ) (s : Term) → length (parent_hash p m s) ≡ 32
unfolding parent_hash sibling_hash
length-parent_hash p m s = facts.length-sha256 _

-- ---- what is handed down a path

below_long : (c : Option Parent) (m : ℕ) (s : Term) (h : List ℕ) → length h ≡ 32 → length (hash_below c m s h) ≡ 32
below_long None m s h e = e
below_long (Some p) m s h e = length-parent_hash p m s

hash_long : (b : ℕ) (t : Term) (i : ℕ) (ks : List (List ℕ)) (h : List ℕ) → length h ≡ 32 → length (path_hash b t i ks h) ≡ 32
hash_long b (Leaf v) i ks h e = ap length (path_hash_leaf b v i ks h) ∙ e
hash_long b (Branch c l r) i ks h e =
    elim (cases_lt i (b + width l)) [
      | inl lt ↦ rw (path_hash_left b c l r i ks h lt) (hash_long b l i _ _ (below_long (new_parent (is_reached (b + width l) r) ks h) (b + width l) r h e))
      | inr ge ↦ rw (path_hash_right b c l r i ks h ge) (hash_long (b + width l) r i _ _ (below_long (new_parent (is_reached b l) ks h) b l h e))
    ]

-- below a parent of which it is known whether the path takes it in
step_down : (q : List (List ℕ) → List ℕ → List ℕ) (n m : ℕ) (s : Term)
    → ((ks : List (List ℕ)) (h : List ℕ) → length ks ≡ n → length (q ks h) ≡ cond (n == 0) (length h) 32)
    → ((ks : List (List ℕ)) (h : List ℕ) → length h ≡ 32 → length (q ks h) ≡ 32)
    → (f : Bool) (ks : List (List ℕ)) (h : List ℕ) → length ks ≡ cond f 1 0 + n
    → length (q (keys_below f ks) (hash_below (new_parent f ks h) m s h)) ≡ cond ((cond f 1 0 + n) == 0) (length h) 32
step_down q n m s rest long false ks h e = let z : 0 + n ≡ n = omega arith in rw z (rest ks h (e ∙ z))
step_down q n m s rest long true [] h e = absurd (omega arith)
step_down q n m s rest long true (key ∷ ks) h e =
    let p : Parent = record { encryption_key = key; parent_hash = h; unmerged_leaves = [] } in
    long ks (parent_hash p m s) (length-parent_hash p m s) ∙ sym (cond-false _ _ _ (ne_eqb (1 + n) 0 (λ z. absurd (omega arith))))

hash_ends : (b : ℕ) (t : Term) (i : ℕ) (ks : List (List ℕ)) (h : List ℕ) → length ks ≡ path_length b t i → length (path_hash b t i ks h) ≡ cond (path_length b t i == 0) (length h) 32
hash_ends b (Leaf v) i ks h e = ap length (path_hash_leaf b v i ks h) ∙ sym (ap (λ n. cond (n == 0) (length h) 32) (path_length_leaf b v i))
hash_ends b (Branch c l r) i ks h e =
    elim (cases_lt i (b + width l)) [
      | inl lt ↦
          let more = path_length_left b c l r i lt in
          rw (path_hash_left b c l r i ks h lt, more)
          (step_down (path_hash b l i) (path_length b l i) (b + width l) r (hash_ends b l i) (hash_long b l i) (is_reached (b + width l) r) ks h (e ∙ more))
      | inr ge ↦
          let more = path_length_right b c l r i ge in
          rw (path_hash_right b c l r i ks h ge, more)
          (step_down (path_hash (b + width l) r i) (path_length (b + width l) r i) b l (hash_ends (b + width l) r i) (hash_long (b + width l) r i) (is_reached b l) ks h (e ∙ more))
    ]

pub length-path_parent_hash : (t : Term) (i : ℕ) (keys : List (List ℕ)) → length keys ≡ path_length 0 t i → length (path_parent_hash t i keys) ≡ cond (path_length 0 t i == 0) 0 32
unfolding path_parent_hash
length-path_parent_hash t i keys e = hash_ends 0 t i (reverse keys) [] (length-reverse keys ∙ e)

-- whatever keys there are
short_or_long : (b : ℕ) (t : Term) (i : ℕ) (ks : List (List ℕ)) (h : List ℕ) → (length (path_hash b t i ks h) ≡ length h) ⊎ (length (path_hash b t i ks h) ≡ 32)
short_or_long b (Leaf v) i ks h = inl (ap length (path_hash_leaf b v i ks h))
short_or_long b (Branch c l r) i ks h =
    elim (cases_lt i (b + width l)) [
      | inl lt ↦ rw (path_hash_left b c l r i ks h lt) (below (path_hash b l i) (short_or_long b l i) (hash_long b l i) (keys_below (is_reached (b + width l) r) ks) (new_parent (is_reached (b + width l) r) ks h) (b + width l) r h)
      | inr ge ↦ rw (path_hash_right b c l r i ks h ge) (below (path_hash (b + width l) r i) (short_or_long (b + width l) r i) (hash_long (b + width l) r i) (keys_below (is_reached b l) ks) (new_parent (is_reached b l) ks h) b l h)
    ]
  where
    below : (q : List (List ℕ) → List ℕ → List ℕ)
        → ((ks : List (List ℕ)) (h : List ℕ) → (length (q ks h) ≡ length h) ⊎ (length (q ks h) ≡ 32))
        → ((ks : List (List ℕ)) (h : List ℕ) → length h ≡ 32 → length (q ks h) ≡ 32)
        → (ks : List (List ℕ)) (d : Option Parent) (m : ℕ) (s : Term) (h : List ℕ)
        → (length (q ks (hash_below d m s h)) ≡ length h) ⊎ (length (q ks (hash_below d m s h)) ≡ 32)
    below q rest long ks None m s h = rest ks h
    below q rest long ks (Some p) m s h = inr (long ks (parent_hash p m s) (length-parent_hash p m s))

pub none_or_long : (t : Term) (i : ℕ) (keys : List (List ℕ)) → (length (path_parent_hash t i keys) ≡ 0) ⊎ (length (path_parent_hash t i keys) ≡ 32)
unfolding path_parent_hash
none_or_long t i keys = short_or_long 0 t i (reverse keys) []

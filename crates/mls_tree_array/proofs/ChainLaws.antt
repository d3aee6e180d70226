-- The chain of witnesses from a node, by the root and its sides.
use Rattle.std.proofs.Common.{◌≡◌, ℕ, ◌+◌, ◌*◌, ◌==◌, ◌<◌, ◌≤◌, nat_lt, cond, if◌then◌else◌, List, [], ◌∷◌, Option, Some, None, refl, sym, ◌∙◌, ap, inl, inr, arith, eqb-true, eq-eqb, ne_eqb, lt-ltb, le-ltb}
use Rattle.std.proofs.lemmas.Bool.{cases_Bool, cond-true, cond-false}
use Rattle.mls_leaf.specs.Parent.{Parent}
use Rattle.mls_leaf.specs.declared.leaf.LeafNode.{LeafNode}
use Rattle.mls_tree_model.specs.Term.{Term, Leaf, Branch, width, size}
use Rattle.mls_tree_model.specs.Edits.{or_else}
use Rattle.mls_tree_model.specs.LastPath.{witness, witness_of, nodes_from, chain_at, last_path}
use Rattle.mls_tree_array.specs.Subtrees.{Subtree, root_number, end, IsOver}

-- ---- of a leaf

chain_leaf : (b : ℕ) (v : Option LeafNode) (n : ℕ) → chain_at b (Leaf v) n ≡ (if n == 2 * b then n ∷ [] else [])
unfolding chain_at
chain_leaf b v n = refl

-- the number that is looked for is the leaf's own, or not
pub leaf_chain : (t : Subtree) (v : Option LeafNode) (x own : ℕ) → t.term ≡ Leaf v → own ≡ root_number t.first t.term → (if x == own then own ∷ [] else []) ≡ chain_at t.first t.term x
leaf_chain t v x own is number =
    let at : own ≡ 2 * t.first = (let n : own ≡ 2 * t.first + 0 = number ∙ ap (root_number t.first) is in omega arith) in
    elim (cases_Bool (x == own)) [
      | inl k ↦
          cond-true _ _ _ k
          ∙ ap (λ y. y ∷ []) (sym (eqb-true x own k))
          ∙ sym (ap (λ s. chain_at t.first s x) is ∙ chain_leaf t.first v x ∙ ap (λ n. cond (x == n) (x ∷ []) []) (sym at) ∙ cond-true _ _ _ k)
      | inr k ↦
          cond-false _ _ _ k
          ∙ sym (ap (λ s. chain_at t.first s x) is ∙ chain_leaf t.first v x ∙ ap (λ n. cond (x == n) (x ∷ []) []) (sym at) ∙ cond-false _ _ _ k)
    ]

-- ---- of a branch

module _ (b : ℕ) (c : Option Parent) (l r : Term) (n : ℕ) where
  chain_here : n ≡ 2 * b + size l → chain_at b (Branch c l r) n ≡ n ∷ nodes_from (λ d. if nat_lt d n then chain_at b l d else chain_at (b + width l) r d) (witness_of c b l r)
  unfolding chain_at
  chain_here is = cond-true _ _ _ (eq-eqb n (2 * b + size l) is)

  chain_left : n < 2 * b + size l → chain_at b (Branch c l r) n ≡ chain_at b l n
  unfolding chain_at
  chain_left low = cond-false _ _ _ (ne_eqb n (2 * b + size l) (λ e. absurd (omega arith))) ∙ cond-true _ _ _ (lt-ltb n (2 * b + size l) low)

  chain_right : 2 * b + size l < n → chain_at b (Branch c l r) n ≡ chain_at (b + width l) r n
  unfolding chain_at
  chain_right high = cond-false _ _ _ (ne_eqb n (2 * b + size l) (λ e. absurd (omega arith))) ∙ cond-false _ _ _ (le-ltb n (2 * b + size l) (omega arith))

-- the chain from a node of two sides, by the number that parts them
abbrev below : Subtree → Subtree → ℕ → ℕ → List ℕ
below l r x d = if nat_lt d x then chain_at l.first l.term d else chain_at r.first r.term d

module _ (t l : Subtree) (c : Option Parent) (r : Subtree) (over : IsOver t l c r) (x : ℕ) where
  pub chain_low : x < root_number t.first t.term → chain_at t.first t.term x ≡ chain_at l.first l.term x
  chain_low low = rw (over.is, over.left_first) (chain_left t.first c l.term r.term x (rw over.is at low))

  pub chain_high : root_number t.first t.term < x → chain_at t.first t.term x ≡ chain_at r.first r.term x
  chain_high high = rw (over.is, over.right_first) (chain_right t.first c l.term r.term x (rw over.is at high))

  -- node x is the root, whose number is written as `own`
  module _ (own : ℕ) (at : own ≡ root_number t.first t.term) (same : x ≡ own) where
    here : chain_at t.first t.term x ≡ x ∷ nodes_from (λ d. if nat_lt d x then chain_at l.first l.term d else chain_at r.first r.term d) (witness_of c l.first l.term r.term)
    here =
        rw (over.is, over.left_first, over.right_first)
        (chain_here t.first c l.term r.term x (same ∙ at ∙ ap (root_number t.first) over.is))

    at_own : chain_at t.first t.term x ≡ own ∷ nodes_from (below l r x) (witness_of c l.first l.term r.term)
    at_own = here ∙ ap (λ n. n ∷ nodes_from (below l r x) (witness_of c l.first l.term r.term)) same

    pub chain_ends : None ≡ witness_of c l.first l.term r.term → chain_at t.first t.term x ≡ own ∷ []
    chain_ends none = at_own ∙ ap (λ o. own ∷ nodes_from (below l r x) o) (sym none)

    pub chain_on_left : (d : ℕ) → Some d ≡ witness_of c l.first l.term r.term → d < x → chain_at t.first t.term x ≡ own ∷ chain_at l.first l.term d
    chain_on_left d some low =
        at_own ∙ ap (λ o. own ∷ nodes_from (below l r x) o) (sym some) ∙ ap (λ ys. own ∷ ys) (cond-true _ _ _ (lt-ltb d x low))

    pub chain_on_right : (d : ℕ) → Some d ≡ witness_of c l.first l.term r.term → x ≤ d → chain_at t.first t.term x ≡ own ∷ chain_at r.first r.term d
    chain_on_right d some high =
        at_own ∙ ap (λ o. own ∷ nodes_from (below l r x) o) (sym some) ∙ ap (λ ys. own ∷ ys) (cond-false _ _ _ (le-ltb d x high))

-- ---- the witness of a parent over two sides

module _ (p : Parent) (l r : Subtree) (second : r.first ≡ end l) where
  by_sides : witness_of (Some p) l.first l.term r.term ≡ or_else (witness p l.first l.term r.first r.term) (witness p r.first r.term l.first l.term)
  by_sides = ap (λ m. or_else (witness p l.first l.term m r.term) (witness p m r.term l.first l.term)) (sym second)

  pub left_witness : (d : ℕ) → Some d ≡ witness p l.first l.term r.first r.term → Some d ≡ witness_of (Some p) l.first l.term r.term
  left_witness d some = sym (by_sides ∙ ap (λ o. or_else o (witness p r.first r.term l.first l.term)) (sym some))

  pub right_witness : None ≡ witness p l.first l.term r.first r.term → witness p r.first r.term l.first l.term ≡ witness_of (Some p) l.first l.term r.term
  right_witness none = sym (by_sides ∙ ap (λ o. or_else o (witness p r.first r.term l.first l.term)) (sym none))

-- ---- the path of a whole tree

module _ (t l : Subtree) (c : Option Parent) (r : Subtree) (over : IsOver t l c r) (whole : t.first ≡ 0) where
  pub no_path : None ≡ c → last_path t.term ≡ []
  unfolding last_path
  no_path none = rw (over.is, ← none) refl

  pub path_chain : (p : Parent) → Some p ≡ c → last_path t.term ≡ chain_at t.first t.term (root_number t.first t.term)
  unfolding last_path
  path_chain p some =
      let none_before : size l.term ≡ 0 + size l.term = omega arith in
      rw (over.is, ← some, whole) (ap (chain_at 0 (Branch (Some p) l.term r.term)) none_before)

pub leaf_path : (t : Subtree) (v : Option LeafNode) → t.term ≡ Leaf v → last_path t.term ≡ []
unfolding last_path
leaf_path t v is = rw is refl

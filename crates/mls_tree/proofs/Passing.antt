-- What each member passes, one leaf after another.
use Rattle.std.proofs.Common.{◌≡◌, ℕ, zero, suc, ◌+◌, ◌-◌, ◌/◌, ◌^◌, ◌<◌, ◌≤◌, Bool, true, false, ◌&&◌, List, length, Option, refl, sym, ◌∙◌, ap, arith, add-one, pow-suc}
use Rattle.std.proofs.Math.Bool.{and-true, and_assoc}
use Rattle.mls_leaf.specs.declared.leaf.LeafNode.{LeafNode}
use Rattle.mls_leaf.specs.declared.node.Node.{Node}
use Rattle.mls_treemath.specs.Paths.{nodes_in}
use Rattle.mls_treemath.proofs.Sizes.{nodes_in-pow}
use Rattle.mls_tree_model.specs.Term.{Term, Leaf, Branch, width, leaf_at, leaf_of}
use Rattle.mls_tree_model.specs.Keys.{passes, all_members}
use Rattle.mls_suite.specs.Crypto.{Crypto}
use Rattle.mls_checks.specs.Leaf.{is_capable}
use Rattle.mls_tree_model.specs.Good.{is_all_capable}
use Rattle.mls_tree_model.specs.Arrays.{term_of}
use Rattle.mls_tree.specs.Rules.{rules_of}
use Rattle.mls_tree_model.proofs.Equations.{leaf_at_leaf, leaf_at_left, leaf_at_right, leaf_of_in, all_members_leaf, all_members_branch}
use Rattle.mls_tree_model.proofs.ArrayLaws.{width-term_of}

-- whether the n leaves from leaf i on pass a test
abbrev pub rest : (ℕ → LeafNode → Bool) → (ℕ → Option LeafNode) → ℕ → ℕ → Bool
rest p f i zero = true
rest p f i (suc n) = passes p i (f i) && rest p f (suc i) n

module _ (p : ℕ → LeafNode → Bool) where
  rest-add : (f : ℕ → Option LeafNode) (i n m : ℕ) → rest p f i (n + m) ≡ (rest p f i n && rest p f (i + n) m)
  rest-add f i zero m =
      let e : 0 + m ≡ m = omega arith in
      let g : i ≡ i + 0 = omega arith in
      ap (rest p f i) e ∙ ap (λ j. rest p f j m) g
  rest-add f i (suc n) m =
      let e : suc n + m ≡ suc (n + m) = omega arith in
      let g : suc i + n ≡ i + suc n = omega arith in
      ap (rest p f i) e
      ∙ ap (λ v. passes p i (f i) && v) (rest-add f (suc i) n m ∙ ap (λ j. rest p f (suc i) n && rest p f j m) g)
      ∙ sym (and_assoc (passes p i (f i)) (rest p f (suc i) n) (rest p f (i + suc n) m))

  rest-same : (f g : ℕ → Option LeafNode) (i n : ℕ) → ((j : ℕ) → i ≤ j → j < i + n → f j ≡ g j) → rest p f i n ≡ rest p g i n
  rest-same f g i zero same = refl
  rest-same f g i (suc n) same =
      ap (λ v. passes p i v && rest p f (suc i) n) (same i (omega arith) (omega arith))
      ∙ ap (λ v. passes p i (g i) && v) (rest-same f g (suc i) n (λ j low high. same j (omega arith) (omega arith)))

  all_rest : (b : ℕ) (t : Term) → all_members p b t ≡ rest p (leaf_at b t) b (width t)
  unfolding width
  all_rest b (Leaf v) =
      all_members_leaf p b v ∙ ap (passes p b) (sym (leaf_at_leaf b v b)) ∙ sym (and-true (passes p b (leaf_at b (Leaf v) b)))
  all_rest b (Branch c l r) =
      all_members_branch b c l r p
      ∙ ap (λ v. v && all_members p (b + width l) r) (all_rest b l ∙ rest-same (leaf_at b l) (leaf_at b (Branch c l r)) b (width l) (λ j low high. sym (leaf_at_left b c l r j high)))
      ∙ ap (λ v. rest p (leaf_at b (Branch c l r)) b (width l) && v) (all_rest (b + width l) r ∙ rest-same (leaf_at (b + width l) r) (leaf_at b (Branch c l r)) (b + width l) (width r) (λ j low high. sym (leaf_at_right b c l r j low)))
      ∙ sym (rest-add (leaf_at b (Branch c l r)) b (width l) (width r))

  whole : (t : Term) → rest p (leaf_of t) 0 (width t) ≡ all_members p 0 t
  whole t = rest-same (leaf_of t) (leaf_at 0 t) 0 (width t) (λ j low high. leaf_of_in t j (omega arith)) ∙ sym (all_rest 0 t)

  -- ---- a loop over the leaves of a list of nodes
  module _ (h : ℕ) (xs : List (Option Node)) (size : length xs ≡ nodes_in h) where
    leaves : length xs / 2 + 1 ≡ 2 ^ h
    leaves = let e = nodes_in-pow h in let f = pow-suc 2 h in omega arith

    pub at_first : rest p (leaf_of (term_of h xs)) 0 (length xs / 2 + 1 - 0) ≡ all_members p 0 (term_of h xs)
    at_first =
        let e : length xs / 2 + 1 - 0 ≡ width (term_of h xs) = let l = leaves in let w = width-term_of h xs in omega arith in
        ap (rest p (leaf_of (term_of h xs)) 0) e ∙ whole (term_of h xs)

    one_more : (i : ℕ) → i < length xs / 2 + 1 → rest p (leaf_of (term_of h xs)) i (length xs / 2 + 1 - i) ≡ (passes p i (leaf_of (term_of h xs) i) && rest p (leaf_of (term_of h xs)) (i + 1) (length xs / 2 + 1 - (i + 1)))
    one_more i lt =
        let e : length xs / 2 + 1 - i ≡ suc (length xs / 2 + 1 - (i + 1)) = omega arith in
        ap (rest p (leaf_of (term_of h xs)) i) e
        ∙ ap (λ j. passes p i (leaf_of (term_of h xs) i) && rest p (leaf_of (term_of h xs)) j (length xs / 2 + 1 - (i + 1))) (sym (add-one i))

    pub fails_here : (i : ℕ) → i < length xs / 2 + 1 → passes p i (leaf_of (term_of h xs) i) ≡ false → rest p (leaf_of (term_of h xs)) i (length xs / 2 + 1 - i) ≡ false
    fails_here i lt e = one_more i lt ∙ rw e refl

    pub passes_here : (i : ℕ) → i < length xs / 2 + 1 → passes p i (leaf_of (term_of h xs) i) ≡ true → rest p (leaf_of (term_of h xs)) (i + 1) (length xs / 2 + 1 - (i + 1)) ≡ rest p (leaf_of (term_of h xs)) i (length xs / 2 + 1 - i)
    passes_here i lt e = sym (one_more i lt ∙ rw e refl)

    pub at_end : (i : ℕ) → length xs / 2 + 1 ≤ i → rest p (leaf_of (term_of h xs)) i (length xs / 2 + 1 - i) ≡ true
    at_end i ge =
        let e : length xs / 2 + 1 - i ≡ 0 = omega arith in
        ap (rest p (leaf_of (term_of h xs)) i) e

-- what the rules of a suite ask of the members' capabilities
pub capable_told : (k : Crypto) (group : List ℕ) (suite : ℕ) (t : Term) → k.number ≡ suite → all_members (λ j x. is_capable suite x) 0 t ≡ is_all_capable (rules_of k group) t
unfolding is_all_capable
capable_told k group suite t e = ap (λ n. all_members (λ j x. is_capable n x) 0 t) (sym e)

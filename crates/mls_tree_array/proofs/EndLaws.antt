-- Laws: which leaves are taken and which are blank, by where the taken leaves end.
use Rattle.std.proofs.Common.{◌≡◌, ℕ, suc, ◌+◌, ◌<◌, ◌≤◌, true, false, Bool, ◌||◌, ◌⊎◌, Option, Some, None, is_some, IsSome, refl, sym, ◌∙◌, ap, arith, inl, inr}
use Rattle.std.proofs.lemmas.Bool.{cases_lt, cond-true, cond-false, true≢false, or_parts}
use Rattle.mls_leaf.specs.Parent.{Parent}
use Rattle.mls_leaf.specs.declared.leaf.LeafNode.{LeafNode}
use Rattle.mls_tree_model.specs.Term.{Term, Leaf, Branch, width, has_leaf, leaf_at}
use Rattle.mls_tree_model.proofs.Equations.{leaf_at_leaf, leaf_at_left, leaf_at_right}
use Rattle.mls_tree_model.proofs.MemberLaws.{leaf_taken}
use Rattle.mls_tree_array.specs.EndOfMembers.{end_of_members}

-- ---- of a leaf and a branch

pub end-blank_leaf : (b : ℕ) → end_of_members b (Leaf None) ≡ b
unfolding end_of_members
end-blank_leaf b = refl

pub end-leaf : (b : ℕ) (v : LeafNode) → end_of_members b (Leaf (Some v)) ≡ suc b
unfolding end_of_members
end-leaf b v = refl

module _ (b : ℕ) (c : Option Parent) (l r : Term) where
  pub end-right : has_leaf r ≡ true → end_of_members b (Branch c l r) ≡ end_of_members (b + width l) r
  unfolding end_of_members
  end-right e = cond-true _ _ _ e

  pub end-left : has_leaf r ≡ false → end_of_members b (Branch c l r) ≡ end_of_members b l
  unfolding end_of_members
  end-left e = cond-false _ _ _ e

pub has_or_not : (t : Term) → (has_leaf t ≡ true) ⊎ (has_leaf t ≡ false)
has_or_not t = go (has_leaf t)
  where
    go : (p : Bool) → (p ≡ true) ⊎ (p ≡ false)
    go true = inl refl
    go false = inr refl

-- ---- the last taken leaf

pub record LastTaken (b : ℕ) (t : Term) (k : ℕ) : Type 0 where
  pub end : end_of_members b t ≡ suc k
  pub low : b ≤ k
  pub high : k < b + width t
  pub taken : IsSome (leaf_at b t k)

pub last_taken : (b : ℕ) (t : Term) → has_leaf t ≡ true → (k : ℕ) × LastTaken b t k
unfolding has_leaf width
last_taken b (Leaf None) h = absurd (true≢false (sym h))
last_taken b (Leaf (Some v)) h = (b, record { end = end-leaf b v; low = omega arith; high = omega arith; taken = ap is_some (leaf_at_leaf b (Some v) b) })
last_taken b (Branch c l r) h =
    elim (has_or_not r) [
      | inl some ↦
          let k = last_taken (b + width l) r some in
          let low = k.1.low in
          let high = k.1.high in
          (k.0, record { end = end-right b c l r some ∙ k.1.end; low = omega arith; high = omega arith; taken = ap is_some (leaf_at_right b c l r k.0 low) ∙ k.1.taken })
      | inr none ↦
          let k = last_taken b l (left (has_leaf l) (has_leaf r) h none) in
          let high = k.1.high in
          (k.0, record { end = end-left b c l r none ∙ k.1.end; low = k.1.low; high = omega arith; taken = ap is_some (leaf_at_left b c l r k.0 high) ∙ k.1.taken })
    ]
  where
    left : (p q : Bool) → (p || q) ≡ true → q ≡ false → p ≡ true
    left true q e f = refl
    left false q e f = absurd (true≢false (sym e ∙ f))

pub end-none : (b : ℕ) (t : Term) → has_leaf t ≡ false → end_of_members b t ≡ b
unfolding has_leaf
end-none b (Leaf None) h = end-blank_leaf b
end-none b (Leaf (Some v)) h = absurd (true≢false h)
end-none b (Branch c l r) h =
    let none = or_parts (has_leaf l) (has_leaf r) h in
    end-left b c l r none.1 ∙ end-none b l none.0

pub has_none : (b : ℕ) (t : Term) → end_of_members b t ≤ b → has_leaf t ≡ false
has_none b t low =
    elim (has_or_not t) [
      | inr none ↦ none
      | inl some ↦ absurd (let k = last_taken b t some in let end = k.1.end in let least = k.1.low in omega arith)
    ]

pub has_some : (b : ℕ) (t : Term) → b < end_of_members b t → has_leaf t ≡ true
has_some b t high =
    elim (has_or_not t) [
      | inl some ↦ some
      | inr none ↦ absurd (let end = end-none b t none in omega arith)
    ]

-- it lies within the tree
pub end-within : (b : ℕ) (t : Term) → end_of_members b t ≤ b + width t
end-within b t =
    elim (has_or_not t) [
      | inl some ↦ let k = last_taken b t some in let end = k.1.end in let high = k.1.high in omega arith
      | inr none ↦ let end = end-none b t none in omega arith
    ]

-- behind it all leaves are blank
blank_at : (b : ℕ) (t : Term) (j : ℕ) → has_leaf t ≡ false → leaf_at b t j ≡ None
blank_at b t j none = go (leaf_at b t j) refl
  where
    go : (o : Option LeafNode) → leaf_at b t j ≡ o → leaf_at b t j ≡ None
    go None e = e
    go (Some v) e = absurd (true≢false (sym (leaf_taken b t j (ap is_some e)) ∙ none))

pub blank_behind : (b : ℕ) (t : Term) (j : ℕ) → end_of_members b t ≤ j → j < b + width t → leaf_at b t j ≡ None
unfolding width
blank_behind b (Leaf None) j le lt = leaf_at_leaf b None j
blank_behind b (Leaf (Some v)) j le lt = absurd (let end = end-leaf b v in omega arith)
blank_behind b (Branch c l r) j le lt =
    elim (has_or_not r) [
      | inl some ↦
          let k = last_taken (b + width l) r some in
          let end = end-right b c l r some in
          let last = k.1.end in
          let low = k.1.low in
          leaf_at_right b c l r j (omega arith) ∙ blank_behind (b + width l) r j (omega arith) (omega arith)
      | inr none ↦
          let end = end-left b c l r none in
          elim (cases_lt j (b + width l)) [
            | inl less ↦ leaf_at_left b c l r j less ∙ blank_behind b l j (omega arith) less
            | inr more ↦ leaf_at_right b c l r j more ∙ blank_at (b + width l) r j none
          ]
    ]

-- so it is no later than a leaf from which on all are blank
pub end_before : (b : ℕ) (t : Term) (n : ℕ) → b ≤ n → ((j : ℕ) → n ≤ j → j < b + width t → leaf_at b t j ≡ None) → end_of_members b t ≤ n
end_before b t n low blank =
    elim (has_or_not t) [
      | inr none ↦ let end = end-none b t none in omega arith
      | inl some ↦
          let k = last_taken b t some in
          let end = k.1.end in
          elim (cases_lt k.0 n) [
            | inl less ↦ omega arith
            | inr more ↦ absurd (true≢false (sym k.1.taken ∙ ap is_some (blank k.0 more k.1.high)))
          ]
    ]

-- ---- a half of a tree

module _ (b : ℕ) (c : Option Parent) (l r : Term) where
  -- the right half has a taken leaf, or the taken leaves end in the left one
  pub ends_right : b + width l < end_of_members b (Branch c l r) → has_leaf r ≡ true
  ends_right past =
      elim (has_or_not r) [
        | inl some ↦ some
        | inr none ↦ absurd (let end = end-left b c l r none in let within = end-within b l in omega arith)
      ]

  pub ends_left : end_of_members b (Branch c l r) ≤ b + width l → has_leaf r ≡ false
  ends_left short =
      elim (has_or_not r) [
        | inr none ↦ none
        | inl some ↦ absurd (let end = end-right b c l r some in let k = last_taken (b + width l) r some in let last = k.1.end in let low = k.1.low in omega arith)
      ]

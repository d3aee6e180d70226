-- A leaf that is taken stays in its place.
use Rattle.std.proofs.Common.{◌≡◌, ℕ, ◌+◌, ◌<◌, true, Option, Some, None, is_some, IsSome, refl, sym, ◌∙◌, ap, arith, inl, inr, ne_eqb, eq-eqb}
use Rattle.std.proofs.lemmas.Bool.{cases_lt, cond-true, cond-false, true≢false}
use Rattle.mls_leaf.specs.declared.leaf.LeafNode.{LeafNode}
use Rattle.mls_tree_model.specs.Term.{Term, width, height, is_perfect, blanks, has_leaf, leaf_at, leaf_of}
use Rattle.mls_tree_model.specs.Edits.{put, grow, first_blank, place_for, room_for, place_in, add, remove}
use Rattle.mls_tree_model.specs.Laws.{IsIn}
use Rattle.mls_tree_model.proofs.ShapeLaws.{width-put, width-enter, width-perfect, perfect-blanks}
use Rattle.mls_tree_model.proofs.PlaceLaws.{first_blank_at, leaf_at-put, width-grow}
use Rattle.mls_tree_model.proofs.MemberLaws.{add_elsewhere, add_there, add_wider, leaf_taken, remove_elsewhere}
use Rattle.mls_tree_model.proofs.Equations.{add_is, leaf_of_in, leaf_of_out}

-- leaf j of a whole tree is this one
pub record Taken (j : ℕ) (x : LeafNode) (t : Term) : Type 0 where
  pub inside : j < width t
  pub leaf : leaf_at 0 t j ≡ Some x

pub taken_at : (t : Term) (j : ℕ) (x : LeafNode) → leaf_of t j ≡ Some x → Taken j x t
taken_at t j x h = elim (cases_lt j (width t)) [
  | inl lt ↦ record { inside = lt; leaf = sym (leaf_of_in t j lt) ∙ h }
  | inr ge ↦ absurd (let o = leaf_of_out t j ge in cc)
]

pub at_taken : (t : Term) (j : ℕ) (x : LeafNode) → Taken j x t → leaf_of t j ≡ Some x
at_taken t j x h = leaf_of_in t j h.inside ∙ h.leaf

pub some_at : (o : Option LeafNode) → IsSome o → (x : LeafNode) × (o ≡ Some x)
some_at None h = absurd (true≢false (sym h))
some_at (Some x) h = (x, refl)

pub taken_in : (t : Term) (j : ℕ) (x : LeafNode) → Taken j x t → IsIn 0 t j
taken_in t j x h = let k = h.inside in record { low = omega arith; high = omega arith }

pub taken_some : (t : Term) (j : ℕ) (x : LeafNode) → Taken j x t → IsSome (leaf_at 0 t j)
taken_some t j x h = ap is_some h.leaf

-- ---- each edit keeps it

pub taken_put : (t : Term) (i j : ℕ) (x : LeafNode) (y : Option LeafNode) → i < width t → (j ≡ i → ⊥) → Taken j x t → Taken j x (put 0 t i y)
taken_put t i j x y inside ne h =
    let k = h.inside in
    let w = width-put 0 t i y in
    record {
      inside = omega arith;
      leaf = leaf_at-put 0 t i y j (omega arith) (omega arith) (omega arith) (omega arith) ∙ cond-false _ _ _ (ne_eqb j i ne) ∙ h.leaf;
    }

pub put_taken : (t : Term) (i : ℕ) (x : LeafNode) → i < width t → Taken i x (put 0 t i (Some x))
put_taken t i x inside =
    let w = width-put 0 t i (Some x) in
    record {
      inside = omega arith;
      leaf = leaf_at-put 0 t i (Some x) i (omega arith) (omega arith) (omega arith) (omega arith) ∙ cond-true _ _ _ (eq-eqb i i refl);
    }

pub taken_remove : (t : Term) (i j : ℕ) (x : LeafNode) → i < width t → (j ≡ i → ⊥) → Taken j x t → Taken j x (remove t i)
taken_remove t i j x inside ne h =
    let k = remove_elsewhere t i j inside h.inside ne (taken_some t j x h) in
    record { inside = k.0; leaf = k.1 ∙ h.leaf }

-- so somebody is left after it
pub left_remove : (t : Term) (i j : ℕ) (x : LeafNode) → i < width t → (j ≡ i → ⊥) → Taken j x t → has_leaf (put 0 t i None) ≡ true
left_remove t i j x inside ne h =
    let k = taken_put t i j x None inside ne h in
    leaf_taken 0 (put 0 t i None) j (taken_some (put 0 t i None) j x k)

-- nobody is added where somebody is
pub place_free : (t : Term) (j : ℕ) (x : LeafNode) → Taken j x t → j ≡ place_in t → ⊥
place_free t j x h = go (first_blank 0 t) refl
  where
    go : (o : Option ℕ) → first_blank 0 t ≡ o → j ≡ place_for o t → ⊥
    go None e q = let k = h.inside in absurd (omega arith)
    go (Some i) e q =
        let f = first_blank_at 0 t i e in
        let blank : leaf_at 0 t j ≡ None = ap (leaf_at 0 t) q ∙ f.2 in
        let some = h.leaf in
        cc

pub taken_add : (t : Term) (j : ℕ) (x y : LeafNode) → Taken j x t → Taken j x (add t y)
taken_add t j x y h =
    let k = h.inside in
    let w = add_wider t y in
    record { inside = omega arith; leaf = add_elsewhere t y j h.inside (place_free t j x h) ∙ h.leaf }

-- ---- the tree after an add

-- its width is that of the tree in which room was made
pub width-add : (t : Term) (x : LeafNode) (o : Option ℕ) → first_blank 0 t ≡ o → width (add t x) ≡ width (room_for o t)
width-add t x o e =
    ap width (add_is t x) ∙ width-enter 0 (room_for (first_blank 0 t) t) (place_in t) x ∙ ap (λ p. width (room_for p t)) e

pub place_inside : (t : Term) (x : LeafNode) → place_in t < width (add t x)
place_inside t x = go (first_blank 0 t) refl
  where
    go : (o : Option ℕ) → first_blank 0 t ≡ o → place_in t < width (add t x)
    go None e =
        let w = width-grow t in
        let place : place_in t ≡ width t = ap (λ p. place_for p t) e in
        let room = width-add t x None e in
        omega arith
    go (Some i) e =
        let f = first_blank_at 0 t i e in
        let place : place_in t ≡ i = ap (λ p. place_for p t) e in
        let room = width-add t x (Some i) e in
        let high = f.1 in
        omega arith

pub add_taken : (t : Term) (x : LeafNode) → Taken (place_in t) x (add t x)
add_taken t x = record { inside = place_inside t x; leaf = add_there t x }

-- a perfect tree that grows has twice the leaves
pub width_grown : (t : Term) → is_perfect (height t) t ≡ true → width (grow t) ≡ width t + width t
unfolding grow width
width_grown t h =
    let a = width-perfect (height t) t h in
    let b = width-perfect (height t) (blanks (height t)) (perfect-blanks (height t)) in
    omega arith

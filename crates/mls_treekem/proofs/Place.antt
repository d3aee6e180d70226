-- The places of the parents over a leaf stand for the way to it.
use Rattle.std.proofs.Common.{◌≡◌, ℕ, zero, suc, ◌+◌, ◌-◌, ◌*◌, ◌^◌, ◌<◌, ◌≤◌, true, List, [], ◌∷◌, ◌++◌, length, map, Option, None, refl, sym, subst, ◌∙◌, ap, ap₂, inl, inr, arith, lt-ltb, le-ltb, append-nil, append_assoc, w32}
use Rattle.std.proofs.lemmas.Bool.{cond-true, cond-false, cases_lt, true≢false, and_parts, cases_eq}
use Rattle.std.proofs.Math.Pow.{pow_mono}
use Rattle.std.specs.Int.{bit_at, trailing_zeros}
use Rattle.std.proofs.lemmas.Nat.{pow_pos, pow_below}
use Rattle.std.proofs.lemmas.Nat.Bits.{bit_at-trailing_zeros, bit_at-pow_other}
use Rattle.mls_tree_model.proofs.ArrayLaws.{parent_in-cell}
use Rattle.mls_tree.specs.Tree.{Tree, term}
use Rattle.mls_tree.proofs.Perfect.{perfect, width_is}
use Rattle.mls_leaf.specs.Parent.{Parent}
use Rattle.mls_leaf.specs.declared.node.Node.{Node}
use Rattle.mls_tree_model.specs.Term.{Term, Leaf, Branch, width, size, height, is_perfect}
use Rattle.mls_tree_model.specs.Arrays.{parent_in, own_node, node_at}
use Rattle.mls_tree_model.specs.Places.{at_node, resolution_at}
use Rattle.mls_tree_model.specs.Resolution.{resolution}
use Rattle.mls_tree_model.specs.Way.{Step, step_at, way}
use Rattle.mls_tree_model.proofs.Equations.{way_leaf, way_left, way_right, at_node_leaf, at_node_here, at_node_left, at_node_right}
use Rattle.mls_tree_model.proofs.ShapeLaws.{size-width, width-perfect, width_pos}
use Rattle.mls_treekem.specs.declared.places.Place.{Place}
use Rattle.mls_treekem.specs.Place.{place, places_from, subtree_at, step_of, IsPlaced, ArePlaced, IsWay}
use Rattle.mls_treekem.proofs.Levels.{pow_pred}

pub length-places : (h b i : ℕ) → length (places_from h b i) ≡ h
unfolding places_from
length-places zero b i = refl
length-places (suc h) b i = elim (cases_lt i (b + 2 ^ h)) [
  | inl k ↦ ap length (cond-true _ _ _ (lt-ltb i (b + 2 ^ h) k)) ∙ ap suc (length-places h b i)
  | inr k ↦ ap length (cond-false _ _ _ (le-ltb i (b + 2 ^ h) k)) ∙ ap suc (length-places h (b + 2 ^ h) i)
]

module _ (h b i : ℕ) where
  pub places_left : i < b + 2 ^ h → places_from (suc h) b i ≡ place (2 * b + (2 * 2 ^ h - 1)) (2 * (b + 2 ^ h) + (2 ^ h - 1)) (b + 2 ^ h) (2 ^ h) ∷ places_from h b i
  unfolding places_from
  places_left k = cond-true _ _ _ (lt-ltb i (b + 2 ^ h) k)

  pub places_right : b + 2 ^ h ≤ i → places_from (suc h) b i ≡ place (2 * b + (2 * 2 ^ h - 1)) (2 * b + (2 ^ h - 1)) b (2 ^ h) ∷ places_from h (b + 2 ^ h) i
  unfolding places_from
  places_right k = cond-false _ _ _ (le-ltb i (b + 2 ^ h) k)

-- a list with the places of one side added
module _ (h b i : ℕ) (ne : h ≡ 0 → ⊥) (ps : List Place) where
  at_height : places_from h b i ≡ places_from (suc (h - 1)) b i
  at_height = ap (λ n. places_from n b i) (let z : h ≡ suc (h - 1) = omega arith in z)

  pub pushed_left : (w : ℕ) → w ≡ 2 ^ (h - 1) → (qs : List Place) → i < b + w → qs ≡ ps ++ (place (2 * b + (2 * w - 1)) (2 * (b + w) + (w - 1)) (b + w) w ∷ []) → qs ++ places_from (h - 1) b i ≡ ps ++ places_from h b i
  pushed_left w is =
      subst (λ w. (qs : List Place) → i < b + w → qs ≡ ps ++ (place (2 * b + (2 * w - 1)) (2 * (b + w) + (w - 1)) (b + w) w ∷ []) → qs ++ places_from (h - 1) b i ≡ ps ++ places_from h b i) (sym is)
      (λ qs k e. ap (λ x. x ++ places_from (h - 1) b i) e ∙ append_assoc ps _ _ ∙ ap (λ z. ps ++ z) (sym (at_height ∙ places_left (h - 1) b i k)))

  pub pushed_right : (w : ℕ) → w ≡ 2 ^ (h - 1) → (qs : List Place) → b + w ≤ i → qs ≡ ps ++ (place (2 * b + (2 * w - 1)) (2 * b + (w - 1)) b w ∷ []) → qs ++ places_from (h - 1) (b + w) i ≡ ps ++ places_from h b i
  pushed_right w is =
      subst (λ w. (qs : List Place) → b + w ≤ i → qs ≡ ps ++ (place (2 * b + (2 * w - 1)) (2 * b + (w - 1)) b w ∷ []) → qs ++ places_from (h - 1) (b + w) i ≡ ps ++ places_from h b i) (sym is)
      (λ qs k e. ap (λ x. x ++ places_from (h - 1) (b + 2 ^ (h - 1)) i) e ∙ append_assoc ps _ _ ∙ ap (λ z. ps ++ z) (sym (at_height ∙ places_right (h - 1) b i k)))

pub none_pushed : (h b i : ℕ) (ps : List Place) → h ≡ 0 → ps ≡ ps ++ places_from h b i
unfolding places_from
none_pushed h b i ps e = sym (ap (λ n. ps ++ places_from n b i) e ∙ append-nil ps)

-- ---- the tree

size-perfect : (h : ℕ) (t : Term) → is_perfect h t ≡ true → size t ≡ 2 * 2 ^ h - 1
size-perfect h t e = let w = width-perfect h t e in let s = size-width t in omega arith

-- the root of a perfect tree
root_at : {A : Type 0} (none : A) (f : ℕ → Term → A) (h b : ℕ) (t : Term) → is_perfect h t ≡ true → at_node none f b t (2 * b + (2 ^ h - 1)) ≡ f b t
unfolding is_perfect
root_at none f zero b (Leaf v) e = at_node_leaf b v none f (2 * b + (2 ^ 0 - 1)) (omega arith)
root_at none f (suc h) b (Leaf v) e = absurd (true≢false (sym e))
root_at none f zero b (Branch c l r) e = absurd (true≢false (sym e))
root_at none f (suc h) b (Branch c l r) e =
    let s = size-perfect h l (and_parts (is_perfect h l) (is_perfect h r) e).0 in
    at_node_here none f b c l r (2 * b + (2 ^ (suc h) - 1)) (let z : 2 ^ (suc h) ≡ 2 * 2 ^ h = pow_pred (suc h) (λ e. absurd (omega arith)) ∙ ap (λ n. 2 * 2 ^ n) (let y : suc h - 1 ≡ h = omega arith in y) in omega arith)

-- a tree whose first leaf is b stands in a whole tree
abbrev IsPart : Term → ℕ → Term → Type 1
IsPart whole b t = (A : Type 0) (none : A) (f : ℕ → Term → A) (d : ℕ) → 2 * b ≤ d → d < 2 * b + size t → at_node none f 0 whole d ≡ at_node none f b t d

module _ (whole : Term) (b : ℕ) (c : Option Parent) (l r : Term) (part : IsPart whole b (Branch c l r)) where
  part_left : IsPart whole b l
  unfolding size
  part_left A none f d low high = part A none f d low (omega arith) ∙ at_node_left none f b c l r d (omega arith)

  part_right : (w : ℕ) → width l ≡ w → IsPart whole (b + w) r
  unfolding size
  part_right w is A none f d low high =
      let s = size-width l in
      part A none f d (omega arith) (omega arith) ∙ at_node_right none f b c l r d (omega arith) ∙ ap (λ n. at_node none f (b + n) r d) is

  parent_here : parent_in (node_at 0 whole (2 * b + size l)) ≡ c
  unfolding node_at size
  parent_here =
      ap parent_in (part (Option Node) None own_node (2 * b + size l) (omega arith) (omega arith) ∙ at_node_here None own_node b c l r (2 * b + size l) refl)
      ∙ parent_in-cell c

-- the step to a part, and its place
module _ (whole : Term) (h b : ℕ) (t : Term) (part : IsPart whole b t) (perfect : is_perfect h t ≡ true) where
  sizes : 2 ^ h ≡ width t
  sizes = sym (width-perfect h t perfect)

  subtree_is : subtree_at whole (2 * b + (2 ^ h - 1)) ≡ t
  unfolding subtree_at
  subtree_is =
      let s = size-perfect h t perfect in
      let w = width_pos t in
      part Term (Leaf None) (λ b u. u) (2 * b + (2 ^ h - 1)) (omega arith) (omega (arith, sizes)) ∙ root_at (Leaf None) (λ b u. u) h b t perfect

  placed_at : (n : ℕ) → IsPlaced whole h (place n (2 * b + (2 ^ h - 1)) b (2 ^ h))
  unfolding resolution_at node_at
  placed_at n =
      let s = size-perfect h t perfect in
      let w = width_pos t in
      record {
        perfect = ap (is_perfect h) subtree_is ∙ perfect;
        leaves = refl;
        resolved = part (List ℕ) [] resolution (2 * b + (2 ^ h - 1)) (omega arith) (omega (arith, sizes)) ∙ root_at [] resolution h b t perfect ∙ ap (resolution b) (sym subtree_is);
        inside = λ d low high. part (Option Node) None own_node d low (let z : d < 2 * b + size t = rw (sym subtree_is) high in z) ∙ ap (λ u. at_node None own_node b u d) (sym subtree_is);
      }

-- what the places of a part stand for
record Stand (whole : Term) (b : ℕ) (t : Term) (i : ℕ) (ps : List Place) : Type 0 where
  steps : map (step_of whole) ps ≡ way b t i
  placed : ArePlaced whole ps

step_is : (whole : Term) (n m b w : ℕ) (c : Option Parent) (t : Term) → parent_in (node_at 0 whole n) ≡ c → subtree_at whole m ≡ t → step_of whole (place n m b w) ≡ step_at c n b t
unfolding step_of
step_is whole n m b w c t e f = rw (e, f) refl

stand_more : (whole : Term) (h b i : ℕ) (p : Place) (s : Step) (b' : ℕ) (t' : Term) (ps : List Place) → length ps ≡ h → step_of whole p ≡ s → IsPlaced whole h p → Stand whole b' t' i ps → (t : Term) → way b t i ≡ s ∷ way b' t' i → Stand whole b t i (p ∷ ps)
unfolding ArePlaced
stand_more whole h b i p s b' t' ps len is at st t w =
    record {
      steps = ap₂ (λ x xs. x ∷ xs) is st.steps ∙ sym w;
      placed = (rw len at, st.placed);
    }

stand : (whole : Term) (h b : ℕ) (t : Term) (i : ℕ) → IsPart whole b t → is_perfect h t ≡ true → Stand whole b t i (places_from h b i)
unfolding is_perfect places_from ArePlaced
stand whole zero b (Leaf v) i part e = record { steps = sym (way_leaf b v i); placed = tt }
stand whole (suc h) b (Leaf v) i part e = absurd (true≢false (sym e))
stand whole zero b (Branch c l r) i part e = absurd (true≢false (sym e))
stand whole (suc h) b (Branch c l r) i part e =
    let p = and_parts (is_perfect h l) (is_perfect h r) e in
    let w : width l ≡ 2 ^ h = width-perfect h l p.0 in
    let s : size l ≡ 2 * 2 ^ h - 1 = size-perfect h l p.0 in
    let left = part_left whole b c l r part in
    let right = part_right whole b c l r part (2 ^ h) w in
    let root : parent_in (node_at 0 whole (2 * b + (2 * 2 ^ h - 1))) ≡ c = ap (λ n. parent_in (node_at 0 whole (2 * b + n))) (sym s) ∙ parent_here whole b c l r part in
    elim (cases_lt i (b + 2 ^ h)) [
      | inl k ↦
          rw (places_left h b i k)
          (stand_more whole h b i _ (step_at c (2 * b + (2 * 2 ^ h - 1)) (b + 2 ^ h) r) b l (places_from h b i) (length-places h b i)
          (step_is whole (2 * b + (2 * 2 ^ h - 1)) _ (b + 2 ^ h) (2 ^ h) c r root (subtree_is whole h (b + 2 ^ h) r right p.1))
          (placed_at whole h (b + 2 ^ h) r right p.1 _)
          (stand whole h b l i left p.0) (Branch c l r)
          (way_left b c l r i (omega arith) ∙ ap₂ (λ m n. step_at c (2 * b + m) (b + n) r ∷ way b l i) s w))
      | inr k ↦
          rw (places_right h b i k)
          (stand_more whole h b i _ (step_at c (2 * b + (2 * 2 ^ h - 1)) b l) (b + 2 ^ h) r (places_from h (b + 2 ^ h) i) (length-places h (b + 2 ^ h) i)
          (step_is whole (2 * b + (2 * 2 ^ h - 1)) _ b (2 ^ h) c l root (subtree_is whole h b l left p.0))
          (placed_at whole h b l left p.0 _)
          (stand whole h (b + 2 ^ h) r i right p.1) (Branch c l r)
          (way_right b c l r i (omega arith) ∙ ap₂ (λ m n. step_at c (2 * b + m) b l ∷ way (b + n) r i) s w))
    ]

pub is_way : (t : Term) (h i : ℕ) → is_perfect h t ≡ true → h ≤ 31 → IsWay t i (places_from h 0 i)
is_way t h i e low =
    let st : Stand t 0 t i (places_from h 0 i) = stand t h 0 t i (λ A none f d lo hi. refl) e in
    record { steps = st.steps; placed = st.placed; low = let l = length-places h 0 i in omega arith }

-- ---- the height of a public tree, by its number of leaves

zeros : (h : ℕ) → h < 32 → trailing_zeros w32 (2 ^ h) ≡ h
zeros h lt =
    let z : ℕ = trailing_zeros w32 (2 ^ h) in
    let p = bit_at-trailing_zeros w32 (2 ^ h) (pow_pos h) (pow_below h 32 lt) in
    elim (cases_eq z h) [
      | inl e ↦ e
      | inr ne ↦ absurd (let one : bit_at (2 ^ h) z ≡ 1 = p.1 in let none : bit_at (2 ^ h) z ≡ 0 = bit_at-pow_other h z ne in omega arith)
    ]

height_low : (t : Tree) (n : ℕ) → n ≡ width (term t) → n < 2 ^ 32 → height (term t) < 32
height_low t n e lt = elim (cases_lt (height (term t)) 32) [
  | inl k ↦ k
  | inr k ↦ absurd (let p : 2 ^ 32 ≤ 2 ^ (height (term t)) = pow_mono {i = 32} {j = height (term t)} k in omega (arith, width_is t))
]

module _ (t : Tree) (n : ℕ) (e : n ≡ width (term t)) (lt : n < 2 ^ 32) where
  pub zeros_are : trailing_zeros w32 n ≡ height (term t)
  zeros_are = ap (trailing_zeros w32) (e ∙ width_is t) ∙ zeros (height (term t)) (height_low t n e lt)

  pub zeros_low : trailing_zeros w32 n ≤ 31
  zeros_low = let l = height_low t n e lt in omega (arith, zeros_are)

  pub zeros_fit : 0 + 2 ^ trailing_zeros w32 n ≤ 2 ^ 31
  zeros_fit = let p : 2 ^ trailing_zeros w32 n ≤ 2 ^ 31 = pow_mono {i = trailing_zeros w32 n} {j = 31} zeros_low in omega arith

  pub way_found : (i : ℕ) (ps : List Place) → ps ≡ places_from (trailing_zeros w32 n) 0 i → IsWay (term t) i ps
  way_found i ps is = rw (is, zeros_are) (is_way (term t) (height (term t)) i (perfect t) (omega (arith, height_low t n e lt)))

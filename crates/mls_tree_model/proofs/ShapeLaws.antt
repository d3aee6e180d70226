-- Widths, sizes and shapes.
use Rattle.std.proofs.Common.{◌≡◌, ℕ, zero, suc, ◌+◌, ◌*◌, ◌^◌, ◌<◌, nat_lt, Bool, true, false, ◌||◌, Option, refl, sym, ◌∙◌, ap, arith, pow-suc}
use Rattle.std.proofs.lemmas.Bool.{true≢false, and_parts, and_from, cond_both}
use Rattle.mls_leaf.specs.declared.leaf.LeafNode.{LeafNode}
use Rattle.mls_tree_model.specs.Term.{Term, Leaf, Branch, width, size, height, is_perfect, blanks, has_leaf, is_full_width}
use Rattle.mls_tree_model.specs.Edits.{put, enter, grow, trim}

pub width_pos : (t : Term) → 0 < width t
unfolding width
width_pos (Leaf v) = omega arith
width_pos (Branch c l r) = let a = width_pos l in omega arith

-- a leaf for each node but one, twice
pub size-width : (t : Term) → size t + 1 ≡ 2 * width t
unfolding width size
size-width (Leaf v) = refl
size-width (Branch c l r) = let a = size-width l in let b = size-width r in omega arith

pub width-perfect : (h : ℕ) (t : Term) → is_perfect h t ≡ true → width t ≡ 2 ^ h
unfolding is_perfect width
width-perfect zero (Leaf v) e = refl
width-perfect (suc h) (Leaf v) e = absurd (true≢false (sym e))
width-perfect zero (Branch c l r) e = absurd (true≢false (sym e))
width-perfect (suc h) (Branch c l r) e =
    let p = and_parts (is_perfect h l) (is_perfect h r) e in
    let a = width-perfect h l p.0 in
    let b = width-perfect h r p.1 in
    rw pow-suc (omega arith)

pub height-perfect : (h : ℕ) (t : Term) → is_perfect h t ≡ true → height t ≡ h
unfolding is_perfect height
height-perfect zero (Leaf v) e = refl
height-perfect (suc h) (Leaf v) e = absurd (true≢false (sym e))
height-perfect zero (Branch c l r) e = absurd (true≢false (sym e))
height-perfect (suc h) (Branch c l r) e = ap suc (height-perfect h l (and_parts (is_perfect h l) (is_perfect h r) e).0)

pub width-put : (b : ℕ) (t : Term) (i : ℕ) (x : Option LeafNode) → width (put b t i x) ≡ width t
unfolding width put
width-put b (Leaf v) i x = refl
width-put b (Branch c l r) i x =
    cond_both (nat_lt i (b + width l)) _ _ (λ t. width t ≡ width l + width r)
    (λ _. ap (λ n. n + width r) (width-put b l i x))
    (λ _. ap (λ n. width l + n) (width-put (b + width l) r i x))

pub width-enter : (b : ℕ) (t : Term) (i : ℕ) (x : LeafNode) → width (enter b t i x) ≡ width t
unfolding width enter
width-enter b (Leaf v) i x = refl
width-enter b (Branch c l r) i x =
    cond_both (nat_lt i (b + width l)) _ _ (λ t. width t ≡ width l + width r)
    (λ _. ap (λ n. n + width r) (width-enter b l i x))
    (λ _. ap (λ n. width l + n) (width-enter (b + width l) r i x))

pub size_from_width : (t u : Term) → width t ≡ width u → size t ≡ size u
size_from_width t u e = let a = size-width t in let b = size-width u in omega arith

pub perfect-blanks : (h : ℕ) → is_perfect h (blanks h) ≡ true
unfolding is_perfect blanks
perfect-blanks zero = refl
perfect-blanks (suc h) = and_from _ _ (perfect-blanks h) (perfect-blanks h)

pub perfect-put : (h b : ℕ) (t : Term) (i : ℕ) (x : Option LeafNode) → is_perfect h t ≡ true → is_perfect h (put b t i x) ≡ true
unfolding is_perfect put
perfect-put zero b (Leaf v) i x e = refl
perfect-put (suc h) b (Leaf v) i x e = absurd (true≢false (sym e))
perfect-put zero b (Branch c l r) i x e = absurd (true≢false (sym e))
perfect-put (suc h) b (Branch c l r) i x e =
    let p = and_parts (is_perfect h l) (is_perfect h r) e in
    cond_both (nat_lt i (b + width l)) _ _ (λ t. is_perfect (suc h) t ≡ true)
    (λ _. and_from _ _ (perfect-put h b l i x p.0) p.1)
    (λ _. and_from _ _ p.0 (perfect-put h (b + width l) r i x p.1))

pub perfect-enter : (h b : ℕ) (t : Term) (i : ℕ) (x : LeafNode) → is_perfect h t ≡ true → is_perfect h (enter b t i x) ≡ true
unfolding is_perfect enter
perfect-enter zero b (Leaf v) i x e = refl
perfect-enter (suc h) b (Leaf v) i x e = absurd (true≢false (sym e))
perfect-enter zero b (Branch c l r) i x e = absurd (true≢false (sym e))
perfect-enter (suc h) b (Branch c l r) i x e =
    let p = and_parts (is_perfect h l) (is_perfect h r) e in
    cond_both (nat_lt i (b + width l)) _ _ (λ t. is_perfect (suc h) t ≡ true)
    (λ _. and_from _ _ (perfect-enter h b l i x p.0) p.1)
    (λ _. and_from _ _ p.0 (perfect-enter h (b + width l) r i x p.1))

pub perfect-grow : (h : ℕ) (t : Term) → is_perfect h t ≡ true → is_perfect (suc h) (grow t) ≡ true
unfolding is_perfect grow
perfect-grow h t e =
    and_from _ _ e (ap (λ k. is_perfect h (blanks k)) (height-perfect h t e) ∙ perfect-blanks h)

pub perfect-trim : (h : ℕ) (t : Term) → is_perfect h t ≡ true → (k : ℕ) × (is_perfect k (trim t) ≡ true)
unfolding is_perfect trim
perfect-trim zero (Leaf v) e = (zero, refl)
perfect-trim (suc h) (Leaf v) e = absurd (true≢false (sym e))
perfect-trim zero (Branch c l r) e = absurd (true≢false (sym e))
perfect-trim (suc h) (Branch c l r) e =
    cond_both (has_leaf r) _ _ (λ t. (k : ℕ) × (is_perfect k t ≡ true))
    (λ _. (suc h, e))
    (λ _. perfect-trim h l (and_parts (is_perfect h l) (is_perfect h r) e).0)

-- what is trimmed has a taken leaf in its right half
pub full-trim : (t : Term) → has_leaf t ≡ true → is_full_width (trim t) ≡ true
unfolding has_leaf is_full_width trim
full-trim (Leaf v) e = e
full-trim (Branch c l r) e =
    cond_both (has_leaf r) _ _ (λ t. is_full_width t ≡ true)
    (λ k. k)
    (λ k. full-trim l (fact (has_leaf l) (has_leaf r) e k))
  where
    fact : (x y : Bool) → (x || y) ≡ true → y ≡ false → x ≡ true
    fact true y e k = refl
    fact false y e k = absurd (true≢false (sym e ∙ k))

-- What stands before a node, where the number of leaves is known.
use Rattle.std.proofs.Common.{◌≡◌, ◌∙◌, ◌<◌, ◌≤◌, ◌+◌, ◌-◌, ◌*◌, ◌/◌, ◌^◌, ◌&&◌, ◌++◌, ℕ, zero, suc, Bool, true, false, List, [], Option, Result, Ok, Err, OnOk, if◌then◌else◌, is_ok, refl, ap, sym, true≢false, arith, append_assoc}
use Rattle.std.proofs.lemmas.Bool.{cond-true, cond-false, eq-eqb, ne_eqb, lt-ltb, le-ltb}
use Rattle.mls_leaf.specs.Parent.{Parent}
use Rattle.mls_tree_model.specs.Term.{Term, Leaf, Branch, is_perfect, size, width}
use Rattle.mls_tree_model.proofs.ShapeLaws.{size-width, width-perfect}
use Rattle.mls_cli_draw.specs.Picture.{beside, corner, stem, stem_below}
use Rattle.mls_cli_draw.specs.declared.stem.Side.{Side}
use Rattle.mls_cli_draw.specs.declared.stem.Side.TheVariants.{Over, Under}

-- the halves of a perfect tree
pub record Halves (l r : Term) (leaves : ℕ) : Type 0 where
  pub below : ℕ
  pub left : is_perfect below l ≡ true
  pub right : is_perfect below r ≡ true
  pub left_leaves : width l ≡ leaves / 2
  pub right_leaves : width r ≡ leaves / 2
  pub left_nodes : size l + 1 ≡ leaves
  pub some : 1 < leaves

pub sides : (a b : Bool) → (a && b) ≡ true → (a ≡ true) × (b ≡ true)
sides true b e = (refl, e)
sides false b e = absurd (true≢false (sym e))

half : (a b m s leaves : ℕ) → a ≡ m → b ≡ m → a + b ≡ leaves → s + 1 ≡ 2 * a → (a ≡ leaves / 2) × (b ≡ leaves / 2) × (s + 1 ≡ leaves) × (1 < leaves)
half a b m s leaves e f w n = (omega arith, omega arith, omega arith, omega arith)

pub halves : (h leaves : ℕ) (c : Option Parent) (l r : Term) → is_perfect h (Branch c l r) ≡ true → width (Branch c l r) ≡ leaves → Halves l r leaves
unfolding is_perfect width
halves zero leaves c l r p w = absurd (true≢false (sym p))
halves (suc h) leaves c l r p w =
    let both = sides (is_perfect h l) (is_perfect h r) p in
    let sums = half (width l) (width r) (2 ^ h) (size l) leaves (width-perfect h l both.0) (width-perfect h r both.1) w (size-width l) in
    record { below = h; left = both.0; right = both.1; left_leaves = sums.0; right_leaves = sums.1; left_nodes = sums.2; some = sums.3 }

module _ (side : Side) (c : Option Parent) (l r : Term) (leaves x : ℕ) (left_nodes : size l + 1 ≡ leaves) where
  on_root : x ≡ leaves - 1 → stem_below side (Branch c l r) x ≡ corner side
  unfolding stem_below
  on_root e = cond-false _ _ _ (le-ltb x (size l) (omega (arith, left_nodes))) ∙ cond-true _ _ _ (eq-eqb x (size l) (omega (arith, left_nodes)))

  over_root : x < leaves - 1 → stem_below side (Branch c l r) x ≡ beside side Over ++ stem_below Over l x
  unfolding stem_below
  over_root lt = cond-true _ _ _ (lt-ltb x (size l) (omega (arith, left_nodes)))

  under_root : leaves - 1 < x → stem_below side (Branch c l r) x ≡ beside side Under ++ stem_below Under r (x - leaves)
  unfolding stem_below
  under_root lt =
      let beyond : suc (size l) ≡ leaves = omega (arith, left_nodes) in
      cond-false _ _ _ (le-ltb x (size l) (omega (arith, left_nodes))) ∙ cond-false _ _ _ (ne_eqb x (size l) (λ e. absurd (omega (arith, left_nodes))))
      ∙ ap (λ (n : ℕ). beside side Under ++ stem_below Under r (x - n)) beyond

  root_itself : x ≡ leaves - 1 → stem (Branch c l r) x ≡ []
  unfolding stem
  root_itself e = cond-false _ _ _ (le-ltb x (size l) (omega (arith, left_nodes))) ∙ cond-true _ _ _ (eq-eqb x (size l) (omega (arith, left_nodes)))

  over_itself : x < leaves - 1 → stem (Branch c l r) x ≡ stem_below Over l x
  unfolding stem
  over_itself lt = cond-true _ _ _ (lt-ltb x (size l) (omega (arith, left_nodes)))

  under_itself : leaves - 1 < x → stem (Branch c l r) x ≡ stem_below Under r (x - leaves)
  unfolding stem
  under_itself lt =
      let beyond : suc (size l) ≡ leaves = omega (arith, left_nodes) in
      cond-false _ _ _ (le-ltb x (size l) (omega (arith, left_nodes))) ∙ cond-false _ _ _ (ne_eqb x (size l) (λ e. absurd (omega (arith, left_nodes))))
      ∙ ap (λ (n : ℕ). stem_below Under r (x - n)) beyond

-- ---- what calls push

pub pushed_one : (side : Side) (leaves x : ℕ) → leaves ≤ 1 → (h : ℕ) (t : Term) → is_perfect h t ≡ true → width t ≡ leaves → corner side ≡ stem_below side t x
unfolding stem_below
pushed_one side leaves x le h (Leaf v) p w = refl
pushed_one side leaves x le h (Branch c l r) p w = let some = (halves h leaves c l r p w).some in absurd (omega (arith, some, le))

pub pushed_root : (side : Side) (leaves x : ℕ) → x ≡ leaves - 1 → (h : ℕ) (t : Term) → is_perfect h t ≡ true → width t ≡ leaves → corner side ≡ stem_below side t x
unfolding stem_below
pushed_root side leaves x e h (Leaf v) p w = refl
pushed_root side leaves x e h (Branch c l r) p w = sym (on_root side c l r leaves x (halves h leaves c l r p w).left_nodes e)

pub one_leaf : (v : ℕ) (leaves : ℕ) → v ≡ leaves → v ≡ 1 → 1 < leaves → ⊥
one_leaf v leaves w e lt = omega (arith, w, e, lt)

pub pushed_over : {T X : Type 0} (side : Side) (leaves x : ℕ) (old mid new : List ℕ) (q : Result T X) → 1 < leaves → x < leaves - 1 → mid ≡ old ++ beside side Over → ((h : ℕ) (t : Term) → is_perfect h t ≡ true → width t ≡ leaves / 2 → OnOk q (new ≡ mid ++ stem_below Over t x)) → (h : ℕ) (t : Term) → is_perfect h t ≡ true → width t ≡ leaves → OnOk q (new ≡ old ++ stem_below side t x)
unfolding width
pushed_over side leaves x old mid new (Err e) some lt m rest h t p w = tt
pushed_over side leaves x old mid new (Ok u) some lt m rest h (Leaf v) p w = absurd (one_leaf 1 leaves w refl some)
pushed_over side leaves x old mid new (Ok u) some lt m rest h (Branch c l r) p w =
    let s = halves h leaves c l r p w in
    rest s.below l s.left s.left_leaves ∙ ap (λ cs. cs ++ stem_below Over l x) m ∙ append_assoc old (beside side Over) (stem_below Over l x)
    ∙ ap (λ cs. old ++ cs) (sym (over_root side c l r leaves x s.left_nodes lt))

pub pushed_under : {T X : Type 0} (side : Side) (leaves x : ℕ) (old mid new : List ℕ) (q : Result T X) → 1 < leaves → leaves - 1 < x → mid ≡ old ++ beside side Under → ((h : ℕ) (t : Term) → is_perfect h t ≡ true → width t ≡ leaves / 2 → OnOk q (new ≡ mid ++ stem_below Under t (x - leaves))) → (h : ℕ) (t : Term) → is_perfect h t ≡ true → width t ≡ leaves → OnOk q (new ≡ old ++ stem_below side t x)
unfolding width
pushed_under side leaves x old mid new (Err e) some lt m rest h t p w = tt
pushed_under side leaves x old mid new (Ok u) some lt m rest h (Leaf v) p w = absurd (one_leaf 1 leaves w refl some)
pushed_under side leaves x old mid new (Ok u) some lt m rest h (Branch c l r) p w =
    let s = halves h leaves c l r p w in
    rest s.below r s.right s.right_leaves ∙ ap (λ cs. cs ++ stem_below Under r (x - leaves)) m ∙ append_assoc old (beside side Under) (stem_below Under r (x - leaves))
    ∙ ap (λ cs. old ++ cs) (sym (under_root side c l r leaves x s.left_nodes lt))

-- ---- of a whole tree

pub whole_one : (leaves x : ℕ) → leaves ≤ 1 → (h : ℕ) (t : Term) → is_perfect h t ≡ true → width t ≡ leaves → stem t x ≡ []
unfolding stem
whole_one leaves x le h (Leaf v) p w = refl
whole_one leaves x le h (Branch c l r) p w = let some = (halves h leaves c l r p w).some in absurd (omega (arith, some, le))

pub whole_root : (leaves x : ℕ) → x ≡ leaves - 1 → (h : ℕ) (t : Term) → is_perfect h t ≡ true → width t ≡ leaves → stem t x ≡ []
unfolding stem
whole_root leaves x e h (Leaf v) p w = refl
whole_root leaves x e h (Branch c l r) p w = root_itself Over c l r leaves x (halves h leaves c l r p w).left_nodes e

pub whole_over : {T X : Type 0} (leaves x : ℕ) (old new : List ℕ) (q : Result T X) → 1 < leaves → x < leaves - 1 → ((h : ℕ) (t : Term) → is_perfect h t ≡ true → width t ≡ leaves / 2 → OnOk q (new ≡ old ++ stem_below Over t x)) → (h : ℕ) (t : Term) → is_perfect h t ≡ true → width t ≡ leaves → OnOk q (new ≡ old ++ stem t x)
unfolding width
whole_over leaves x old new (Err e) some lt rest h t p w = tt
whole_over leaves x old new (Ok u) some lt rest h (Leaf v) p w = absurd (one_leaf 1 leaves w refl some)
whole_over leaves x old new (Ok u) some lt rest h (Branch c l r) p w =
    let s = halves h leaves c l r p w in
    rest s.below l s.left s.left_leaves ∙ ap (λ cs. old ++ cs) (sym (over_itself Over c l r leaves x s.left_nodes lt))

pub whole_under : {T X : Type 0} (leaves x : ℕ) (old new : List ℕ) (q : Result T X) → 1 < leaves → leaves - 1 < x → ((h : ℕ) (t : Term) → is_perfect h t ≡ true → width t ≡ leaves / 2 → OnOk q (new ≡ old ++ stem_below Under t (x - leaves))) → (h : ℕ) (t : Term) → is_perfect h t ≡ true → width t ≡ leaves → OnOk q (new ≡ old ++ stem t x)
unfolding width
whole_under leaves x old new (Err e) some lt rest h t p w = tt
whole_under leaves x old new (Ok u) some lt rest h (Leaf v) p w = absurd (one_leaf 1 leaves w refl some)
whole_under leaves x old new (Ok u) some lt rest h (Branch c l r) p w =
    let s = halves h leaves c l r p w in
    rest s.below r s.right s.right_leaves ∙ ap (λ cs. old ++ cs) (sym (under_itself Over c l r leaves x s.left_nodes lt))

-- what is put behind where there is memory
pub pushed_if : {T X : Type 0} (q : Result T X) (text target old new : List ℕ) → new ≡ (if is_ok q then old ++ text else old) → text ≡ target → OnOk q (new ≡ old ++ target)
pushed_if (Ok u) text target old new e is = e ∙ ap (λ cs. old ++ cs) is
pushed_if (Err x) text target old new e is = tt

-- The points of the curve under its law: associative, and so the multiples of a point add up.
use Rattle.std.proofs.Common.{◌≡◌, ℕ, zero, suc, ◌+◌, [], ◌∷◌, refl, sym, ap, ap₂, ◌∙◌, ◌≢◌, zero-add, suc-add, zero-mul, suc-mul, add_comm, ◌*◌, ◌/◌, ◌%◌, div-add-mod'}
use Rattle.curve25519.specs.Edwards.{origin as origin_of, multiple as multiple_of}
use Rattle.curve25519.proofs.Identities.{Term, v, i, o, ◌⊕◌, ◌⊗◌, ◌⊖◌, lookup, ring, follows, -◌}
use Rattle.curve25519.proofs.Field.{Field, cancel_factor, not_product}
use Rattle.curve25519.proofs.Edwards.{Pair, IsOn, above_x, above_y, below_x, below_y, sum, NotSquare, below_x≢nil, below_y≢nil, closed, commutes, over_x, over_y, under_x, under_y, same_x, same_y, one≢nil}

pub record Curve : Type 1 where
  pub field : Field
  pub d : field.over.numbers.Of
  pub s : field.over.numbers.Of
  pub root : field.over.numbers.mul s s ≡ field.over.numbers.neg field.over.numbers.one
  pub not_square : NotSquare field d

module _ (c : Curve) where
  open c use {field, d, s, root, not_square}
  open c.field.over.numbers use {Of, nil, one, add, mul, neg}

  abbrev pub On : Pair field → Type 0
  On p = IsOn field d p

  abbrev pub ◌+ₚ◌ : Pair field → Pair field → Pair field
  p +ₚ q = sum field d p q

  infixl 50 ◌+ₚ◌
  -- ---- what a coordinate of (p + q) + r is

  -- a 0, b 1, k 2, l 3, 1/k 4, 1/l 5, x 6, y 7, d 8, z 9
  coordinate_x : (a b k l k' l' x y z : Of) → mul k k' ≡ one → mul l l' ≡ one → mul (add one (mul (mul (mul (mul d (mul a k')) x) (mul b l')) y)) z ≡ one
      → mul (mul (add (mul (mul a k') y) (mul (mul b l') x)) z) (add (mul k l) (mul (mul (mul (mul d a) b) x) y)) ≡ add (mul (mul a y) l) (mul (mul b x) k)
  coordinate_x a b k l k' l' x y z h h' e =
      let n : Term = v 0 ⊗ v 4 ⊗ v 7 ⊕ v 1 ⊗ v 5 ⊗ v 6 in
      let t : Term = v 8 ⊗ v 0 ⊗ v 1 ⊗ v 6 ⊗ v 7 in
      follows field.over 10 (n ⊗ v 9 ⊗ (v 2 ⊗ v 3 ⊕ t)) (v 0 ⊗ v 7 ⊗ v 3 ⊕ v 1 ⊗ v 6 ⊗ v 2)
      ((v 0 ⊗ v 7 ⊗ v 3 ⊖ n ⊗ v 9 ⊗ t ⊗ v 3 ⊗ v 5, v 2 ⊗ v 4, i)
      ∷ (v 1 ⊗ v 6 ⊗ v 2 ⊖ n ⊗ v 9 ⊗ t, v 3 ⊗ v 5, i)
      ∷ (n ⊗ v 2 ⊗ v 3, (i ⊕ v 8 ⊗ (v 0 ⊗ v 4) ⊗ v 6 ⊗ (v 1 ⊗ v 5) ⊗ v 7) ⊗ v 9, i) ∷ []) refl
      (lookup field.over (a ∷ b ∷ k ∷ l ∷ k' ∷ l' ∷ x ∷ y ∷ d ∷ z ∷ [])) (h, (h', (e, tt)))

  coordinate_y : (a b k l k' l' x y z : Of) → mul k k' ≡ one → mul l l' ≡ one → mul (add one (neg (mul (mul (mul (mul d (mul a k')) x) (mul b l')) y))) z ≡ one
      → mul (mul (add (mul (mul b l') y) (mul (mul a k') x)) z) (add (mul k l) (neg (mul (mul (mul (mul d a) b) x) y))) ≡ add (mul (mul b y) k) (mul (mul a x) l)
  coordinate_y a b k l k' l' x y z h h' e =
      let n : Term = v 1 ⊗ v 5 ⊗ v 7 ⊕ v 0 ⊗ v 4 ⊗ v 6 in
      let t : Term = v 8 ⊗ v 0 ⊗ v 1 ⊗ v 6 ⊗ v 7 in
      follows field.over 10 (n ⊗ v 9 ⊗ (v 2 ⊗ v 3 ⊖ t)) (v 1 ⊗ v 7 ⊗ v 2 ⊕ v 0 ⊗ v 6 ⊗ v 3)
      ((v 0 ⊗ v 6 ⊗ v 3 ⊕ n ⊗ v 9 ⊗ t ⊗ v 3 ⊗ v 5, v 2 ⊗ v 4, i)
      ∷ (v 1 ⊗ v 7 ⊗ v 2 ⊕ n ⊗ v 9 ⊗ t, v 3 ⊗ v 5, i)
      ∷ (n ⊗ v 2 ⊗ v 3, (i ⊖ v 8 ⊗ (v 0 ⊗ v 4) ⊗ v 6 ⊗ (v 1 ⊗ v 5) ⊗ v 7) ⊗ v 9, i) ∷ []) refl
      (lookup field.over (a ∷ b ∷ k ∷ l ∷ k' ∷ l' ∷ x ∷ y ∷ d ∷ z ∷ [])) (h, (h', (e, tt)))

  -- the denominator is no 0: times z it is k * l
  denominator_x : (a b k l k' l' x y z : Of) → mul k k' ≡ one → mul l l' ≡ one → mul (add one (mul (mul (mul (mul d (mul a k')) x) (mul b l')) y)) z ≡ one
      → add (mul k l) (mul (mul (mul (mul d a) b) x) y) ≡ nil → mul k l ≡ nil
  denominator_x a b k l k' l' x y z h h' e u =
      let t : Term = v 8 ⊗ v 0 ⊗ v 1 ⊗ v 6 ⊗ v 7 in
      follows field.over 10 (v 2 ⊗ v 3) o
      ((v 9, v 2 ⊗ v 3 ⊕ t, o)
      ∷ (t ⊗ v 9 ⊗ v 3 ⊗ v 5, v 2 ⊗ v 4, i)
      ∷ (t ⊗ v 9, v 3 ⊗ v 5, i)
      ∷ (- (v 2 ⊗ v 3), (i ⊕ v 8 ⊗ (v 0 ⊗ v 4) ⊗ v 6 ⊗ (v 1 ⊗ v 5) ⊗ v 7) ⊗ v 9, i) ∷ []) refl
      (lookup field.over (a ∷ b ∷ k ∷ l ∷ k' ∷ l' ∷ x ∷ y ∷ d ∷ z ∷ [])) (u, (h, (h', (e, tt))))

  denominator_y : (a b k l k' l' x y z : Of) → mul k k' ≡ one → mul l l' ≡ one → mul (add one (neg (mul (mul (mul (mul d (mul a k')) x) (mul b l')) y))) z ≡ one
      → add (mul k l) (neg (mul (mul (mul (mul d a) b) x) y)) ≡ nil → mul k l ≡ nil
  denominator_y a b k l k' l' x y z h h' e u =
      let t : Term = v 8 ⊗ v 0 ⊗ v 1 ⊗ v 6 ⊗ v 7 in
      follows field.over 10 (v 2 ⊗ v 3) o
      ((v 9, v 2 ⊗ v 3 ⊖ t, o)
      ∷ (- (t ⊗ v 9 ⊗ v 3 ⊗ v 5), v 2 ⊗ v 4, i)
      ∷ (- (t ⊗ v 9), v 3 ⊗ v 5, i)
      ∷ (- (v 2 ⊗ v 3), (i ⊖ v 8 ⊗ (v 0 ⊗ v 4) ⊗ v 6 ⊗ (v 1 ⊗ v 5) ⊗ v 7) ⊗ v 9, i) ∷ []) refl
      (lookup field.over (a ∷ b ∷ k ∷ l ∷ k' ∷ l' ∷ x ∷ y ∷ d ∷ z ∷ [])) (u, (h, (h', (e, tt))))

  -- p + q and r: the facts that the four lemmas ask for
  pub inverse_x : (p q : Pair field) → On p → On q → mul (below_x field d p q) (field.over.numbers.inv (below_x field d p q)) ≡ one
  inverse_x p q on on' = field.mul-inv (below_x field d p q) (below_x≢nil field d s p q not_square root on on')

  pub inverse_y : (p q : Pair field) → On p → On q → mul (below_y field d p q) (field.over.numbers.inv (below_y field d p q)) ≡ one
  inverse_y p q on on' = field.mul-inv (below_y field d p q) (below_y≢nil field d s p q not_square root on on')

  pub stays : (p q : Pair field) → On p → On q → On (p +ₚ q)
  stays p q on on' = closed field d s p q not_square root on on'

  left_x : (p q r : Pair field) → On p → On q → On r → mul ((p +ₚ q) +ₚ r).0 (under_x field p q r d) ≡ over_x field p q r d
  left_x p q r on on' on'' =
      coordinate_x (above_x field p q) (above_y field p q) (below_x field d p q) (below_y field d p q) (field.over.numbers.inv (below_x field d p q)) (field.over.numbers.inv (below_y field d p q)) r.0 r.1
      (field.over.numbers.inv (below_x field d (p +ₚ q) r)) (inverse_x p q on on') (inverse_y p q on on') (inverse_x (p +ₚ q) r (stays p q on on') on'')

  left_y : (p q r : Pair field) → On p → On q → On r → mul ((p +ₚ q) +ₚ r).1 (under_y field p q r d) ≡ over_y field p q r d
  left_y p q r on on' on'' =
      coordinate_y (above_x field p q) (above_y field p q) (below_x field d p q) (below_y field d p q) (field.over.numbers.inv (below_x field d p q)) (field.over.numbers.inv (below_y field d p q)) r.0 r.1
      (field.over.numbers.inv (below_y field d (p +ₚ q) r)) (inverse_x p q on on') (inverse_y p q on on') (inverse_y (p +ₚ q) r (stays p q on on') on'')

  both_nonzero : (p q : Pair field) → On p → On q → mul (below_x field d p q) (below_y field d p q) ≢ nil
  both_nonzero p q on on' = not_product field (below_x field d p q) (below_y field d p q) (below_x≢nil field d s p q not_square root on on') (below_y≢nil field d s p q not_square root on on')

  under_x≢nil : (p q r : Pair field) → On p → On q → On r → under_x field p q r d ≢ nil
  under_x≢nil p q r on on' on'' h = both_nonzero p q on on'
      (denominator_x (above_x field p q) (above_y field p q) (below_x field d p q) (below_y field d p q) (field.over.numbers.inv (below_x field d p q)) (field.over.numbers.inv (below_y field d p q)) r.0 r.1
      (field.over.numbers.inv (below_x field d (p +ₚ q) r)) (inverse_x p q on on') (inverse_y p q on on') (inverse_x (p +ₚ q) r (stays p q on on') on'') h)

  under_y≢nil : (p q r : Pair field) → On p → On q → On r → under_y field p q r d ≢ nil
  under_y≢nil p q r on on' on'' h = both_nonzero p q on on'
      (denominator_y (above_x field p q) (above_y field p q) (below_x field d p q) (below_y field d p q) (field.over.numbers.inv (below_x field d p q)) (field.over.numbers.inv (below_y field d p q)) r.0 r.1
      (field.over.numbers.inv (below_y field d (p +ₚ q) r)) (inverse_x p q on on') (inverse_y p q on on') (inverse_y (p +ₚ q) r (stays p q on on') on'') h)

  -- two quotients with one cross product
  same_quotients : (x x' u u' t t' : Of) → mul x u ≡ t → mul x' u' ≡ t' → mul t u' ≡ mul t' u → u ≢ nil → u' ≢ nil → x ≡ x'
  same_quotients x x' u u' t t' e e' h n n' =
      cancel_factor field x x' (mul u u') (not_product field u u' n n')
      (follows field.over 6 (v 0 ⊗ (v 2 ⊗ v 3)) (v 1 ⊗ (v 2 ⊗ v 3)) ((v 3, v 0 ⊗ v 2, v 4) ∷ (i, v 4 ⊗ v 3, v 5 ⊗ v 2) ∷ (- (v 2), v 1 ⊗ v 3, v 5) ∷ []) refl
      (lookup field.over (x ∷ x' ∷ u ∷ u' ∷ t ∷ t' ∷ [])) (e, (h, (e', tt))))

  -- THE GROUP LAW
  turned : (p q r : Pair field) → On p → On q → On r → ((p +ₚ q) +ₚ r) ≡ ((q +ₚ r) +ₚ p)
  turned p q r on on' on'' =
      ap₂ (λ x y. (x, y))
      (same_quotients ((p +ₚ q) +ₚ r).0 ((q +ₚ r) +ₚ p).0 (under_x field p q r d) (under_x field q r p d) (over_x field p q r d) (over_x field q r p d)
      (left_x p q r on on' on'') (left_x q r p on' on'' on) (same_x field d p q r on on' on'') (under_x≢nil p q r on on' on'') (under_x≢nil q r p on' on'' on))
      (same_quotients ((p +ₚ q) +ₚ r).1 ((q +ₚ r) +ₚ p).1 (under_y field p q r d) (under_y field q r p d) (over_y field p q r d) (over_y field q r p d)
      (left_y p q r on on' on'') (left_y q r p on' on'' on) (same_y field d p q r on on' on'') (under_y≢nil p q r on on' on'') (under_y≢nil q r p on' on'' on))

  pub associates : (p q r : Pair field) → On p → On q → On r → ((p +ₚ q) +ₚ r) ≡ (p +ₚ (q +ₚ r))
  associates p q r on on' on'' = turned p q r on on' on'' ∙ commutes field d (q +ₚ r) p

  -- ---- the multiples of a point

  abbrev pub origin : Pair field
  origin = origin_of field.over.numbers

  inv_one : field.over.numbers.inv one ≡ one
  inv_one = sym (field.over.laws.mul-comm one (field.over.numbers.inv one) ∙ field.over.laws.mul-one (field.over.numbers.inv one)) ∙ field.mul-inv one (one≢nil field)

  pub with_origin : (p : Pair field) → (p +ₚ origin) ≡ p
  with_origin p =
      let ρ : ℕ → Of = lookup field.over (p.0 ∷ p.1 ∷ d ∷ []) in
      ap₂ (λ x y. (x, y))
      (ap₂ mul (ring field.over 3 (v 0 ⊗ i ⊕ v 1 ⊗ o) (v 0) refl ρ) (ap field.over.numbers.inv (ring field.over 3 (i ⊕ v 2 ⊗ v 0 ⊗ o ⊗ v 1 ⊗ i) i refl ρ) ∙ inv_one) ∙ field.over.laws.mul-one p.0)
      (ap₂ mul (ring field.over 3 (v 1 ⊗ i ⊕ v 0 ⊗ o) (v 1) refl ρ) (ap field.over.numbers.inv (ring field.over 3 (i ⊖ v 2 ⊗ v 0 ⊗ o ⊗ v 1 ⊗ i) i refl ρ) ∙ inv_one) ∙ field.over.laws.mul-one p.1)

  pub origin_on : On origin
  origin_on = ring field.over 1 (i ⊗ i) (o ⊗ o ⊕ i ⊕ v 0 ⊗ o ⊗ o ⊗ i ⊗ i) refl (lookup field.over (d ∷ []))

  abbrev pub multiple : Pair field → ℕ → Pair field
  multiple = multiple_of field.over.numbers d

  pub multiple_on : (b : Pair field) → On b → (n : ℕ) → On (multiple b n)
  unfolding multiple_of
  multiple_on b on zero = origin_on
  multiple_on b on (suc n) = stays (multiple b n) b (multiple_on b on n) on

  -- THE MULTIPLES OF A POINT ADD UP
  pub multiples_add : (b : Pair field) → On b → (m n : ℕ) → (multiple b n +ₚ multiple b m) ≡ multiple b (m + n)
  unfolding multiple_of
  multiples_add b on zero n = with_origin (multiple b n) ∙ ap (multiple b) (sym (zero-add n))
  multiples_add b on (suc m) n =
      sym (associates (multiple b n) (multiple b m) b (multiple_on b on n) (multiple_on b on m) on)
      ∙ ap (λ p. p +ₚ b) (multiples_add b on m n) ∙ ap (multiple b) (sym (suc-add m n))

  pub multiple-zero : (b : Pair field) → multiple b 0 ≡ origin
  unfolding multiple_of
  multiple-zero b = refl

  pub multiple-suc : (b : Pair field) (n : ℕ) → multiple b (suc n) ≡ (multiple b n +ₚ b)
  unfolding multiple_of
  multiple-suc b n = refl

  pub commutes_here : (p q : Pair field) → (p +ₚ q) ≡ (q +ₚ p)
  commutes_here p q = commutes field d p q

  pub multiple-one : (b : Pair field) → multiple b 1 ≡ b
  multiple-one b = multiple-suc b 0 ∙ ap (λ p. p +ₚ b) (multiple-zero b) ∙ commutes field d origin b ∙ with_origin b

  -- a multiple of a multiple
  pub multiple-mul : (b : Pair field) → On b → (a k : ℕ) → multiple (multiple b a) k ≡ multiple b (k * a)
  unfolding multiple_of
  multiple-mul b on a zero = ap (multiple b) (sym (zero-mul a))
  multiple-mul b on a (suc k) = ap (λ p. p +ₚ multiple b a) (multiple-mul b on a k) ∙ multiples_add b on a (k * a) ∙ ap (multiple b) (add_comm a (k * a) ∙ sym (suc-mul k a))

  -- where l times the point is the origin, multiples count modulo l
  full_turns : (b : Pair field) → On b → (l n : ℕ) → multiple b l ≡ origin → multiple b (n * l) ≡ origin
  full_turns b on l zero e = ap (multiple b) (zero-mul l) ∙ multiple-zero b
  full_turns b on l (suc n) e = ap (multiple b) (suc-mul n l) ∙ sym (multiples_add b on (n * l) l) ∙ ap₂ ◌+ₚ◌ e (full_turns b on l n e) ∙ with_origin origin

  pub multiple-mod : (b : Pair field) → On b → (l n : ℕ) → multiple b l ≡ origin → multiple b (n % l) ≡ multiple b n
  multiple-mod b on l n e =
      sym (with_origin (multiple b (n % l))) ∙ ap (λ p. multiple b (n % l) +ₚ p) (sym (full_turns b on l (n / l) e)) ∙ multiples_add b on (n / l * l) (n % l) ∙ ap (multiple b) (div-add-mod' n l)

  -- THE EQUATION OF A SIGNATURE: (r + k * a) mod l times the base point is r times it and k times the public key
  pub signature_equation : (b : Pair field) → On b → (l r k a : ℕ) → multiple b l ≡ origin → multiple b ((r + k * a) % l) ≡ (multiple b r +ₚ multiple (multiple b a) k)
  signature_equation b on l r k a e =
      multiple-mod b on l (r + k * a) e ∙ ap (multiple b) (add_comm r (k * a)) ∙ sym (multiples_add b on (k * a) r) ∙ ap (λ p. multiple b r +ₚ p) (sym (multiple-mul b on a k))

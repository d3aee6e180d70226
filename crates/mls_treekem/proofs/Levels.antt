-- Keys by their height, and the pairs that they make.
use Rattle.std.proofs.Common.{◌≡◌, ℕ, zero, suc, ◌+◌, ◌-◌, ◌*◌, ◌^◌, ◌<◌, ◌≤◌, true, List, [], ◌∷◌, ◌++◌, length, reverse, get_or, Option, Some, None, Result, OnOk, refl, subst, sym, ◌∙◌, ap, ap₂, inl, inr, arith, append-nil, append_assoc, lt-ltb, le-ltb, pow-suc}
use Rattle.std.proofs.lemmas.Bool.{cond-true, cond-false, cases_lt, cases_eq, true≢false, and_parts}
use Rattle.std.proofs.lemmas.List.{reverse-reverse, length-reverse, get_or-append_right, get_or_append_left, get_or_past}
use Rattle.mls_tree_model.specs.Term.{Term, Leaf, Branch, width, size, is_perfect}
use Rattle.mls_tree_model.specs.Way.{way}
use Rattle.mls_tree_model.proofs.Equations.{way_leaf, way_left, way_right}
use Rattle.mls_tree_model.proofs.ShapeLaws.{size-width, width-perfect}
use Rattle.mls_tree_model.proofs.PathLaws.{reverse-cons}
use Rattle.mls_treekem_model.specs.Keys.{Keys, PrivateKeys, all_keys, key_above, keys_on_way}
use Rattle.mls_treekem_model.specs.Height.{pairs_from, as_pairs, ArePairs}
use Rattle.mls_treekem_model.specs.Pairs.{Pair, pair_of, pairs}
use Rattle.mls_treekem_model.proofs.OnePassLaws.{no_key_above}
use Rattle.mls_treekem_model.proofs.HeightLaws.{above_take, above_pass, length-end, own_above, way_height}

-- ---- a key with others above the leaf's

get_end : (xs : Keys) (x : Option (List ℕ)) (i : ℕ) → length xs ≡ i → get_or (xs ++ (x ∷ [])) i None ≡ x
get_end xs x i e = get_or-append_right xs (x ∷ []) (length xs) i None refl (omega arith) ∙ ap (λ k. get_or (x ∷ []) k None) (let z : i - length xs ≡ 0 = omega arith in z)

get_past : (xs : Keys) (x : Option (List ℕ)) (i : ℕ) → (length xs ≡ i → ⊥) → get_or (xs ++ (x ∷ [])) i None ≡ get_or xs i None
get_past xs x i e = elim (cases_lt i (length xs)) [
  | inl k ↦ get_or_append_left xs (x ∷ []) None i k
  | inr k ↦ get_or_past (xs ++ (x ∷ [])) i None (omega (arith, length-end xs x)) ∙ sym (get_or_past xs i None k)
]

pub above_is : (xs : Keys) (o : Option (List ℕ)) (i : ℕ) → key_above (suc i) (xs ++ (o ∷ [])) ≡ get_or (reverse xs) i None
above_is [] o i = no_key_above (suc i) (o ∷ []) (omega arith) ∙ sym (get_or_past [] i None (omega arith))
above_is (x ∷ xs) o i = rw (reverse-cons x xs) elim (cases_eq (length xs) i) [
  | inl e ↦ above_take (suc i) x (xs ++ (o ∷ [])) (length-end xs o ∙ ap suc e) ∙ sym (get_end (reverse xs) x i (length-reverse xs ∙ e))
  | inr ne ↦ above_pass (suc i) x (xs ++ (o ∷ [])) (λ e. ne (omega (arith, length-end xs o))) ∙ above_is xs o i ∙ sym (get_past (reverse xs) x i (λ e. ne (sym (length-reverse xs) ∙ e)))
]

-- of a member, whose keys above the leaf are kept by height
module _ (p : PrivateKeys) (above : Keys) (n : ℕ) (is : reverse above ≡ p.above) where
  pub key_own : n ≡ 0 → Some p.own ≡ key_above n (all_keys p)
  key_own e = sym (ap (λ k. key_above k (all_keys p)) e ∙ own_above p.above (Some p.own))

  same_keys : reverse p.above ≡ above
  same_keys = ap reverse (sym is) ∙ reverse-reverse above

  pub key_high : (n ≡ 0 → ⊥) → get_or above (n - 1) None ≡ key_above n (all_keys p)
  key_high ne =
      sym (ap (λ k. key_above k (all_keys p)) (let z : n ≡ suc (n - 1) = omega arith in z)
      ∙ above_is p.above (Some p.own) (n - 1)
      ∙ ap (λ zs. get_or zs (n - 1) None) same_keys)

-- ---- keys read on a way

-- ---- pairs

pub pow_pred : (h : ℕ) → (h ≡ 0 → ⊥) → 2 ^ h ≡ 2 * 2 ^ (h - 1)
pow_pred zero ne = absurd (ne refl)
pow_pred (suc h) ne = let e : 2 ^ (suc h - 1) ≡ 2 ^ h = ap (λ n. 2 ^ n) (let z : suc h - 1 ≡ h = omega arith in z) in rw pow-suc (omega (arith, e))

pub pairs_left : (h b j : ℕ) (ks : Keys) → j < b + 2 ^ h → pairs_from (suc h) b j ks ≡ pairs_from h b j ks ++ pair_of (2 * b + (2 * 2 ^ h - 1)) (key_above (suc h) ks)
unfolding pairs_from
pairs_left h b j ks lt = cond-true _ _ _ (lt-ltb j (b + 2 ^ h) lt)

pub pairs_right : (h b j : ℕ) (ks : Keys) → b + 2 ^ h ≤ j → pairs_from (suc h) b j ks ≡ pair_of (2 * b + (2 * 2 ^ h - 1)) (key_above (suc h) ks) ++ pairs_from h (b + 2 ^ h) j ks
unfolding pairs_from
pairs_right h b j ks ge = cond-false _ _ _ (le-ltb j (b + 2 ^ h) ge)

pub pairs_from-term : (h b : ℕ) (t : Term) (j : ℕ) (ks : Keys) → is_perfect h t ≡ true → pairs b t j (keys_on_way (way b t j) ks) ≡ pairs_from h b j ks
unfolding is_perfect pairs pairs_from keys_on_way
pairs_from-term zero b (Leaf v) j ks e = rw (way_leaf b v j) refl
pairs_from-term (suc h) b (Leaf v) j ks e = absurd (true≢false (sym e))
pairs_from-term zero b (Branch c l r) j ks e = absurd (true≢false (sym e))
pairs_from-term (suc h) b (Branch c l r) j ks e =
    let p = and_parts (is_perfect h l) (is_perfect h r) e in
    let w : width l ≡ 2 ^ h = width-perfect h l p.0 in
    let s : size l ≡ 2 * 2 ^ h - 1 = omega (arith, size-width l) in
    elim (cases_lt j (b + width l)) [
      | inl k ↦
          ap (pairs b (Branch c l r) j) (ap (λ z. keys_on_way z ks) (way_left b c l r j k))
          ∙ cond-true _ _ _ (lt-ltb j (b + width l) k)
          ∙ ap₂ (λ x y. x ++ y) (pairs_from-term h b l j ks p.0) (ap₂ (λ n m. pair_of (2 * b + n) (key_above (suc m) ks)) s (way_height h b l j p.0))
          ∙ sym (pairs_left h b j ks (omega arith))
      | inr k ↦
          ap (pairs b (Branch c l r) j) (ap (λ z. keys_on_way z ks) (way_right b c l r j k))
          ∙ cond-false _ _ _ (le-ltb j (b + width l) k)
          ∙ ap₂ (λ x y. x ++ y) (ap₂ (λ n m. pair_of (2 * b + n) (key_above (suc m) ks)) s (way_height h (b + width l) r j p.1)) (pairs_from-term h (b + width l) r j ks p.1 ∙ ap (λ n. pairs_from h (b + n) j ks) w)
          ∙ sym (pairs_right h b j ks (omega arith))
    ]

-- a higher tree gives no more
higher : (h j : ℕ) (ks : Keys) → j < 2 ^ h → length ks ≤ suc h → pairs_from (suc h) 0 j ks ≡ pairs_from h 0 j ks
higher h j ks lt low =
    pairs_left h 0 j ks (omega arith)
    ∙ ap (λ o. pairs_from h 0 j ks ++ pair_of (2 * 0 + (2 * 2 ^ h - 1)) o) (no_key_above (suc h) ks low)
    ∙ append-nil _

pub much_higher : (k h j : ℕ) (ks : Keys) → j < 2 ^ h → length ks ≤ suc h → pairs_from (k + h) 0 j ks ≡ pairs_from h 0 j ks
much_higher zero h j ks lt low = ap (λ n. pairs_from n 0 j ks) (let z : 0 + h ≡ h = omega arith in z)
much_higher (suc k) h j ks lt low =
    ap (λ n. pairs_from n 0 j ks) (let z : suc k + h ≡ k + suc h = omega arith in z)
    ∙ much_higher k (suc h) j ks (rw pow-suc (omega arith)) (omega arith)
    ∙ higher h j ks lt low

same_pairs : (a b j : ℕ) (ks : Keys) → j < 2 ^ a → j < 2 ^ b → length ks ≤ suc a → length ks ≤ suc b → pairs_from a 0 j ks ≡ pairs_from b 0 j ks
same_pairs a b j ks la lb ka kb = elim (cases_lt a b) [
  | inl k ↦ sym (ap (λ n. pairs_from n 0 j ks) (let z : b ≡ (b - a) + a = omega arith in z) ∙ much_higher (b - a) a j ks la ka)
  | inr k ↦ ap (λ n. pairs_from n 0 j ks) (let z : a ≡ (a - b) + b = omega arith in z) ∙ much_higher (a - b) b j ks lb kb
]

pub are_pairs : (p : PrivateKeys) (ps : List (ℕ × List ℕ)) (n : ℕ) → p.leaf < 2 ^ n → length p.above ≤ n → as_pairs ps ≡ pairs_from n 0 p.leaf (all_keys p) → ArePairs p ps
are_pairs p ps n lt low e h t perfect room inside =
    let ks : Keys = all_keys p in
    let w : width t ≡ 2 ^ h = width-perfect h t perfect in
    let high : p.leaf < 0 + width t = inside.high in
    let l : length ks ≡ suc (length p.above) = length-end p.above (Some p.own) in
    e
    ∙ same_pairs n h p.leaf ks lt (omega arith) (omega arith) (omega arith)
    ∙ sym (pairs_from-term h 0 t p.leaf ks perfect)

-- a list of pairs with those of one side, and the root's
module _ (h b j : ℕ) (ks : Keys) (ne : h ≡ 0 → ⊥) where
  whole : pairs_from h b j ks ≡ pairs_from (suc (h - 1)) b j ks
  whole = ap (λ n. pairs_from n b j ks) (let z : h ≡ suc (h - 1) = omega arith in z)

  same_top : pair_of (2 * b + (2 * 2 ^ (h - 1) - 1)) (key_above (suc (h - 1)) ks) ≡ pair_of (2 * b + (2 * 2 ^ (h - 1) - 1)) (key_above h ks)
  same_top = ap (λ n. pair_of (2 * b + (2 * 2 ^ (h - 1) - 1)) (key_above n ks)) (let z : suc (h - 1) ≡ h = omega arith in z)

  left_side : (ps qs : List Pair) → j < b + 2 ^ (h - 1) → qs ≡ ps ++ pairs_from (h - 1) b j ks → qs ++ pair_of (2 * b + (2 * 2 ^ (h - 1) - 1)) (key_above h ks) ≡ ps ++ pairs_from h b j ks
  left_side ps qs lt e =
      ap₂ (λ x y. x ++ y) e (sym same_top)
      ∙ append_assoc ps (pairs_from (h - 1) b j ks) _
      ∙ ap (λ z. ps ++ z) (sym (whole ∙ pairs_left (h - 1) b j ks lt))

  right_side : (ps qs : List Pair) → b + 2 ^ (h - 1) ≤ j → qs ≡ ps ++ pair_of (2 * b + (2 * 2 ^ (h - 1) - 1)) (key_above h ks) → qs ++ pairs_from (h - 1) (b + 2 ^ (h - 1)) j ks ≡ ps ++ pairs_from h b j ks
  right_side ps qs ge e =
      ap (λ x. x ++ pairs_from (h - 1) (b + 2 ^ (h - 1)) j ks) (e ∙ ap (λ z. ps ++ z) (sym same_top))
      ∙ append_assoc ps _ (pairs_from (h - 1) (b + 2 ^ (h - 1)) j ks)
      ∙ ap (λ z. ps ++ z) (sym (whole ∙ pairs_right (h - 1) b j ks ge))

  pub left_first : (w : ℕ) → w ≡ 2 ^ (h - 1) → (ps qs : List Pair) → j < b + w → qs ≡ ps ++ pairs_from (h - 1) b j ks → qs ++ pair_of (2 * b + (2 * w - 1)) (key_above h ks) ≡ ps ++ pairs_from h b j ks
  left_first w is = subst (λ w. (ps qs : List Pair) → j < b + w → qs ≡ ps ++ pairs_from (h - 1) b j ks → qs ++ pair_of (2 * b + (2 * w - 1)) (key_above h ks) ≡ ps ++ pairs_from h b j ks) (sym is) left_side

  pub root_first : (w : ℕ) → w ≡ 2 ^ (h - 1) → (ps qs : List Pair) → b + w ≤ j → qs ≡ ps ++ pair_of (2 * b + (2 * w - 1)) (key_above h ks) → qs ++ pairs_from (h - 1) (b + w) j ks ≡ ps ++ pairs_from h b j ks
  root_first w is = subst (λ w. (ps qs : List Pair) → b + w ≤ j → qs ≡ ps ++ pair_of (2 * b + (2 * w - 1)) (key_above h ks) → qs ++ pairs_from (h - 1) (b + w) j ks ≡ ps ++ pairs_from h b j ks) (sym is) right_side

pub pairs_lowest : (h b j : ℕ) (ks : Keys) → h ≡ 0 → pairs_from h b j ks ≡ pair_of (2 * j) (key_above 0 ks)
unfolding pairs_from
pairs_lowest h b j ks e = ap (λ n. pairs_from n b j ks) e

-- what a call promises where it answers Ok, by another equation
pub on_ok_by : {A E X : Type 0} (r : Result A E) (x y z : X) → y ≡ z → OnOk r (x ≡ y) → OnOk r (x ≡ z)
on_ok_by r x y z e h = subst (λ w. OnOk r (x ≡ w)) e h

pub view_low : (p : PrivateKeys) (above : Keys) (n : ℕ) → reverse above ≡ p.above → length above ≤ n → length p.above ≤ n
view_low p above n is low = let e : length p.above ≡ length above = ap length (sym is) ∙ length-reverse above in omega arith

-- a list that began with none
pub from_none : {A : Type 0} (xs ys zs : List A) → xs ≡ ys ++ zs → ys ≡ [] → xs ≡ zs
from_none xs ys zs e none = e ∙ ap (λ w. w ++ zs) none

pub listed_none : (ps : List Pair) (qs : List (ℕ × List ℕ)) (zs : List Pair) → ps ≡ as_pairs qs ++ zs → qs ≡ [] → ps ≡ zs
listed_none ps qs zs e none = e ∙ ap (λ w. as_pairs w ++ zs) none

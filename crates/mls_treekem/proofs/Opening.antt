-- What is opened along a committer's way, as code goes over it.
use Rattle.std.proofs.Common.{◌≡◌, ℕ, zero, suc, ◌+◌, ◌-◌, ◌*◌, ◌^◌, ◌<◌, ◌≤◌, Bool, true, false, not, ◌&&◌, ◌==◌, nat_lt, nat_le, if◌then◌else◌, List, [], ◌∷◌, ◌++◌, length, map, reverse, drop, get_or, codes, Option, Some, None, Result, Ok, Err, refl, sym, subst, ◌∙◌, ap, ap₂, inl, inr, arith, drop-cons, eq-eqb, ne_eqb}
use Rattle.std.specs.List.{slice_get}
use Rattle.std.specs.Option.{option_map}
use Rattle.std.specs.Str.{bytes_eq}
use Rattle.std.proofs.lemmas.Bool.{cond-true, cond-false, cases_lt, true≢false, and_parts}
use Rattle.std.proofs.lemmas.List.{drop_all, length-map}
use Rattle.mls_wire.specs.Checks.{require_some, Answers, AnswersOutright}
use Rattle.mls_wire.specs.Reading.{◌>>=◌}
use Rattle.mls_wire.specs.Laws.{bind_ok}
use Rattle.mls_types.specs.declared.update_path.HpkeCiphertext.{HpkeCiphertext}
use Rattle.mls_types.specs.declared.ciphertexts.CiphertextRef.{CiphertextRef}
use Rattle.mls_types.specs.Ciphertexts.{ciphertext_lent}
use Rattle.mls_types.specs.declared.update_path.UpdatePathNode.{UpdatePathNode}
use Rattle.mls_suite.specs.Crypto.{Crypto}
use Rattle.mls_suite.specs.Labels.{decrypt_with_label}
use Rattle.mls_leaf.specs.Parent.{Parent}
use Rattle.mls_tree_model.specs.Sets.{has, leaf_numbers, less}
use Rattle.mls_tree_model.specs.Term.{Term, Leaf, Branch, width, size, is_perfect}
use Rattle.mls_tree_model.specs.Places.{resolution_at}
use Rattle.mls_tree_model.specs.Resolution.{is_empty}
use Rattle.mls_tree_model.specs.Way.{Step, way, is_filtered, is_beside}
use Rattle.mls_tree_model.proofs.Equations.{way_leaf, way_left, way_right}
use Rattle.mls_tree_model.proofs.ShapeLaws.{size-width, width-perfect}
use Rattle.mls_treekem.specs.declared.places.Place.{Place}
use Rattle.mls_treekem.specs.Climbing.{with_own}
use Rattle.mls_treekem.specs.Faults.{number_of}
use Rattle.mls_treekem.specs.declared.error.TreeKemError.{TreeKemError}
use Rattle.mls_treekem_model.specs.Chain.{next_secret, node_key, node_public}
use Rattle.mls_treekem_model.specs.Keys.{Keys, key_for, key_in, PrivateKeys, all_keys, key_above, keys_on_way, keys_on}
use Rattle.mls_treekem_model.specs.Make.{climb_past_node, climb_past_blank, Climb}
use Rattle.mls_treekem_model.specs.Open.{nodes_below, unseal_secret, secret_of, open_first, first_ciphertexts, open_at_ancestor, climb_past_parent, climb_open, opened_path, secret_in}
use Rattle.mls_treekem.specs.Opening.{key_of, IsKeyOf, AreKeysUpTo, OpensAlong}
use Rattle.mls_treekem.specs.Place.{subtree_at, step_of, IsPlaced, ArePlaced, IsWay}
use Rattle.mls_treekem_model.specs.Seal.{targets}
use Rattle.mls_treekem_model.proofs.HeightLaws.{way_height, reverse-end, own_above, length-end, length-keys_on_way, same_length}

-- ---- answers by an equal definition

pub answers_by : {A B E : Type 0} (value : B → A) (number : E → ℕ) (d d' : Result A ℕ) (r : Result B E) → d ≡ d' → Answers value number d r → Answers value number d' r
answers_by value number d d' r e h = subst (λ z. Answers value number z r) e h

pub answers_outright : {A B E : Type 0} (value : B → A) (number : E → ℕ) (d : Result A ℕ) (r : Result B E) → AnswersOutright value number d r → Answers value number d r
answers_outright value number d (Ok x) h = h
answers_outright value number d (Err e) h = λ _. h

-- ---- the key of a node

module _ (c : Option Parent) (l r : Term) (b j n : ℕ) (ks : Keys) where
  branch_left : j < b + width l → key_in b (Branch c l r) j (keys_on_way (way b (Branch c l r) j) ks) n ≡ (if n == 2 * b + size l then key_above (suc (length (way b l j))) ks else key_in b l j (keys_on_way (way b l j) ks) n)
  unfolding key_for keys_on_way
  branch_left lt = ap (λ ss. key_for ss j (keys_on_way ss ks) n) (way_left b c l r j lt)

  branch_right : b + width l ≤ j → key_in b (Branch c l r) j (keys_on_way (way b (Branch c l r) j) ks) n ≡ (if n == 2 * b + size l then key_above (suc (length (way (b + width l) r j))) ks else key_in (b + width l) r j (keys_on_way (way (b + width l) r j) ks) n)
  unfolding key_for keys_on_way
  branch_right ge = ap (λ ss. key_for ss j (keys_on_way ss ks) n) (way_right b c l r j ge)

lowest : (b : ℕ) (t : Term) (j n : ℕ) (ks : Keys) → is_perfect 0 t ≡ true → key_in b t j (keys_on_way (way b t j) ks) n ≡ (if n == 2 * j then key_above 0 ks else None)
unfolding is_perfect key_for keys_on_way
lowest b (Leaf v) j n ks e = ap (λ ss. key_for ss j (keys_on_way ss ks) n) (way_leaf b v j)
lowest b (Branch c l r) j n ks e = absurd (true≢false (sym e))

module _ (h b : ℕ) (p : PrivateKeys) (n : ℕ) (low : h ≡ 0) where
  pub key_at_leaf : n ≡ 2 * p.leaf → IsKeyOf h b p n (key_above 0 (all_keys p))
  key_at_leaf e t perfect = sym (lowest b t p.leaf n (all_keys p) (ap (λ m. is_perfect m t) (sym low) ∙ perfect) ∙ cond-true _ _ _ (eq-eqb n (2 * p.leaf) e))

  pub no_key_at_leaf : (n ≡ 2 * p.leaf → ⊥) → IsKeyOf h b p n None
  no_key_at_leaf ne t perfect = sym (lowest b t p.leaf n (all_keys p) (ap (λ m. is_perfect m t) (sym low) ∙ perfect) ∙ cond-false _ _ _ (ne_eqb n (2 * p.leaf) ne))

module _ (p : PrivateKeys) (n : ℕ) where
  top_key : (h b : ℕ) (t : Term) → is_perfect (suc h) t ≡ true → n ≡ 2 * b + (2 * 2 ^ h - 1) → key_above (suc h) (all_keys p) ≡ key_of b t p n
  unfolding is_perfect
  top_key h b (Leaf v) e is = absurd (true≢false (sym e))
  top_key h b (Branch c l r) e is =
      let q = and_parts (is_perfect h l) (is_perfect h r) e in
      let w : width l ≡ 2 ^ h = width-perfect h l q.0 in
      let s : size l ≡ 2 * 2 ^ h - 1 = omega (arith, size-width l) in
      elim (cases_lt p.leaf (b + width l)) [
        | inl k ↦
            ap (λ m. key_above (suc m) (all_keys p)) (sym (way_height h b l p.leaf q.0))
            ∙ sym (branch_left c l r b p.leaf n (all_keys p) k ∙ cond-true _ _ _ (eq-eqb n (2 * b + size l) (is ∙ ap (λ m. 2 * b + m) (sym s))))
        | inr k ↦
            ap (λ m. key_above (suc m) (all_keys p)) (sym (way_height h (b + width l) r p.leaf q.1))
            ∙ sym (branch_right c l r b p.leaf n (all_keys p) k ∙ cond-true _ _ _ (eq-eqb n (2 * b + size l) (is ∙ ap (λ m. 2 * b + m) (sym s))))
      ]

  left_key : (h b : ℕ) (t : Term) (key : Option (List ℕ)) → is_perfect (suc h) t ≡ true → (n ≡ 2 * b + (2 * 2 ^ h - 1) → ⊥) → p.leaf < b + 2 ^ h → IsKeyOf h b p n key → key ≡ key_of b t p n
  unfolding is_perfect
  left_key h b (Leaf v) key e ne lt rec = absurd (true≢false (sym e))
  left_key h b (Branch c l r) key e ne lt rec =
      let q = and_parts (is_perfect h l) (is_perfect h r) e in
      let w : width l ≡ 2 ^ h = width-perfect h l q.0 in
      let s : size l ≡ 2 * 2 ^ h - 1 = omega (arith, size-width l) in
      rec l q.0 ∙ sym (branch_left c l r b p.leaf n (all_keys p) (omega arith) ∙ cond-false _ _ _ (ne_eqb n (2 * b + size l) (λ z. ne (z ∙ ap (λ m. 2 * b + m) s))))

  right_key : (h b : ℕ) (t : Term) (key : Option (List ℕ)) → is_perfect (suc h) t ≡ true → (n ≡ 2 * b + (2 * 2 ^ h - 1) → ⊥) → b + 2 ^ h ≤ p.leaf → IsKeyOf h (b + 2 ^ h) p n key → key ≡ key_of b t p n
  unfolding is_perfect
  right_key h b (Leaf v) key e ne ge rec = absurd (true≢false (sym e))
  right_key h b (Branch c l r) key e ne ge rec =
      let q = and_parts (is_perfect h l) (is_perfect h r) e in
      let w : width l ≡ 2 ^ h = width-perfect h l q.0 in
      let s : size l ≡ 2 * 2 ^ h - 1 = omega (arith, size-width l) in
      rec r q.1
      ∙ ap (λ m. key_of (b + m) r p n) (sym w)
      ∙ sym (branch_right c l r b p.leaf n (all_keys p) (omega arith) ∙ cond-false _ _ _ (ne_eqb n (2 * b + size l) (λ z. ne (z ∙ ap (λ m. 2 * b + m) s))))

  -- at the height of a side, and one more
  module _ (h b : ℕ) (high : h ≡ 0 → ⊥) (w : ℕ) (side : w ≡ 2 ^ (h - 1)) where
    more : suc (h - 1) ≡ h
    more = omega arith

    pub key_at_top : n ≡ 2 * b + (2 * w - 1) → IsKeyOf h b p n (key_above h (all_keys p))
    key_at_top is t perfect =
        ap (λ m. key_above m (all_keys p)) (sym more)
        ∙ top_key (h - 1) b t (ap (λ m. is_perfect m t) more ∙ perfect) (is ∙ ap (λ m. 2 * b + (2 * m - 1)) side)

    pub key_on_left : (key : Option (List ℕ)) → (n ≡ 2 * b + (2 * w - 1) → ⊥) → p.leaf < b + w → IsKeyOf (h - 1) b p n key → IsKeyOf h b p n key
    key_on_left key ne lt rec t perfect =
        left_key (h - 1) b t key (ap (λ m. is_perfect m t) more ∙ perfect) (λ e. ne (e ∙ ap (λ m. 2 * b + (2 * m - 1)) (sym side))) (subst (λ m. p.leaf < b + m) side lt) rec

    pub key_on_right : (key : Option (List ℕ)) → (n ≡ 2 * b + (2 * w - 1) → ⊥) → b + w ≤ p.leaf → IsKeyOf (h - 1) (b + w) p n key → IsKeyOf h b p n key
    key_on_right key ne ge rec t perfect =
        right_key (h - 1) b t key (ap (λ m. is_perfect m t) more ∙ perfect) (λ e. ne (e ∙ ap (λ m. 2 * b + (2 * m - 1)) (sym side))) (subst (λ m. b + m ≤ p.leaf) side ge)
        (subst (λ m. IsKeyOf (h - 1) (b + m) p n key) side rec)

-- ---- a ciphertext

secret_none : (c : Crypto) (context k : List ℕ) (x : HpkeCiphertext) → unseal_secret c context k x ≡ None → secret_in c context k x ≡ Err 32
secret_none c context k x e = ap (λ o. require_some 32 o >>= secret_of) e

secret_some : (c : Crypto) (context k : List ℕ) (x : HpkeCiphertext) (bytes : List ℕ) → unseal_secret c context k x ≡ Some bytes → secret_in c context k x ≡ secret_of bytes
secret_some c context k x bytes e = ap (λ o. require_some 32 o >>= secret_of) e

module _ {A : Type 0} (f : A → List ℕ) (c : Crypto) (context k : List ℕ) (x : HpkeCiphertext) (kem ct : List ℕ) (o : Option A) (is_kem : kem ≡ x.kem_output) (is_ct : ct ≡ x.ciphertext) (opened : option_map f o ≡ decrypt_with_label c k (codes "UpdatePathNode") context kem ct) where
  unsealed_is : unseal_secret c context k x ≡ option_map f o
  unfolding unseal_secret
  unsealed_is = ap₂ (λ a b. decrypt_with_label c k (codes "UpdatePathNode") context a b) (sym is_kem) (sym is_ct) ∙ sym opened

  pub opens_none : o ≡ None → secret_in c context k x ≡ Err 32
  opens_none e = secret_none c context k x (unsealed_is ∙ ap (option_map f) e)

  pub opens_some : (y : A) → o ≡ Some y → secret_in c context k x ≡ secret_of (f y)
  opens_some y e = secret_some c context k x (f y) (unsealed_is ∙ ap (option_map f) e)

-- ---- the first node whose key is held

no_ciphertexts : (c : Crypto) (context : List ℕ) (f : ℕ → Option (List ℕ)) (ds : List ℕ) → open_first c context f ds [] ≡ Err 32
unfolding open_first
no_ciphertexts c context f [] = refl
no_ciphertexts c context f (d ∷ ds) = refl

module _ (c : Crypto) (context : List ℕ) (f : ℕ → Option (List ℕ)) (us : List ℕ) (d : ℕ) (ds : List ℕ) where
  pub first_added : (xs : List HpkeCiphertext) → has (leaf_numbers us) d ≡ true → open_first c context f (less (leaf_numbers us) (d ∷ ds)) xs ≡ open_first c context f (less (leaf_numbers us) ds) xs
  first_added xs e = rw e refl

  kept : has (leaf_numbers us) d ≡ false → less (leaf_numbers us) (d ∷ ds) ≡ d ∷ less (leaf_numbers us) ds
  kept e = rw e refl

  pub first_missing : (xs : List HpkeCiphertext) → has (leaf_numbers us) d ≡ false → xs ≡ [] → open_first c context f (less (leaf_numbers us) (d ∷ ds)) xs ≡ Err 32
  unfolding open_first
  first_missing xs e none = ap₂ (λ ns ys. open_first c context f ns ys) (kept e) none

  pub first_held : (xs : List HpkeCiphertext) (x : HpkeCiphertext) (ys : List HpkeCiphertext) (k : List ℕ) → has (leaf_numbers us) d ≡ false → xs ≡ x ∷ ys → f d ≡ Some k → open_first c context f (less (leaf_numbers us) (d ∷ ds)) xs ≡ secret_in c context k x
  unfolding open_first
  first_held xs x ys k e is key = ap₂ (λ ns zs. open_first c context f ns zs) (kept e) is ∙ rw key refl

  pub first_other : (xs : List HpkeCiphertext) → has (leaf_numbers us) d ≡ false → f d ≡ None → open_first c context f (less (leaf_numbers us) (d ∷ ds)) xs ≡ open_first c context f (less (leaf_numbers us) ds) (drop 1 xs)
  unfolding open_first
  first_other [] e key = ap (λ ns. open_first c context f ns []) (kept e) ∙ sym (no_ciphertexts c context f (less (leaf_numbers us) ds))
  first_other (x ∷ xs) e key = ap (λ ns. open_first c context f ns (x ∷ xs)) (kept e) ∙ rw key refl

pub first_none : (c : Crypto) (context : List ℕ) (f : ℕ → Option (List ℕ)) (xs : List HpkeCiphertext) → open_first c context f [] xs ≡ Err 32
unfolding open_first
first_none c context f xs = refl

-- from some node on, with the ciphertexts that are left, the same is opened as from the first
abbrev pub SameFirst : Crypto → List ℕ → ℕ → ℕ → PrivateKeys → List ℕ → List ℕ → List HpkeCiphertext → ℕ → List HpkeCiphertext → Type 0
SameFirst c context h b p added nodes xs n ys =
    (t : Term) → is_perfect h t ≡ true → open_first c context (key_of b t p) (less (leaf_numbers added) nodes) xs ≡ open_first c context (key_of b t p) (less (leaf_numbers added) (drop n nodes)) ys

module _ (c : Crypto) (context : List ℕ) (h b : ℕ) (p : PrivateKeys) (added nodes : List ℕ) (xs : List HpkeCiphertext) (n : ℕ) (ys : List HpkeCiphertext) (same : SameFirst c context h b p added nodes xs n ys) where
  pub same_end : length nodes ≤ n → (t : Term) → is_perfect h t ≡ true → open_first c context (key_of b t p) (less (leaf_numbers added) nodes) xs ≡ Err 32
  same_end ge t e =
      same t e
      ∙ ap (λ ds. open_first c context (key_of b t p) (less (leaf_numbers added) ds) ys) (drop_all n nodes ge)
      ∙ first_none c context (key_of b t p) ys

  module _ (lt : n < length nodes) where
    at_node : drop n nodes ≡ get_or nodes n 0 ∷ drop (n + 1) nodes
    at_node = drop-cons nodes n 0 lt ∙ ap (λ m. get_or nodes n 0 ∷ drop m nodes) (let z : suc n ≡ n + 1 = omega arith in z)

    here : (t : Term) → is_perfect h t ≡ true → open_first c context (key_of b t p) (less (leaf_numbers added) nodes) xs ≡ open_first c context (key_of b t p) (less (leaf_numbers added) (get_or nodes n 0 ∷ drop (n + 1) nodes)) ys
    here t e = same t e ∙ ap (λ ds. open_first c context (key_of b t p) (less (leaf_numbers added) ds) ys) at_node

    pub same_added : has (leaf_numbers added) (get_or nodes n 0) ≡ true → SameFirst c context h b p added nodes xs (n + 1) ys
    same_added is t e = here t e ∙ first_added c context (key_of b t p) added (get_or nodes n 0) (drop (n + 1) nodes) ys is

    pub same_other : (key : Option (List ℕ)) → has (leaf_numbers added) (get_or nodes n 0) ≡ false → IsKeyOf h b p (get_or nodes n 0) key → key ≡ None → SameFirst c context h b p added nodes xs (n + 1) (drop 1 ys)
    same_other key isnt is none t e = here t e ∙ first_other c context (key_of b t p) added (get_or nodes n 0) (drop (n + 1) nodes) ys isnt (sym (is t e) ∙ none)

    pub same_missing : has (leaf_numbers added) (get_or nodes n 0) ≡ false → ys ≡ [] → (t : Term) → is_perfect h t ≡ true → open_first c context (key_of b t p) (less (leaf_numbers added) nodes) xs ≡ Err 32
    same_missing isnt none t e = here t e ∙ first_missing c context (key_of b t p) added (get_or nodes n 0) (drop (n + 1) nodes) ys isnt none

    pub same_held : (x : HpkeCiphertext) (zs : List HpkeCiphertext) (key : Option (List ℕ)) (k : List ℕ) → has (leaf_numbers added) (get_or nodes n 0) ≡ false → ys ≡ x ∷ zs → IsKeyOf h b p (get_or nodes n 0) key → key ≡ Some k → (t : Term) → is_perfect h t ≡ true → open_first c context (key_of b t p) (less (leaf_numbers added) nodes) xs ≡ secret_in c context k x
    same_held x zs key k isnt split is held t e = here t e ∙ first_held c context (key_of b t p) added (get_or nodes n 0) (drop (n + 1) nodes) ys x zs k isnt split (sym (is t e) ∙ held)

-- ---- the ciphertext with a number

pub from_number : (xs : List HpkeCiphertext) (m : ℕ) (x : HpkeCiphertext) → slice_get xs m ≡ Some x → drop m xs ≡ x ∷ drop 1 (drop m xs)
from_number [] zero x e = absurd cc
from_number [] (suc m) x e = absurd cc
from_number (y ∷ ys) zero x e = let same : y ≡ x = cc in ap (λ (z : HpkeCiphertext). z ∷ ys) same
from_number (y ∷ ys) (suc m) x e = from_number ys m x e

pub none_from : (xs : List HpkeCiphertext) (m : ℕ) → slice_get xs m ≡ None → drop m xs ≡ []
none_from [] zero e = refl
none_from [] (suc m) e = refl
none_from (y ∷ ys) zero e = absurd cc
none_from (y ∷ ys) (suc m) e = none_from ys m e

-- what is lent with a number
pub lent_is : (o : Option CiphertextRef) (xs : List HpkeCiphertext) (m : ℕ) (x : CiphertextRef) → option_map ciphertext_lent o ≡ slice_get xs m → o ≡ Some x → slice_get xs m ≡ Some (ciphertext_lent x)
lent_is o xs m x e is = sym e ∙ ap (option_map ciphertext_lent) is

pub lent_none : (o : Option CiphertextRef) (xs : List HpkeCiphertext) (m : ℕ) → option_map ciphertext_lent o ≡ slice_get xs m → o ≡ None → slice_get xs m ≡ None
lent_none o xs m e is = sym e ∙ ap (option_map ciphertext_lent) is

-- ---- keys by their height

pub keys_none : (p : PrivateKeys) (xs : Keys) → xs ≡ [] → AreKeysUpTo 0 p xs
unfolding keys_on_way
keys_none p xs e [] low = ap (λ z. reverse z ++ (Some p.own ∷ [])) e ∙ ap (λ o. o ∷ []) (sym (own_above p.above (Some p.own)))
keys_none p xs e (s ∷ ss) low = absurd (omega arith)

pub keys_more : (n : ℕ) (p : PrivateKeys) (xs ys : Keys) (key : Option (List ℕ)) → AreKeysUpTo n p xs → key ≡ key_above (n + 1) (all_keys p) → ys ≡ xs ++ (key ∷ []) → AreKeysUpTo (n + 1) p ys
unfolding keys_on_way
keys_more n p xs ys key rec is pushed [] low = absurd (omega arith)
keys_more n p xs ys key rec is pushed (s ∷ ss) low =
    let k : length ss ≡ n = omega arith in
    ap (λ z. reverse z ++ (Some p.own ∷ [])) pushed
    ∙ ap (λ z. z ++ (Some p.own ∷ [])) (reverse-end xs key)
    ∙ ap₂ (λ o zs. o ∷ zs) (is ∙ ap (λ m. key_above m (all_keys p)) (let z : n + 1 ≡ suc (length ss) = omega arith in z)) (rec ss k)

pub same_height : (n h : ℕ) (p : PrivateKeys) (xs : Keys) → n ≡ h → AreKeysUpTo n p xs → AreKeysUpTo h p xs
same_height n h p xs e k ss long = k ss (long ∙ sym e)

-- ---- at a place

module _ (t : Term) (h : ℕ) (q : Place) (at : IsPlaced t h q) where
  pub beside_is : (j : ℕ) → (nat_le q.first j && nat_lt j (q.first + q.leaves)) ≡ is_beside (step_of t q) j
  unfolding step_of
  beside_is j = ap (λ w. nat_le q.first j && nat_lt j (q.first + w)) (at.leaves ∙ sym (width-perfect h (subtree_at t q.beside) at.perfect))

  pub filtered_is : not (is_empty (resolution_at 0 t q.beside)) ≡ is_filtered (step_of t q)
  unfolding step_of
  filtered_is = ap (λ xs. not (is_empty xs)) at.resolved

-- ---- where the ways part

abbrev keep : Keys → List ℕ → Result Climb ℕ
keep ks secret = Ok (record { secret = secret; keys = ks })

module _ (c : Crypto) (context : List ℕ) (added : List ℕ) (t : Term) (h : ℕ) (q : Place) (at : IsPlaced t h q) (p : PrivateKeys) (ss : List Step) (long : length ss ≡ h) where
  keys_are : keys_on_way (way q.first (subtree_at t q.beside) p.leaf) (all_keys p) ≡ keys_on_way ss (all_keys p)
  keys_are = same_length (way q.first (subtree_at t q.beside) p.leaf) ss (all_keys p) (way_height h q.first (subtree_at t q.beside) p.leaf at.perfect ∙ sym long)

  -- what the first ciphertexts give
  first_here : (nodes : List ℕ) (ns : List UpdatePathNode) (xs : List HpkeCiphertext) → nodes ≡ resolution_at 0 t q.beside → first_ciphertexts ns ≡ xs →
      open_at_ancestor c context added (step_of t q) p.leaf (keys_on_way ss (all_keys p)) ns
      ≡ (open_first c context (key_of q.first (subtree_at t q.beside) p) (less (leaf_numbers added) nodes) xs >>= keep (keys_on_way ss (all_keys p)))
  unfolding step_of targets
  first_here nodes ns xs is ciphertexts =
      ap₂ (λ ys zs. open_first c context (λ n. key_in q.first (subtree_at t q.beside) p.leaf (keys_on_way ss (all_keys p)) n) (less (leaf_numbers added) ys) zs >>= keep (keys_on_way ss (all_keys p)))
      (sym (is ∙ at.resolved)) ciphertexts
      ∙ ap (λ zs. open_first c context (λ n. key_in q.first (subtree_at t q.beside) p.leaf zs n) (less (leaf_numbers added) nodes) xs >>= keep (keys_on_way ss (all_keys p))) (sym keys_are)

  pub here_ok : (nodes : List ℕ) (ns : List UpdatePathNode) (xs : List HpkeCiphertext) (secret : List ℕ) (above : Keys) → nodes ≡ resolution_at 0 t q.beside → first_ciphertexts ns ≡ xs →
      open_first c context (key_of q.first (subtree_at t q.beside) p) (less (leaf_numbers added) nodes) xs ≡ Ok secret → AreKeysUpTo h p above →
      open_at_ancestor c context added (step_of t q) p.leaf (keys_on_way ss (all_keys p)) ns ≡ keep (reverse above ++ (Some p.own ∷ [])) secret
  here_ok nodes ns xs secret above is ciphertexts opened keys =
      first_here nodes ns xs is ciphertexts
      ∙ ap (λ r. r >>= keep (keys_on_way ss (all_keys p))) opened
      ∙ ap (λ zs. keep zs secret) (sym (keys ss long))

  pub here_err : (nodes : List ℕ) (ns : List UpdatePathNode) (xs : List HpkeCiphertext) (e : ℕ) → nodes ≡ resolution_at 0 t q.beside → first_ciphertexts ns ≡ xs →
      open_first c context (key_of q.first (subtree_at t q.beside) p) (less (leaf_numbers added) nodes) xs ≡ Err e →
      open_at_ancestor c context added (step_of t q) p.leaf (keys_on_way ss (all_keys p)) ns ≡ Err e
  here_err nodes ns xs e is ciphertexts refused =
      first_here nodes ns xs is ciphertexts ∙ ap (λ r. r >>= keep (keys_on_way ss (all_keys p))) refused

  pub here_missing : (path : List UpdatePathNode) → path ≡ [] → open_at_ancestor c context added (step_of t q) p.leaf (keys_on_way ss (all_keys p)) (reverse path) ≡ Err 32
  here_missing path e =
      here_err (resolution_at 0 t q.beside) (reverse path) [] 32 refl (ap (λ ns. first_ciphertexts (reverse ns)) e)
      (no_ciphertexts c context (key_of q.first (subtree_at t q.beside) p) (less (leaf_numbers added) (resolution_at 0 t q.beside)))

pub last_first : (path below : List UpdatePathNode) (n : UpdatePathNode) → path ≡ below ++ (n ∷ []) → reverse path ≡ n ∷ reverse below
last_first path below n e = ap reverse e ∙ reverse-end below n

-- ---- past a parent, with the leaf's key

past_own : (c : Crypto) (own : List ℕ) (b : Bool) (ns : List UpdatePathNode) (m : Climb) → climb_past_parent c b ns (with_own own m) ≡ (climb_past_parent c b ns m >>= λ z. Ok (with_own own z))
past_own c own false ns m = refl
past_own c own true [] m = refl
past_own c own true (n ∷ ns) m = by_test (bytes_eq (node_public c m.secret) n.encryption_key)
  where
    by_test : (t : Bool) →
        if◌then◌else◌ {A = Result Climb ℕ} t (Ok (record { secret = next_secret m.secret; keys = Some (node_key c m.secret) ∷ (m.keys ++ (Some own ∷ [])) })) (Err 34)
        ≡ (if◌then◌else◌ {A = Result Climb ℕ} t (Ok (climb_past_node c m)) (Err 34) >>= λ z. Ok (with_own own z))
    by_test true = refl
    by_test false = refl

pub past_with_own : {E : Type 0} (number : E → ℕ) (c : Crypto) (own : List ℕ) (b : Bool) (ns : List UpdatePathNode) (m : Climb) (r : Result Climb E) →
    Answers (λ z. z) number (climb_past_parent c b ns m) r → Answers (λ z. with_own own z) number (climb_past_parent c b ns (with_own own m)) r
past_with_own number c own b ns m (Ok z) h = past_own c own b ns m ∙ ap (λ r. r >>= λ z. Ok (with_own own z)) h
past_with_own number c own b ns m (Err e) h = λ ne. past_own c own b ns m ∙ ap (λ r. r >>= λ z. Ok (with_own own z)) (h ne)

-- ---- along a way

module _ (c : Crypto) (context : List ℕ) (added : List ℕ) (s : Step) (ss : List Step) (j : ℕ) (ks : Keys) (ns : List UpdatePathNode) where
  along : climb_open c context added (s ∷ ss) j (keys_on_way (s ∷ ss) ks) ns
      ≡ ((if is_beside s j then open_at_ancestor c context added s j (keys_on_way ss ks) ns else climb_open c context added ss j (keys_on_way ss ks) (nodes_below (is_filtered s) ns)) >>= λ m. climb_past_parent c (is_filtered s) ns m)
  unfolding climb_open keys_on_way
  along = refl

  pub along_here : (r : Result Climb ℕ) → is_beside s j ≡ true → open_at_ancestor c context added s j (keys_on_way ss ks) ns ≡ r → climb_open c context added (s ∷ ss) j (keys_on_way (s ∷ ss) ks) ns ≡ (r >>= λ m. climb_past_parent c (is_filtered s) ns m)
  along_here r e h = along ∙ ap (λ z. z >>= λ m. climb_past_parent c (is_filtered s) ns m) (cond-true _ _ _ e ∙ h)

  pub along_below : (r : Result Climb ℕ) → is_beside s j ≡ false → climb_open c context added ss j (keys_on_way ss ks) (nodes_below (is_filtered s) ns) ≡ r → climb_open c context added (s ∷ ss) j (keys_on_way (s ∷ ss) ks) ns ≡ (r >>= λ m. climb_past_parent c (is_filtered s) ns m)
  along_below r e h = along ∙ ap (λ z. z >>= λ m. climb_past_parent c (is_filtered s) ns m) (cond-false _ _ _ e ∙ h)

pub is_beside_of : (first leaves l m : ℕ) (b : Bool) → l ≡ m → b ≡ (nat_le first l && nat_lt l (first + leaves)) → b ≡ (nat_le first m && nat_lt m (first + leaves))
is_beside_of first leaves l m b e h = subst (λ n. b ≡ (nat_le first n && nat_lt n (first + leaves))) e h

-- ---- along places

module _ (c : Crypto) (context : List ℕ) (added : List ℕ) (t : Term) (q : Place) (below ps : List Place) (split : ps ≡ q ∷ below) (at : IsPlaced t (length below) q) (p : PrivateKeys) (path : List UpdatePathNode) (flag : Bool) (flagged : flag ≡ not (is_empty (resolution_at 0 t q.beside))) (beside : Bool) (sided : beside ≡ (nat_le q.first p.leaf && nat_lt p.leaf (q.first + q.leaves))) where
  is_flag : flag ≡ is_filtered (step_of t q)
  is_flag = flagged ∙ filtered_is t (length below) q at

  is_side : is_beside (step_of t q) p.leaf ≡ beside
  is_side = sym (sided ∙ beside_is t (length below) q at p.leaf)

  over : climb_open c context added (map (step_of t) ps) p.leaf (keys_on_way (map (step_of t) ps) (all_keys p)) (reverse path) ≡ climb_open c context added (step_of t q ∷ map (step_of t) below) p.leaf (keys_on_way (step_of t q ∷ map (step_of t) below) (all_keys p)) (reverse path)
  over = ap (λ qs. climb_open c context added (map (step_of t) qs) p.leaf (keys_on_way (map (step_of t) qs) (all_keys p)) (reverse path)) split

  past : (m : Climb) (r : Result Climb TreeKemError) →
      climb_open c context added (step_of t q ∷ map (step_of t) below) p.leaf (keys_on_way (step_of t q ∷ map (step_of t) below) (all_keys p)) (reverse path) ≡ climb_past_parent c (is_filtered (step_of t q)) (reverse path) (with_own p.own m) →
      Answers (λ z. z) number_of (climb_past_parent c flag (reverse path) m) r → OpensAlong c context added (map (step_of t) ps) p path r
  past m r e h =
      answers_by (λ z. with_own p.own z) number_of _ _ r
      (ap (λ b. climb_past_parent c b (reverse path) (with_own p.own m)) is_flag ∙ sym (over ∙ e))
      (past_with_own number_of c p.own flag (reverse path) m r h)

  pub beside_ok : (m : Climb) (r : Result Climb TreeKemError) → beside ≡ true →
      open_at_ancestor c context added (step_of t q) p.leaf (keys_on_way (map (step_of t) below) (all_keys p)) (reverse path) ≡ Ok (with_own p.own m) →
      Answers (λ z. z) number_of (climb_past_parent c flag (reverse path) m) r → OpensAlong c context added (map (step_of t) ps) p path r
  beside_ok m r is opened h = past m r (along_here c context added (step_of t q) (map (step_of t) below) p.leaf (all_keys p) (reverse path) (Ok (with_own p.own m)) (is_side ∙ is) opened) h

  pub beside_err : (e : ℕ) → beside ≡ true →
      open_at_ancestor c context added (step_of t q) p.leaf (keys_on_way (map (step_of t) below) (all_keys p)) (reverse path) ≡ Err e →
      climb_open c context added (map (step_of t) ps) p.leaf (keys_on_way (map (step_of t) ps) (all_keys p)) (reverse path) ≡ Err e
  beside_err e is refused = over ∙ along_here c context added (step_of t q) (map (step_of t) below) p.leaf (all_keys p) (reverse path) (Err e) (is_side ∙ is) refused

  module _ (rest : List UpdatePathNode) (left : reverse rest ≡ nodes_below flag (reverse path)) where
    is_left : reverse rest ≡ nodes_below (is_filtered (step_of t q)) (reverse path)
    is_left = left ∙ ap (λ b. nodes_below b (reverse path)) is_flag

    pub other_ok : (m : Climb) (r : Result Climb TreeKemError) → beside ≡ false →
        climb_open c context added (map (step_of t) below) p.leaf (keys_on_way (map (step_of t) below) (all_keys p)) (reverse rest) ≡ Ok (with_own p.own m) →
        Answers (λ z. z) number_of (climb_past_parent c flag (reverse path) m) r → OpensAlong c context added (map (step_of t) ps) p path r
    other_ok m r is opened h =
        past m r
        (along_below c context added (step_of t q) (map (step_of t) below) p.leaf (all_keys p) (reverse path) (Ok (with_own p.own m)) (is_side ∙ is)
        (ap (λ ns. climb_open c context added (map (step_of t) below) p.leaf (keys_on_way (map (step_of t) below) (all_keys p)) ns) (sym is_left) ∙ opened))
        h

    pub other_err : (e : ℕ) → beside ≡ false →
        climb_open c context added (map (step_of t) below) p.leaf (keys_on_way (map (step_of t) below) (all_keys p)) (reverse rest) ≡ Err e →
        climb_open c context added (map (step_of t) ps) p.leaf (keys_on_way (map (step_of t) ps) (all_keys p)) (reverse path) ≡ Err e
    other_err e is refused =
        over
        ∙ along_below c context added (step_of t q) (map (step_of t) below) p.leaf (all_keys p) (reverse path) (Err e) (is_side ∙ is)
        (ap (λ ns. climb_open c context added (map (step_of t) below) p.leaf (keys_on_way (map (step_of t) below) (all_keys p)) ns) (sym is_left) ∙ refused)

pub along_none : (c : Crypto) (context : List ℕ) (added : List ℕ) (t : Term) (ps : List Place) (j : ℕ) (ks : Keys) (ns : List UpdatePathNode) → ps ≡ [] → climb_open c context added (map (step_of t) ps) j (keys_on_way (map (step_of t) ps) ks) ns ≡ Err 32
unfolding climb_open
along_none c context added t ps j ks ns e = ap (λ qs. climb_open c context added (map (step_of t) qs) j (keys_on_way (map (step_of t) qs) ks) ns) e

pub first_placed : (t : Term) (p : Place) (below ps : List Place) → ps ≡ p ∷ below → ArePlaced t ps → IsPlaced t (length below) p
unfolding ArePlaced
first_placed t p below ps e h = (subst (λ qs. ArePlaced t qs) e h).0

pub others_placed : (t : Term) (p : Place) (below ps : List Place) → ps ≡ p ∷ below → ArePlaced t ps → ArePlaced t below
unfolding ArePlaced
others_placed t p below ps e h = (subst (λ qs. ArePlaced t qs) e h).1

-- ---- as many keys as nodes

past_length : (c : Crypto) (b : Bool) (ns : List UpdatePathNode) (m m' : Climb) → climb_past_parent c b ns m ≡ Ok m' → length m'.keys ≡ suc (length m.keys)
past_length c false ns m m' e =
    let made : Climb = climb_past_blank m in
    let q : made ≡ m' = cc in
    sym (ap (λ (z : Climb). length z.keys) q)
past_length c true [] m m' e = cc
past_length c true (n ∷ ns) m m' e = by_test (bytes_eq (node_public c m.secret) n.encryption_key) e
  where
    by_test : (t : Bool) → if◌then◌else◌ {A = Result Climb ℕ} t (Ok (climb_past_node c m)) (Err 34) ≡ Ok m' → length m'.keys ≡ suc (length m.keys)
    by_test true e =
        let made : Climb = climb_past_node c m in
        let q : made ≡ m' = cc in
        sym (ap (λ (z : Climb). length z.keys) q)
    by_test false e = cc

pub climb_length : (c : Crypto) (context : List ℕ) (added : List ℕ) (ss : List Step) (j : ℕ) (ks : Keys) (ns : List UpdatePathNode) (m : Climb) → length ks ≡ suc (length ss) → climb_open c context added ss j ks ns ≡ Ok m → length m.keys ≡ suc (length ss)
unfolding climb_open
climb_length c context added [] j ks ns m long e = cc
climb_length c context added (s ∷ ss) j [] ns m long e = absurd (omega arith)
climb_length c context added (s ∷ ss) j (o ∷ ks) ns m long e =
    let b = bind_ok (if is_beside s j then open_at_ancestor c context added s j ks ns else climb_open c context added ss j ks (nodes_below (is_filtered s) ns)) (λ z. climb_past_parent c (is_filtered s) ns z) m e in
    past_length c (is_filtered s) ns b.0 m b.2 ∙ ap suc (by_side (is_beside s j) b.0 b.1 (climb_length c context added ss j ks (nodes_below (is_filtered s) ns) b.0 (omega arith)))
  where
    by_side : (t : Bool) (m0 : Climb) → (if t then open_at_ancestor c context added s j ks ns else climb_open c context added ss j ks (nodes_below (is_filtered s) ns)) ≡ Ok m0 →
        (climb_open c context added ss j ks (nodes_below (is_filtered s) ns) ≡ Ok m0 → length m0.keys ≡ suc (length ss)) → length m0.keys ≡ suc (length ss)
    by_side true m0 e rec =
        let b = bind_ok (open_first c context (key_in s.first s.other j ks) (targets added s) (first_ciphertexts ns)) (λ secret. Ok (record { secret = secret; keys = ks })) m0 e in
        let made : Climb = record { secret = b.0; keys = ks } in
        let same : made ≡ m0 = cc (b.2) in
        sym (ap (λ (z : Climb). length z.keys) same) ∙ omega arith
    by_side false m0 e rec = rec e

above_length : (c : Crypto) (context : List ℕ) (added : List ℕ) (t : Term) (ps : List Place) (p : PrivateKeys) (ns : List UpdatePathNode) (m : Climb) →
    climb_open c context added (map (step_of t) ps) p.leaf (keys_on_way (map (step_of t) ps) (all_keys p)) ns ≡ Ok (with_own p.own m) → length m.keys ≡ length ps
above_length c context added t ps p ns m e =
    let ss : List Step = map (step_of t) ps in
    let k = climb_length c context added ss p.leaf (keys_on_way ss (all_keys p)) ns (with_own p.own m) (length-keys_on_way ss (all_keys p)) e in
    omega (arith, k, length-end m.keys (Some p.own), length-map ps (step_of t))

pub above_low : (c : Crypto) (context : List ℕ) (added : List ℕ) (t : Term) (i : ℕ) (ps : List Place) (p : PrivateKeys) (ns : List UpdatePathNode) (m : Climb) → IsWay t i ps →
    climb_open c context added (map (step_of t) ps) p.leaf (keys_on_way (map (step_of t) ps) (all_keys p)) ns ≡ Ok (with_own p.own m) → length m.keys ≤ 32
above_low c context added t i ps p ns m w e = let l = w.low in omega (arith, above_length c context added t ps p ns m e)

-- ---- the whole path

pub opened_is : (c : Crypto) (context : List ℕ) (added : List ℕ) (t : Term) (h i : ℕ) (ps : List Place) (p : PrivateKeys) (path : List UpdatePathNode) → is_perfect h t ≡ true → IsWay t i ps →
    climb_open c context added (map (step_of t) ps) p.leaf (keys_on_way (map (step_of t) ps) (all_keys p)) (reverse path) ≡ opened_path c context added t i p.leaf (keys_on t p) path
unfolding opened_path
opened_is c context added t h i ps p path perfect w =
    ap (λ ss. climb_open c context added ss p.leaf (keys_on_way ss (all_keys p)) (reverse path)) w.steps
    ∙ ap (λ ks. climb_open c context added (way 0 t i) p.leaf ks (reverse path)) (same_length (way 0 t i) (way 0 t p.leaf) (all_keys p) (way_height h 0 t i perfect ∙ sym (way_height h 0 t p.leaf perfect)))

-- The members of a tree as a list, and values that stand once in one.
use Rattle.std.proofs.Common.{◌≡◌, ℕ, ◌+◌, ◌<◌, ◌≤◌, ◌==◌, Bool, true, false, List, [], ◌∷◌, map, Option, Some, None, refl, sym, ap, ap₂, ◌∙◌, inl, inr, arith, eqb-true, subst}
use Rattle.std.specs.Prelude.{◌≢◌}
use Rattle.std.specs.Str.{bytes_eq}
use Rattle.std.proofs.lemmas.Bool.{cases_lt, and_parts}
use Rattle.std.proofs.lemmas.Slice.Eq.{bytes_eq-Decides}
use Rattle.mls_leaf.specs.declared.leaf.LeafNode.{LeafNode}
use Rattle.mls_tree_model.proofs.Equations.{leaf_at_left, leaf_at_right, leaf_of_in}
use Rattle.mls_tree_model.specs.Good.{has_distinct_clients}
use Rattle.mls_tree_model.proofs.ClientLaws.{one_client}
use Rattle.mls_tree_model.specs.Keys.{members}
use Rattle.mls_tree_model.specs.Sets.{same_bytes, count, is_distinct}
use Rattle.mls_tree_model.specs.Term.{Term, Leaf, Branch, width, leaf_at, leaf_of}
use Rattle.mls_tree_model.proofs.MergeLaws.{bytes_refl}
use Rattle.mls_theorems.proofs.One.{IsOneOf, one_left, one_right, one_parted}
use Rattle.mls_theorems.proofs.Sent.{leaf_is_in}

-- ---- what stands at a place is among the members

here_by : (b : ℕ) (v : Option LeafNode) (i : ℕ) (x : LeafNode) → i ≡ b → v ≡ Some x → IsOneOf (i, x) (members b (Leaf v))
unfolding members IsOneOf
here_by b None i x at is = absurd cc
here_by b (Some v) i x at is = inl (ap₂ (λ (n : ℕ) (y : LeafNode). (n, y)) (sym at) (let e : v ≡ x = cc in e))

pub member_in : (b : ℕ) (t : Term) (i : ℕ) (x : LeafNode) → b ≤ i → i < b + width t → leaf_at b t i ≡ Some x → IsOneOf (i, x) (members b t)
unfolding leaf_at members width
member_in b (Leaf v) i x low high is = here_by b v i x (omega arith) is
member_in b (Branch c l r) i x low high is = elim (cases_lt i (b + width l)) [
  | inl lt ↦ one_left (i, x) (members b l) (members (b + width l) r) (member_in b l i x low lt (sym (leaf_at_left b c l r i lt) ∙ is))
  | inr ge ↦ one_right (i, x) (members b l) (members (b + width l) r) (member_in (b + width l) r i x ge (omega arith) (sym (leaf_at_right b c l r i ge) ∙ is))
]

pub is_member : (t : Term) (i : ℕ) (x : LeafNode) → leaf_of t i ≡ Some x → IsOneOf (i, x) (members 0 t)
is_member t i x is = let at = leaf_is_in t i x is in let low = at.0 in member_in 0 t i x (omega arith) (omega arith) at.1

-- and who is among them stands there
pub record StandsAt (b : ℕ) (t : Term) (q : ℕ × LeafNode) : Type 0 where
  pub low : b ≤ q.0
  pub high : q.0 < b + width t
  pub is : leaf_at b t q.0 ≡ Some q.1

stands_by : (b : ℕ) (v : Option LeafNode) (q : ℕ × LeafNode) → IsOneOf q (members b (Leaf v)) → StandsAt b (Leaf v) q
unfolding members IsOneOf leaf_at width
stands_by b None q is = absurd is
stands_by b (Some x) q (inl e) = subst (StandsAt b (Leaf (Some x))) e (record { low = omega arith; high = omega arith; is = refl })
stands_by b (Some x) q (inr is) = absurd is

pub member_stands : (b : ℕ) (t : Term) (q : ℕ × LeafNode) → IsOneOf q (members b t) → StandsAt b t q
unfolding members width
member_stands b (Leaf v) q is = stands_by b v q is
member_stands b (Branch c l r) q is = elim (one_parted q (members b l) (members (b + width l) r) is) [
  | inl a ↦
      let s = member_stands b l q a in
      let lt : q.0 < b + width l = s.high in
      record { low = s.low; high = omega arith; is = leaf_at_left b c l r q.0 lt ∙ s.is }
  | inr a ↦
      let s = member_stands (b + width l) r q a in
      let ge : b + width l ≤ q.0 = s.low in
      record { low = omega arith; high = omega (arith, s.high); is = leaf_at_right b c l r q.0 ge ∙ s.is }
]

pub stands_in : (t : Term) (q : ℕ × LeafNode) → IsOneOf q (members 0 t) → leaf_of t q.0 ≡ Some q.1
stands_in t q is = let s = member_stands 0 t q is in leaf_of_in t q.0 (omega (arith, s.high)) ∙ s.is

-- ---- a value of a list is counted

count_here : (x y : List ℕ) (xs : List (List ℕ)) → x ≡ y → 0 < count same_bytes y (x ∷ xs)
unfolding count
count_here x y xs e = let s : same_bytes x y ≡ true = subst (λ (z : List ℕ). same_bytes x z ≡ true) e (bytes_refl x) in rw s (omega arith)

count_there : (x y : List ℕ) (xs : List (List ℕ)) → 0 < count same_bytes y xs → 0 < count same_bytes y (x ∷ xs)
unfolding count
count_there x y xs lt = omega arith

pub counted : {A : Type 0} (f : A → List ℕ) (y : List ℕ) (xs : List A) (q : A) → IsOneOf q xs → f q ≡ y → 0 < count same_bytes y (map f xs)
unfolding IsOneOf
counted f y [] q is e = absurd is
counted f y (x ∷ xs) q (inl same) e = count_here (f x) y (map f xs) (ap f same ∙ e)
counted f y (x ∷ xs) q (inr is) e = count_there (f x) y (map f xs) (counted f y xs q is e)

-- so what is distinct has no other of its kind
pub no_other : {A : Type 0} (f : A → List ℕ) (x : A) (xs : List A) (q : A) → is_distinct same_bytes (map f (x ∷ xs)) ≡ true → IsOneOf q xs → f q ≡ f x → ⊥
unfolding is_distinct
no_other f x xs q d is e =
    let p = and_parts (count same_bytes (f x) (map f xs) == 0) (is_distinct same_bytes (map f xs)) d in
    let none = eqb-true _ _ p.0 in
    let some = counted f (f x) xs q is e in
    omega arith

pub distinct_rest : {A : Type 0} (f : A → List ℕ) (x : A) (xs : List A) → is_distinct same_bytes (map f (x ∷ xs)) ≡ true → is_distinct same_bytes (map f xs) ≡ true
unfolding is_distinct
distinct_rest f x xs d = (and_parts (count same_bytes (f x) (map f xs) == 0) (is_distinct same_bytes (map f xs)) d).1

-- ---- clients

-- members at two leaves have two signature keys
apart_by : (b : Bool) (x y : List ℕ) → bytes_eq x y ≡ b → (x ≡ y → ⊥) → b ≡ false
apart_by true x y e ne = absurd (ne ((bytes_eq-Decides x y).0 e))
apart_by false x y e ne = refl

pub clients_apart : (t : Term) (i j : ℕ) (x y : LeafNode) → has_distinct_clients t ≡ true → leaf_of t i ≡ Some x → leaf_of t j ≡ Some y → i ≢ j → bytes_eq x.signature_key y.signature_key ≡ false
clients_apart t i j x y d a b ne =
    apart_by _ x.signature_key y.signature_key refl (λ e. ne (one_client t i j x y d a b e))

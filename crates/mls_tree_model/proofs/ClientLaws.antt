-- Members, one by one: what all pass each passes, and clients by their signature keys.
use Rattle.std.proofs.Common.{◌≡◌, ℕ, ◌+◌, ◌<◌, ◌≤◌, Bool, true, List, [], ◌∷◌, ◌++◌, Option, Some, refl, sym, ◌∙◌, ap, subst, arith, inl, inr}
use Rattle.std.proofs.lemmas.Bool.{and_parts, cases_lt}
use Rattle.mls_leaf.specs.Parent.{Parent}
use Rattle.mls_leaf.specs.declared.leaf.LeafNode.{LeafNode}
use Rattle.mls_tree_model.specs.Term.{Term, Leaf, Branch, width, leaf_at, leaf_of}
use Rattle.mls_tree_model.specs.Sets.{same_bytes, count, is_distinct}
use Rattle.mls_tree_model.specs.Merge.{merge, merge_path}
use Rattle.mls_tree_model.specs.Keys.{gather, leaf_signature, signature_keys, passes, all_members}
use Rattle.mls_tree_model.specs.Good.{has_distinct_clients}
use Rattle.mls_tree_model.proofs.Equations.{leaf_at_left, leaf_at_right, leaf_at_leaf, merge_left, merge_right, all_members_leaf, all_members_branch}
use Rattle.mls_tree_model.proofs.MergeLaws.{bytes_refl}
use Rattle.mls_tree_model.proofs.CountLaws.{bytes_true, distinct_at, count-append}
use Rattle.mls_tree_model.proofs.TakenLaws.{Taken, taken_at}

-- ---- what all members pass

pub member_passes : (p : ℕ → LeafNode → Bool) (b : ℕ) (t : Term) (j : ℕ) (x : LeafNode) → all_members p b t ≡ true → b ≤ j → j < b + width t → leaf_at b t j ≡ Some x → p j x ≡ true
unfolding width
member_passes p b (Leaf v) j x h low high is =
    let here : b ≡ j = omega arith in
    sym (ap (λ i. p i x) here) ∙ (sym (all_members_leaf p b v ∙ ap (passes p b) (sym (leaf_at_leaf b v j) ∙ is)) ∙ h)
member_passes p b (Branch c l r) j x h low high is =
    let parts = and_parts (all_members p b l) (all_members p (b + width l) r) (sym (all_members_branch b c l r p) ∙ h) in
    elim (cases_lt j (b + width l)) [
      | inl lt ↦ member_passes p b l j x parts.0 low lt (sym (leaf_at_left b c l r j lt) ∙ is)
      | inr ge ↦ member_passes p (b + width l) r j x parts.1 ge (omega arith) (sym (leaf_at_right b c l r j ge) ∙ is)
    ]

-- ---- a path that keeps the signature key of its leaf keeps all of them

clients_leaf : (b : ℕ) (v : Option LeafNode) (i : ℕ) (ks : List (List ℕ)) (h : List ℕ) (x old : LeafNode) → leaf_at b (Leaf v) i ≡ Some old → x.signature_key ≡ old.signature_key → signature_keys (merge b (Leaf v) i ks h x) ≡ signature_keys (Leaf v)
unfolding merge gather leaf_at
clients_leaf b v i ks h x old is same = ap (λ y. y ∷ []) same ∙ sym (ap leaf_signature is)

pub clients-merge : (b : ℕ) (t : Term) (i : ℕ) (ks : List (List ℕ)) (h : List ℕ) (x old : LeafNode) → leaf_at b t i ≡ Some old → x.signature_key ≡ old.signature_key → signature_keys (merge b t i ks h x) ≡ signature_keys t
unfolding gather
clients-merge b (Leaf v) i ks h x old is same = clients_leaf b v i ks h x old is same
clients-merge b (Branch c l r) i ks h x old is same =
    elim (cases_lt i (b + width l)) [
      | inl lt ↦ rw (merge_left b c l r i ks h x lt) (
          ap (λ ys. ys ++ gather leaf_signature (λ c. []) r) (clients-merge b l i _ _ x old (sym (leaf_at_left b c l r i lt) ∙ is) same))
      | inr ge ↦ rw (merge_right b c l r i ks h x ge) (
          ap (λ ys. gather leaf_signature (λ c. []) l ++ ys) (clients-merge (b + width l) r i _ _ x old (sym (leaf_at_right b c l r i ge) ∙ is) same))
    ]

pub clients-merge_path : (t : Term) (i : ℕ) (x old : LeafNode) (keys : List (List ℕ)) → leaf_of t i ≡ Some old → x.signature_key ≡ old.signature_key → signature_keys (merge_path t i x keys) ≡ signature_keys t
unfolding merge_path
clients-merge_path t i x old keys is same = let at = taken_at t i old is in clients-merge 0 t i _ [] x old at.leaf same

pub distinct_clients-merge_path : (t : Term) (i : ℕ) (x old : LeafNode) (keys : List (List ℕ)) → leaf_of t i ≡ Some old → x.signature_key ≡ old.signature_key → has_distinct_clients (merge_path t i x keys) ≡ has_distinct_clients t
unfolding has_distinct_clients
distinct_clients-merge_path t i x old keys is same = ap (is_distinct same_bytes) (clients-merge_path t i x old keys is same)

-- ---- one signature key, one leaf

count-branch : (key : List ℕ) (c : Option Parent) (l r : Term) → count same_bytes key (signature_keys (Branch c l r)) ≡ count same_bytes key (signature_keys l) + count same_bytes key (signature_keys r)
unfolding gather
count-branch key c l r = count-append same_bytes key (signature_keys l) (signature_keys r)

count-leaf : (x : LeafNode) → count same_bytes x.signature_key (signature_keys (Leaf (Some x))) ≡ 1
unfolding gather count
count-leaf x = rw (bytes_refl x.signature_key) refl

-- a member's key stands in the list
signs : (b : ℕ) (t : Term) (j : ℕ) (x : LeafNode) → leaf_at b t j ≡ Some x → 1 ≤ count same_bytes x.signature_key (signature_keys t)
signs b (Leaf v) j x is =
    let at : v ≡ Some x = sym (leaf_at_leaf b v j) ∙ is in
    let one : count same_bytes x.signature_key (signature_keys (Leaf v)) ≡ 1 = ap (λ w. count same_bytes x.signature_key (signature_keys (Leaf w))) at ∙ count-leaf x in
    omega arith
signs b (Branch c l r) j x is =
    let sum = count-branch x.signature_key c l r in
    elim (cases_lt j (b + width l)) [
      | inl lt ↦ let one = signs b l j x (sym (leaf_at_left b c l r j lt) ∙ is) in omega arith
      | inr ge ↦ let one = signs (b + width l) r j x (sym (leaf_at_right b c l r j ge) ∙ is) in omega arith
    ]

-- and that of two leaves stands in it twice
both_sign : (b : ℕ) (t : Term) (i j : ℕ) (x y : LeafNode) → b ≤ i → i < j → j < b + width t → leaf_at b t i ≡ Some x → leaf_at b t j ≡ Some y → x.signature_key ≡ y.signature_key → 2 ≤ count same_bytes x.signature_key (signature_keys t)
unfolding width
both_sign b (Leaf v) i j x y low less high is_x is_y same = absurd (omega arith)
both_sign b (Branch c l r) i j x y low less high is_x is_y same =
    let sum = count-branch x.signature_key c l r in
    elim (cases_lt j (b + width l)) [
      | inl lt ↦
          let two = both_sign b l i j x y low less lt (sym (leaf_at_left b c l r i (omega arith)) ∙ is_x) (sym (leaf_at_left b c l r j lt) ∙ is_y) same in
          omega arith
      | inr ge ↦
          let at : leaf_at (b + width l) r j ≡ Some y = sym (leaf_at_right b c l r j ge) ∙ is_y in
          elim (cases_lt i (b + width l)) [
            | inl lt ↦
                let one = signs b l i x (sym (leaf_at_left b c l r i lt) ∙ is_x) in
                let other : 1 ≤ count same_bytes x.signature_key (signature_keys r) = subst (λ k. 1 ≤ count same_bytes k (signature_keys r)) (sym same) (signs (b + width l) r j y at) in
                omega arith
            | inr above ↦
                let two = both_sign (b + width l) r i j x y above less (omega arith) (sym (leaf_at_right b c l r i above) ∙ is_x) at same in
                omega arith
          ]
    ]

not_below : (t : Term) (i j : ℕ) (x y : LeafNode) → has_distinct_clients t ≡ true → Taken i x t → Taken j y t → x.signature_key ≡ y.signature_key → i < j → ⊥
unfolding has_distinct_clients
not_below t i j x y h at_i at_j same less =
    let high = at_j.inside in
    let two = both_sign 0 t i j x y (omega arith) less (omega arith) at_i.leaf at_j.leaf same in
    let one = distinct_at same_bytes bytes_true (signature_keys t) h x.signature_key in
    absurd (omega arith)

pub one_client : (t : Term) (i j : ℕ) (x y : LeafNode) → has_distinct_clients t ≡ true → leaf_of t i ≡ Some x → leaf_of t j ≡ Some y → x.signature_key ≡ y.signature_key → i ≡ j
one_client t i j x y h is_x is_y same =
    let at_i = taken_at t i x is_x in
    let at_j = taken_at t j y is_y in
    elim (cases_lt i j) [
      | inl lt ↦ absurd (not_below t i j x y h at_i at_j same lt)
      | inr ge ↦ elim (cases_lt j i) [
        | inl lt ↦ absurd (not_below t j i y x h at_j at_i (sym same) lt)
        | inr le ↦ omega arith
      ]
    ]

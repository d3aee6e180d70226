-- Laws of kept hashes: what an edit leaves of them, and how many nodes are cold after it.
use Rattle.std.proofs.Common.{◌≡◌, ℕ, zero, suc, ◌+◌, ◌-◌, ◌*◌, ◌<◌, ◌≤◌, ◌==◌, nat_lt, Bool, cond, true, false, not, ◌||◌, ◌⊎◌, List, [], ◌∷◌, ◌++◌, length, get_or, take, drop, replicate, Option, Some, None, is_some, refl, sym, ◌∙◌, ap, subst, arith, inl, inr, length-append, length-drop, append_assoc, take_all, lt-ltb, le-ltb}
use Rattle.std.proofs.lemmas.List.{take_at, drop_at, get_or_at, length-take-le, take-append-drop, drop_more, get_or_append_left, get_or-append_right, get_or-take, get_or-drop, get_or-replicate}
use Rattle.std.proofs.lemmas.Bool.{cases_lt, cond-true, cond-false, cond_both, ne_eqb, eq-eqb, true≢false, and_parts}
use Rattle.std.proofs.lemmas.List.Sums.{sum_by-append}
use Rattle.std.proofs.Math.Bool.{or-false, or-true}
use Rattle.mls_leaf.specs.Parent.{Parent}
use Rattle.mls_leaf.specs.declared.leaf.LeafNode.{LeafNode}
use Rattle.mls_tree_model.specs.Term.{Term, Leaf, Branch, width, size, height, blanks, has_leaf, is_perfect}
use Rattle.mls_tree_model.specs.Edits.{put, enter, grow, trim}
use Rattle.mls_tree_model.specs.Merge.{merge}
use Rattle.mls_tree_model.specs.Hashes.{tree_hash}
use Rattle.mls_tree_model.proofs.ShapeLaws.{size-width, width-put, width-enter}
use Rattle.mls_tree_model.specs.Sets.{has}
use Rattle.mls_tree_model.proofs.MergeLaws.{width-merge}
use Rattle.mls_tree_model.proofs.Equations.{way_leaf, way_left, way_right, put_leaf, put_left, put_right, enter_leaf, enter_left, enter_right, merge_leaf, merge_left, merge_right}
use Rattle.mls_tree_array.specs.KeptHashes.{hashes_of, by_root, Keeps, drop_hashes, is_cold_at, cold_places, nodes_upward}

-- ---- a list in three parts

module _ (l r : List (Option (List ℕ))) (c : Option (List ℕ)) (n : ℕ) (e : length l ≡ n) where
  pub root_part : get_or (l ++ (c ∷ r)) n None ≡ c
  root_part = get_or_at l c r None n e

  pub left_part : take n (l ++ (c ∷ r)) ≡ l
  left_part = take_at l (c ∷ r) n e

  pub right_part : drop (suc n) (l ++ (c ∷ r)) ≡ r
  right_part =
      ap (λ ys. drop (suc n) ys) (sym (append_assoc l (c ∷ []) r))
      ∙ drop_at (l ++ (c ∷ [])) r (suc n) (simp length-append (omega arith))

pub length-hashes_of : (b : ℕ) (t : Term) → length (hashes_of b t) ≡ size t
unfolding hashes_of size
length-hashes_of b (Leaf v) = refl
length-hashes_of b (Branch c l r) = simp length-append (omega (arith, length-hashes_of b l, length-hashes_of (b + width l) r))

pub hashes_of_branch : (b : ℕ) (c : Option Parent) (l r : Term) → hashes_of b (Branch c l r) ≡ hashes_of b l ++ (Some (tree_hash b (Branch c l r)) ∷ hashes_of (b + width l) r)
unfolding hashes_of
hashes_of_branch b c l r = refl

-- ---- kept hashes

-- all of them
pub keeps_all : (b : ℕ) (t : Term) → Keeps b t (hashes_of b t)
unfolding Keeps hashes_of
keeps_all b (Leaf v) = refl
keeps_all b (Branch c l r) =
    subst (λ o. by_root o ((length (hashes_of b (Branch c l r)) ≡ size (Branch c l r)) × Keeps b l (take (size l) (hashes_of b (Branch c l r))) × Keeps (b + width l) r (drop (suc (size l)) (hashes_of b (Branch c l r)))) (hashes_of b (Branch c l r) ≡ hashes_of b (Branch c l r)))
    (sym (root_part (hashes_of b l) (hashes_of (b + width l) r) (Some (tree_hash b (Branch c l r))) (size l) (length-hashes_of b l)))
    refl

-- what is kept of the sides
pub record KeepsSides (b : ℕ) (l r : Term) (hs : List (Option (List ℕ))) : Type 0 where
  pub long : length hs ≡ size l + suc (size r)
  pub left : Keeps b l (take (size l) hs)
  pub right : Keeps (b + width l) r (drop (suc (size l)) hs)

sides_of_all : (b : ℕ) (c : Option Parent) (l r : Term) → KeepsSides b l r (hashes_of b (Branch c l r))
unfolding size
sides_of_all b c l r =
    let parts : hashes_of b (Branch c l r) ≡ hashes_of b l ++ (Some (tree_hash b (Branch c l r)) ∷ hashes_of (b + width l) r) = hashes_of_branch b c l r in
    record {
      long = length-hashes_of b (Branch c l r);
      left = subst (Keeps b l) (sym (ap (take (size l)) parts ∙ left_part (hashes_of b l) (hashes_of (b + width l) r) (Some (tree_hash b (Branch c l r))) (size l) (length-hashes_of b l))) (keeps_all b l);
      right = subst (Keeps (b + width l) r) (sym (ap (drop (suc (size l))) parts ∙ right_part (hashes_of b l) (hashes_of (b + width l) r) (Some (tree_hash b (Branch c l r))) (size l) (length-hashes_of b l))) (keeps_all (b + width l) r);
    }

sides_by : (b : ℕ) (c : Option Parent) (l r : Term) (hs : List (Option (List ℕ))) (o : Option (List ℕ)) → by_root o ((length hs ≡ size (Branch c l r)) × Keeps b l (take (size l) hs) × Keeps (b + width l) r (drop (suc (size l)) hs)) (hs ≡ hashes_of b (Branch c l r)) → KeepsSides b l r hs
unfolding size
sides_by b c l r hs None k = record { long = k.0; left = k.1; right = k.2 }
sides_by b c l r hs (Some h) k = subst (KeepsSides b l r) (sym k) (sides_of_all b c l r)

pub keeps_sides : (b : ℕ) (c : Option Parent) (l r : Term) (hs : List (Option (List ℕ))) → Keeps b (Branch c l r) hs → KeepsSides b l r hs
unfolding Keeps
keeps_sides b c l r hs k = sides_by b c l r hs (get_or hs (size l) None) k

-- where there is a hash at the root, all are there
pub warm_leaf : (b : ℕ) (v : Option LeafNode) (hs : List (Option (List ℕ))) (h : List ℕ) → Keeps b (Leaf v) hs → get_or hs 0 None ≡ Some h → hs ≡ hashes_of b (Leaf v)
unfolding Keeps
warm_leaf b v hs h k e = subst (λ o. by_root o (hs ≡ None ∷ []) (hs ≡ hashes_of b (Leaf v))) e k

pub warm_branch : (b : ℕ) (c : Option Parent) (l r : Term) (hs : List (Option (List ℕ))) (h : List ℕ) → Keeps b (Branch c l r) hs → get_or hs (size l) None ≡ Some h → hs ≡ hashes_of b (Branch c l r)
unfolding Keeps
warm_branch b c l r hs h k e =
    subst (λ o. by_root o ((length hs ≡ size (Branch c l r)) × Keeps b l (take (size l) hs) × Keeps (b + width l) r (drop (suc (size l)) hs)) (hs ≡ hashes_of b (Branch c l r))) e k

leaf_long : (b : ℕ) (v : Option LeafNode) (hs : List (Option (List ℕ))) (o : Option (List ℕ)) → by_root o (hs ≡ None ∷ []) (hs ≡ hashes_of b (Leaf v)) → length hs ≡ 1
unfolding hashes_of
leaf_long b v hs None k = ap length k
leaf_long b v hs (Some h) k = ap length k

pub keeps_long : (b : ℕ) (t : Term) (hs : List (Option (List ℕ))) → Keeps b t hs → length hs ≡ size t
unfolding Keeps size
keeps_long b (Leaf v) hs k = leaf_long b v hs (get_or hs 0 None) k
keeps_long b (Branch c l r) hs k = (keeps_sides b c l r hs k).long

-- a cold leaf
pub keeps_cold_leaf : (b : ℕ) (v : Option LeafNode) → Keeps b (Leaf v) (None ∷ [])
unfolding Keeps
keeps_cold_leaf b v = refl

-- a cold root over two sides
pub keeps_joined : (b : ℕ) (c : Option Parent) (l r : Term) (hs gs : List (Option (List ℕ))) → Keeps b l hs → Keeps (b + width l) r gs → Keeps b (Branch c l r) (hs ++ (None ∷ gs))
unfolding Keeps size
keeps_joined b c l r hs gs k m =
    let wide : length hs ≡ size l = keeps_long b l hs k in
    subst (λ o. by_root o ((length (hs ++ (None ∷ gs)) ≡ size (Branch c l r)) × Keeps b l (take (size l) (hs ++ (None ∷ gs))) × Keeps (b + width l) r (drop (suc (size l)) (hs ++ (None ∷ gs)))) (hs ++ (None ∷ gs) ≡ hashes_of b (Branch c l r)))
    (sym (root_part hs gs None (size l) wide))
    (simp length-append (omega (arith, keeps_long (b + width l) r gs m)), subst (Keeps b l) (sym (left_part hs gs None (size l) wide)) k, subst (Keeps (b + width l) r) (sym (right_part hs gs None (size l) wide)) m)

-- no hash at all
replicate-add : {A : Type 0} (n m : ℕ) (x : A) → replicate (n + suc m) x ≡ replicate n x ++ (x ∷ replicate m x)
replicate-add zero m x = let e : 0 + suc m ≡ suc m = omega arith in ap (λ k. replicate k x) e
replicate-add (suc n) m x = let e : suc n + suc m ≡ suc (n + suc m) = omega arith in ap (λ k. replicate k x) e ∙ ap (λ ys. x ∷ ys) (replicate-add n m x)

pub keeps_none : (b : ℕ) (t : Term) → Keeps b t (replicate (size t) None)
unfolding size
keeps_none b (Leaf v) = keeps_cold_leaf b v
keeps_none b (Branch c l r) =
    subst (Keeps b (Branch c l r)) (sym (replicate-add (size l) (size r) None))
    (keeps_joined b c l r (replicate (size l) None) (replicate (size r) None) (keeps_none b l) (keeps_none (b + width l) r))

-- ---- after an edit

module _ (b : ℕ) (c d : Option Parent) (l r : Term) (i : ℕ) (hs : List (Option (List ℕ))) (k : Keeps b (Branch c l r) hs) where
  pub edited_left : (u : Term) → i < b + width l → width u ≡ width l → Keeps b u (drop_hashes b l i (take (size l) hs)) → Keeps b (Branch d u r) (drop_hashes b (Branch c l r) i hs)
  unfolding drop_hashes
  edited_left u lt same m =
      rw (cond-true _ _ _ (lt-ltb i (b + width l) lt))
      (keeps_joined b d u r _ _ m (subst (λ w. Keeps (b + w) r (drop (suc (size l)) hs)) (sym same) (keeps_sides b c l r hs k).right))

  pub edited_right : (u : Term) → b + width l ≤ i → Keeps (b + width l) u (drop_hashes (b + width l) r i (drop (suc (size l)) hs)) → Keeps b (Branch d l u) (drop_hashes b (Branch c l r) i hs)
  unfolding drop_hashes
  edited_right u ge m =
      rw (cond-false _ _ _ (le-ltb i (b + width l) ge))
      (keeps_joined b d l u _ _ (keeps_sides b c l r hs k).left m)

pub dropped_leaf : (b : ℕ) (v : Option LeafNode) (i : ℕ) (hs : List (Option (List ℕ))) → drop_hashes b (Leaf v) i hs ≡ None ∷ []
unfolding drop_hashes
dropped_leaf b v i hs = refl

pub keeps-put : (b : ℕ) (t : Term) (i : ℕ) (x : Option LeafNode) (hs : List (Option (List ℕ))) → Keeps b t hs → Keeps b (put b t i x) (drop_hashes b t i hs)
keeps-put b (Leaf v) i x hs k = rw (put_leaf b v i x, dropped_leaf b v i hs) (keeps_cold_leaf b x)
keeps-put b (Branch c l r) i x hs k =
    elim (cases_lt i (b + width l)) [
      | inl lt ↦ rw (put_left b c l r i x lt) (edited_left b c None l r i hs k (put b l i x) lt (width-put b l i x) (keeps-put b l i x _ (keeps_sides b c l r hs k).left))
      | inr ge ↦ rw (put_right b c l r i x ge) (edited_right b c None l r i hs k (put (b + width l) r i x) ge (keeps-put (b + width l) r i x _ (keeps_sides b c l r hs k).right))
    ]

pub keeps-enter : (b : ℕ) (t : Term) (i : ℕ) (x : LeafNode) (hs : List (Option (List ℕ))) → Keeps b t hs → Keeps b (enter b t i x) (drop_hashes b t i hs)
keeps-enter b (Leaf v) i x hs k = rw (enter_leaf b v i x, dropped_leaf b v i hs) (keeps_cold_leaf b (Some x))
keeps-enter b (Branch c l r) i x hs k =
    elim (cases_lt i (b + width l)) [
      | inl lt ↦ rw (enter_left b c l r i x lt) (edited_left b c _ l r i hs k (enter b l i x) lt (width-enter b l i x) (keeps-enter b l i x _ (keeps_sides b c l r hs k).left))
      | inr ge ↦ rw (enter_right b c l r i x ge) (edited_right b c _ l r i hs k (enter (b + width l) r i x) ge (keeps-enter (b + width l) r i x _ (keeps_sides b c l r hs k).right))
    ]

pub keeps-merge : (b : ℕ) (t : Term) (i : ℕ) (ks : List (List ℕ)) (g : List ℕ) (x : LeafNode) (hs : List (Option (List ℕ))) → Keeps b t hs → Keeps b (merge b t i ks g x) (drop_hashes b t i hs)
keeps-merge b (Leaf v) i ks g x hs k = rw (merge_leaf b v i ks g x, dropped_leaf b v i hs) (keeps_cold_leaf b (Some x))
keeps-merge b (Branch c l r) i ks g x hs k =
    elim (cases_lt i (b + width l)) [
      | inl lt ↦ rw (merge_left b c l r i ks g x lt) (edited_left b c _ l r i hs k _ lt (width-merge b l i _ _ x) (keeps-merge b l i _ _ x _ (keeps_sides b c l r hs k).left))
      | inr ge ↦ rw (merge_right b c l r i ks g x ge) (edited_right b c _ l r i hs k _ ge (keeps-merge (b + width l) r i _ _ x _ (keeps_sides b c l r hs k).right))
    ]

-- ---- of another size

pub keeps-grow : (t : Term) (hs : List (Option (List ℕ))) → size (blanks (height t)) ≡ size t → Keeps 0 t hs → Keeps 0 (grow t) (hs ++ replicate (suc (size t)) None)
unfolding grow
keeps-grow t hs same k =
    keeps_joined 0 None t (blanks (height t)) hs (replicate (size t) None) k
    (subst (λ n. Keeps (0 + width t) (blanks (height t)) (replicate n None)) same (keeps_none (0 + width t) (blanks (height t))))

pub size-trim : (t : Term) → size (trim t) ≤ size t
unfolding trim size
size-trim (Leaf v) = omega arith
size-trim (Branch c l r) =
    cond_both (has_leaf r) _ _ (λ u. size u ≤ size l + suc (size r)) (λ _. omega arith) (λ _. let e = size-trim l in omega arith)

take_less : (n m : ℕ) (hs : List (Option (List ℕ))) → n ≤ m → take n (take m hs) ≡ take n hs
take_less zero m hs le = refl
take_less (suc n) zero hs le = absurd (omega arith)
take_less (suc n) (suc m) [] le = refl
take_less (suc n) (suc m) (x ∷ hs) le = ap (λ ys. x ∷ ys) (take_less n m hs (omega arith))

pub keeps-trim : (b : ℕ) (t : Term) (hs : List (Option (List ℕ))) → Keeps b t hs → Keeps b (trim t) (take (size (trim t)) hs)
unfolding trim
keeps-trim b (Leaf v) hs k = subst (Keeps b (Leaf v)) (sym (take_all (size (Leaf v)) hs (let e = keeps_long b (Leaf v) hs k in omega arith))) k
keeps-trim b (Branch c l r) hs k =
    cond_both (has_leaf r) _ _ (λ u. Keeps b u (take (size u) hs))
    (λ _. subst (Keeps b (Branch c l r)) (sym (take_all (size (Branch c l r)) hs (let e = keeps_long b (Branch c l r) hs k in omega arith))) k)
    (λ _. subst (Keeps b (trim l)) (take_less (size (trim l)) (size l) hs (size-trim l)) (keeps-trim b l (take (size l) hs) (keeps_sides b c l r hs k).left))

-- ---- which nodes are cold

pub length-drop_hashes : (b : ℕ) (t : Term) (i : ℕ) (hs : List (Option (List ℕ))) → length hs ≡ size t → length (drop_hashes b t i hs) ≡ size t
unfolding drop_hashes size
length-drop_hashes b (Leaf v) i hs e = refl
length-drop_hashes b (Branch c l r) i hs e =
    let left : length (take (size l) hs) ≡ size l = length-take-le (size l) hs (omega arith) in
    let right : length (drop (suc (size l)) hs) ≡ size r = length-drop (suc (size l)) hs ∙ omega arith in
    let first = length-drop_hashes b l i (take (size l) hs) left in
    let second = length-drop_hashes (b + width l) r i (drop (suc (size l)) hs) right in
    cond_both (nat_lt i (b + width l)) (drop_hashes b l i (take (size l) hs) ++ (None ∷ drop (suc (size l)) hs)) (take (size l) hs ++ (None ∷ drop_hashes (b + width l) r i (drop (suc (size l)) hs))) (λ ys. length ys ≡ size l + suc (size r))
    (λ _. length-append (drop_hashes b l i (take (size l) hs)) (None ∷ drop (suc (size l)) hs) ∙ omega arith)
    (λ _. length-append (take (size l) hs) (None ∷ drop_hashes (b + width l) r i (drop (suc (size l)) hs)) ∙ omega arith)

swapped : (p q s : Bool) → (p || (q || s)) ≡ (q || (p || s))
swapped true true s = refl
swapped true false s = refl
swapped false q s = refl

module _ (b : ℕ) (c : Option Parent) (l r : Term) (i x : ℕ) where
  up_left : i < b + width l → has (nodes_upward b (Branch c l r) i) x ≡ (((2 * b + size l) == x) || has (nodes_upward b l i) x)
  unfolding nodes_upward has
  up_left lt = rw (way_left b c l r i lt) (swapped ((2 * i) == x) ((2 * b + size l) == x) _)

  up_right : b + width l ≤ i → has (nodes_upward b (Branch c l r) i) x ≡ (((2 * b + size l) == x) || has (nodes_upward (b + width l) r i) x)
  unfolding nodes_upward has
  up_right ge = rw (way_right b c l r i ge) (swapped ((2 * i) == x) ((2 * b + size l) == x) _)

up_leaf : (b : ℕ) (v : Option LeafNode) (i x : ℕ) → has (nodes_upward b (Leaf v) i) x ≡ (((2 * i) == x) || false)
unfolding nodes_upward has
up_leaf b v i x = rw (way_leaf b v i) refl

-- they are nodes of the tree
up_outside : (b : ℕ) (t : Term) (i x : ℕ) → b ≤ i → i < b + width t → (x < 2 * b) ⊎ (2 * b + size t ≤ x) → has (nodes_upward b t i) x ≡ false
unfolding width size
up_outside b (Leaf v) i x low high (inl out) = up_leaf b v i x ∙ rw (ne_eqb (2 * i) x (λ e. absurd (omega arith))) refl
up_outside b (Leaf v) i x low high (inr out) = up_leaf b v i x ∙ rw (ne_eqb (2 * i) x (λ e. absurd (omega arith))) refl
up_outside b (Branch c l r) i x low high (inl out) =
    let half = size-width l in
    elim (cases_lt i (b + width l)) [
      | inl lt ↦ up_left b c l r i x lt ∙ rw (ne_eqb (2 * b + size l) x (λ e. absurd (omega arith)), up_outside b l i x low lt (inl out)) refl
      | inr ge ↦ up_right b c l r i x ge ∙ rw (ne_eqb (2 * b + size l) x (λ e. absurd (omega arith)), up_outside (b + width l) r i x ge (omega arith) (inl (omega arith))) refl
    ]
up_outside b (Branch c l r) i x low high (inr out) =
    let half = size-width l in
    elim (cases_lt i (b + width l)) [
      | inl lt ↦ up_left b c l r i x lt ∙ rw (ne_eqb (2 * b + size l) x (λ e. absurd (omega arith)), up_outside b l i x low lt (inr (omega arith))) refl
      | inr ge ↦ up_right b c l r i x ge ∙ rw (ne_eqb (2 * b + size l) x (λ e. absurd (omega arith)), up_outside (b + width l) r i x ge (omega arith) (inr (omega arith))) refl
    ]

pub dropped_left : (b : ℕ) (c : Option Parent) (l r : Term) (i : ℕ) (hs : List (Option (List ℕ))) → i < b + width l → drop_hashes b (Branch c l r) i hs ≡ drop_hashes b l i (take (size l) hs) ++ (None ∷ drop (suc (size l)) hs)
unfolding drop_hashes
dropped_left b c l r i hs lt = cond-true _ _ _ (lt-ltb i (b + width l) lt)

pub dropped_right : (b : ℕ) (c : Option Parent) (l r : Term) (i : ℕ) (hs : List (Option (List ℕ))) → b + width l ≤ i → drop_hashes b (Branch c l r) i hs ≡ take (size l) hs ++ (None ∷ drop_hashes (b + width l) r i (drop (suc (size l)) hs))
unfolding drop_hashes
dropped_right b c l r i hs ge = cond-false _ _ _ (le-ltb i (b + width l) ge)

-- a place of a list in three parts
module _ (xs ys : List (Option (List ℕ))) (m : ℕ) (e : length xs ≡ m) where
  cold_before : (n : ℕ) → n < m → is_cold_at (xs ++ (None ∷ ys)) n ≡ is_cold_at xs n
  cold_before n lt = ap (λ o. not (is_some o)) (get_or_append_left xs (None ∷ ys) (Some []) n (omega arith))

  cold_there : (n : ℕ) → n ≡ m → is_cold_at (xs ++ (None ∷ ys)) n ≡ true
  cold_there n at = ap (λ o. not (is_some o)) (get_or_at xs None ys (Some []) n (e ∙ sym at))

  cold_behind : (n : ℕ) → m < n → is_cold_at (xs ++ (None ∷ ys)) n ≡ is_cold_at ys (n - suc m)
  cold_behind n lt =
      let k : n - m ≡ suc (n - suc m) = omega arith in
      ap (λ o. not (is_some o)) (get_or-append_right xs (None ∷ ys) m n (Some []) e (omega arith) ∙ ap (λ j. get_or (None ∷ ys) j (Some [])) k)

pub cold_in_take : (m n : ℕ) (hs : List (Option (List ℕ))) → n < m → is_cold_at (take m hs) n ≡ is_cold_at hs n
cold_in_take m n hs lt = ap (λ o. not (is_some o)) (get_or-take m hs n (Some []) lt)

cold_in_drop : (m n : ℕ) (hs : List (Option (List ℕ))) → m < n → is_cold_at (drop (suc m) hs) (n - suc m) ≡ is_cold_at hs n
cold_in_drop m n hs lt =
    let k : suc m + (n - suc m) ≡ n = omega arith in
    ap (λ o. not (is_some o)) (get_or-drop (suc m) hs (n - suc m) (Some []) ∙ ap (λ j. get_or hs j (Some [])) k)

-- what is beside the way stays as it was
or_false_false : (p q s : Bool) → q ≡ false → s ≡ false → p ≡ (p || (q || s))
or_false_false p q s e f = rw (e, f) (sym (or-false p))

or_true : (p q s : Bool) → q ≡ true → true ≡ (p || (q || s))
or_true p q s e = rw e (sym (or-true p))

or_skip : (p q s : Bool) → q ≡ false → (p || s) ≡ (p || (q || s))
or_skip p q s e = rw e refl

pub cold-drop_hashes : (b : ℕ) (t : Term) (i : ℕ) (hs : List (Option (List ℕ))) (n : ℕ) → length hs ≡ size t → b ≤ i → i < b + width t → n < size t → is_cold_at (drop_hashes b t i hs) n ≡ (is_cold_at hs n || has (nodes_upward b t i) (2 * b + n))
unfolding width size
cold-drop_hashes b (Leaf v) i hs n e low high in_tree =
    let at : 2 * i ≡ 2 * b + n = omega arith in
    let first : n ≡ 0 = omega arith in
    ap (λ ys. is_cold_at ys n) (dropped_leaf b v i hs)
    ∙ ap (is_cold_at (None ∷ [])) first
    ∙ or_true (is_cold_at hs n) ((2 * i) == (2 * b + n)) false (eq-eqb (2 * i) (2 * b + n) at)
    ∙ ap (λ q. is_cold_at hs n || q) (sym (up_leaf b v i (2 * b + n)))
cold-drop_hashes b (Branch c l r) i hs n e low high in_tree =
    let half = size-width l in
    let long_left : length (take (size l) hs) ≡ size l = length-take-le (size l) hs (omega arith) in
    let long_right : length (drop (suc (size l)) hs) ≡ size r = length-drop (suc (size l)) hs ∙ omega arith in
    elim (cases_lt i (b + width l)) [
      | inl lt ↦
          let new = drop_hashes b l i (take (size l) hs) in
          let old = drop (suc (size l)) hs in
          let long : length new ≡ size l = length-drop_hashes b l i (take (size l) hs) long_left in
          ap (λ ys. is_cold_at ys n) (dropped_left b c l r i hs lt)
          ∙ elim (cases_lt n (size l)) [
            | inl before ↦
                cold_before new old (size l) long n before
                ∙ cold-drop_hashes b l i (take (size l) hs) n long_left low lt before
                ∙ ap (λ p. p || has (nodes_upward b l i) (2 * b + n)) (cold_in_take (size l) n hs before)
                ∙ or_skip (is_cold_at hs n) ((2 * b + size l) == (2 * b + n)) _ (ne_eqb (2 * b + size l) (2 * b + n) (λ k. absurd (omega arith)))
            | inr later ↦ elim (cases_lt (size l) n) [
              | inl behind ↦
                  cold_behind new old (size l) long n behind
                  ∙ cold_in_drop (size l) n hs behind
                  ∙ or_false_false (is_cold_at hs n) ((2 * b + size l) == (2 * b + n)) _ (ne_eqb (2 * b + size l) (2 * b + n) (λ k. absurd (omega arith))) (up_outside b l i (2 * b + n) low lt (inr (omega arith)))
              | inr there ↦
                  let at : n ≡ size l = omega arith in
                  cold_there new old (size l) long n at
                  ∙ or_true (is_cold_at hs n) ((2 * b + size l) == (2 * b + n)) _ (eq-eqb (2 * b + size l) (2 * b + n) (omega arith))
            ]
          ]
          ∙ ap (λ q. is_cold_at hs n || q) (sym (up_left b c l r i (2 * b + n) lt))
      | inr ge ↦
          let new = drop_hashes (b + width l) r i (drop (suc (size l)) hs) in
          let old = take (size l) hs in
          ap (λ ys. is_cold_at ys n) (dropped_right b c l r i hs ge)
          ∙ elim (cases_lt n (size l)) [
            | inl before ↦
                cold_before old new (size l) long_left n before
                ∙ cold_in_take (size l) n hs before
                ∙ or_false_false (is_cold_at hs n) ((2 * b + size l) == (2 * b + n)) _ (ne_eqb (2 * b + size l) (2 * b + n) (λ k. absurd (omega arith))) (up_outside (b + width l) r i (2 * b + n) ge (omega arith) (inl (omega arith)))
            | inr later ↦ elim (cases_lt (size l) n) [
              | inl behind ↦
                  let at : 2 * (b + width l) + (n - suc (size l)) ≡ 2 * b + n = omega arith in
                  cold_behind old new (size l) long_left n behind
                  ∙ cold-drop_hashes (b + width l) r i (drop (suc (size l)) hs) (n - suc (size l)) long_right ge (omega arith) (omega arith)
                  ∙ ap (λ x. is_cold_at (drop (suc (size l)) hs) (n - suc (size l)) || has (nodes_upward (b + width l) r i) x) at
                  ∙ ap (λ p. p || has (nodes_upward (b + width l) r i) (2 * b + n)) (cold_in_drop (size l) n hs behind)
                  ∙ or_skip (is_cold_at hs n) ((2 * b + size l) == (2 * b + n)) _ (ne_eqb (2 * b + size l) (2 * b + n) (λ k. absurd (omega arith)))
              | inr there ↦
                  let at : n ≡ size l = omega arith in
                  cold_there old new (size l) long_left n at
                  ∙ or_true (is_cold_at hs n) ((2 * b + size l) == (2 * b + n)) _ (eq-eqb (2 * b + size l) (2 * b + n) (omega arith))
            ]
          ]
          ∙ ap (λ q. is_cold_at hs n || q) (sym (up_right b c l r i (2 * b + n) ge))
    ]

-- ---- how many are cold

pub cold-append : (xs ys : List (Option (List ℕ))) → cold_places (xs ++ ys) ≡ cold_places xs + cold_places ys
cold-append xs ys = sum_by-append (λ h. cond (not (is_some h)) 1 0) xs ys

pub none_cold : (b : ℕ) (t : Term) → cold_places (hashes_of b t) ≡ 0
unfolding hashes_of
none_cold b (Leaf v) = refl
none_cold b (Branch c l r) =
    let first = none_cold b l in
    let second = none_cold (b + width l) r in
    cold-append (hashes_of b l) (Some (tree_hash b (Branch c l r)) ∷ hashes_of (b + width l) r) ∙ omega arith

-- one more place
pub cold-cons : (h : Option (List ℕ)) (hs : List (Option (List ℕ))) → cold_places (h ∷ hs) ≡ cold_places (h ∷ []) + cold_places hs
cold-cons h hs = cold-append (h ∷ []) hs

-- where none is counted there is none
pub none_counted : (hs : List (Option (List ℕ))) (n : ℕ) → cold_places hs ≡ 0 → is_cold_at hs n ≡ false
none_counted [] n e = refl
none_counted (None ∷ hs) n e = absurd (let more : cold_places (None ∷ hs) ≡ 1 + cold_places hs = cold-cons None hs in omega arith)
none_counted (Some h ∷ hs) zero e = refl
none_counted (Some h ∷ hs) (suc n) e = none_counted hs n (let less : cold_places (Some h ∷ hs) ≡ 0 + cold_places hs = cold-cons (Some h) hs in omega arith)

pub all_counted : (n : ℕ) → cold_places (replicate n None) ≡ n
all_counted zero = refl
all_counted (suc n) =
    let e = all_counted n in
    let more : cold_places (replicate (suc n) None) ≡ 1 + cold_places (replicate n None) = cold-cons None (replicate n None) in
    omega arith

pub cold_none : (m n : ℕ) → n < m → is_cold_at (replicate m None) n ≡ true
cold_none m n lt = ap (λ o. not (is_some o)) (get_or-replicate m n None (Some []) lt)

-- as many as before and the edited nodes, at the most
pub few_dropped : (h b : ℕ) (t : Term) (i : ℕ) (hs : List (Option (List ℕ))) → is_perfect h t ≡ true → length hs ≡ size t → cold_places (drop_hashes b t i hs) ≤ cold_places hs + suc h
unfolding is_perfect size
few_dropped zero b (Leaf v) i hs p e = rw (dropped_leaf b v i hs) (omega arith)
few_dropped (suc h) b (Leaf v) i hs p e = absurd (true≢false (sym p))
few_dropped zero b (Branch c l r) i hs p e = absurd (true≢false (sym p))
few_dropped (suc h) b (Branch c l r) i hs p e =
    let sides = and_parts (is_perfect h l) (is_perfect h r) p in
    let long_left : length (take (size l) hs) ≡ size l = length-take-le (size l) hs (omega arith) in
    let long_right : length (drop (suc (size l)) hs) ≡ size r = length-drop (suc (size l)) hs ∙ omega arith in
    let next : size l + 1 ≡ suc (size l) = omega arith in
    let root = get_or hs (size l) None in
    let cut : drop (size l) hs ≡ root ∷ drop (suc (size l)) hs = drop_more hs (size l) None (omega arith) ∙ ap (λ k. root ∷ drop k hs) next in
    let whole : cold_places hs ≡ cold_places (take (size l) hs) + cold_places (root ∷ drop (suc (size l)) hs) = ap cold_places (sym (take-append-drop (size l) hs)) ∙ cold-append (take (size l) hs) (drop (size l) hs) ∙ ap (λ ys. cold_places (take (size l) hs) + cold_places ys) cut in
    let more : cold_places (drop (suc (size l)) hs) ≤ cold_places (root ∷ drop (suc (size l)) hs) = let at = cold-cons root (drop (suc (size l)) hs) in omega arith in
    elim (cases_lt i (b + width l)) [
      | inl lt ↦
          let new = drop_hashes b l i (take (size l) hs) in
          let few = few_dropped h b l i (take (size l) hs) sides.0 long_left in
          let sum : cold_places (new ++ (None ∷ drop (suc (size l)) hs)) ≡ cold_places new + (1 + cold_places (drop (suc (size l)) hs)) = cold-append new (None ∷ drop (suc (size l)) hs) ∙ ap (λ n. cold_places new + n) (cold-cons None (drop (suc (size l)) hs)) in
          rw (dropped_left b c l r i hs lt) (omega arith)
      | inr ge ↦
          let new = drop_hashes (b + width l) r i (drop (suc (size l)) hs) in
          let few = few_dropped h (b + width l) r i (drop (suc (size l)) hs) sides.1 long_right in
          let sum : cold_places (take (size l) hs ++ (None ∷ new)) ≡ cold_places (take (size l) hs) + (1 + cold_places new) = cold-append (take (size l) hs) (None ∷ new) ∙ ap (λ n. cold_places (take (size l) hs) + n) (cold-cons None new) in
          rw (dropped_right b c l r i hs ge) (omega arith)
    ]

pub few_taken : (n : ℕ) (hs : List (Option (List ℕ))) → cold_places (take n hs) ≤ cold_places hs
few_taken n hs =
    let whole : cold_places hs ≡ cold_places (take n hs) + cold_places (drop n hs) = ap cold_places (sym (take-append-drop n hs)) ∙ cold-append (take n hs) (drop n hs) in
    omega arith

-- Exact keys follow the edits.
use Rattle.std.proofs.Common.{◌≡◌, ℕ, ◌+◌, Bool, true, false, List, [], ◌∷◌, Option, Some, None, is_some, IsSome, refl, sym, ◌∙◌, subst, inl, inr, arith, ◌==◌, if◌then◌else◌, ne_eqb}
use Rattle.std.proofs.lemmas.Bool.{cases_lt, true≢false}
use Rattle.std.proofs.Math.Bool.{or-false}
use Rattle.mls_leaf.specs.Parent.{Parent}
use Rattle.mls_leaf.specs.declared.leaf.LeafNode.{LeafNode}
use Rattle.mls_tree_model.specs.Sets.{has}
use Rattle.mls_tree_model.specs.Term.{Term, Leaf, Branch, width, height, leaf_at, has_leaf, blanks}
use Rattle.mls_tree_model.specs.Way.{Step, way}
use Rattle.mls_tree_model.specs.Edits.{put, enter, list_leaf, grow, trim}
use Rattle.mls_tree_model.proofs.Equations.{put_left, put_right, enter_left, enter_right, way_left, way_right}
use Rattle.mls_tree_model.specs.Laws.{IsIn}
use Rattle.mls_tree_model.proofs.SetLaws.{has-with}
use Rattle.mls_tree_model.proofs.ShapeLaws.{width-put, width-enter}
use Rattle.mls_tree_model.proofs.MemberLaws.{leaf_taken}
use Rattle.mls_suite.specs.Crypto.{Crypto}
use Rattle.mls_treekem_model.specs.Keys.{Keys, HoldsKey, HoldsDueKey, IsOwnKey, AreKeysAlong, Exact, leaf_only}
use Rattle.mls_treekem_model.specs.Follow.{follow, follow_trim}
use Rattle.mls_treekem_model.proofs.WayLaws.{along_none, along_left, along_right, left_along, right_along, tame_left, tame_right}
use Rattle.mls_treekem_model.specs.Laws.{FollowGrow, FollowOwn, FollowTame, TameRefl, TameTrans}
use Rattle.mls_treekem_model.specs.Tame.{TameAt, TameAlong, Tame}

pub tame_at_same : (j : ℕ) (p : Option Parent) → TameAt j p p
tame_at_same j None = tt
tame_at_same j (Some p) = (refl, refl)

tame_same : (j : ℕ) (ss : List Step) → TameAlong j ss ss
unfolding TameAlong
tame_same j [] = tt
tame_same j (s ∷ ss) = (tame_at_same j s.parent, tame_same j ss)

pub tame_refl : TameRefl
tame_refl j b t = record { along = tame_same j (way b t j); leaf = refl }

pub tame_put : (j b : ℕ) (t : Term) (i : ℕ) (x : Option LeafNode) → (j ≡ i → ⊥) → IsIn b t i → IsIn b t j → Tame j b t (put b t i x)
unfolding width
tame_put j b (Leaf v) i x ne hi hj = absurd (ne (omega arith))
tame_put j b (Branch p l r) i x ne hi hj = elim (cases_lt i (b + width l)) [
  | inl li ↦ rw (put_left b p l r i x li) (elim (cases_lt j (b + width l)) [
    | inl lj ↦ tame_left j b p None l (put b l i x) r r (width-put b l i x) tt lj (tame_put j b l i x ne (record { low = hi.low; high = li }) (record { low = hj.low; high = lj }))
    | inr rj ↦ tame_right j b p None l (put b l i x) r r (width-put b l i x) tt rj (tame_refl j (b + width l) r)
  ])
  | inr ri ↦ rw (put_right b p l r i x ri) (elim (cases_lt j (b + width l)) [
    | inl lj ↦ tame_left j b p None l l r (put (b + width l) r i x) refl tt lj (tame_refl j b l)
    | inr rj ↦ tame_right j b p None l l r (put (b + width l) r i x) refl tt rj (tame_put j (b + width l) r i x ne (record { low = ri; high = omega arith }) (record { low = rj; high = omega arith }))
  ])
]

tame_listing : (j i : ℕ) (p : Option Parent) → (j ≡ i → ⊥) → TameAt j p (list_leaf i p)
tame_listing j i None ne = tt
tame_listing j i (Some p) ne =
    let e : (i == j) ≡ false = ne_eqb i j (λ h. ne (sym h)) in
    (refl, sym (has-with i p.unmerged_leaves j ∙ rw e (or-false (has p.unmerged_leaves j))))

pub tame_enter : (j b : ℕ) (t : Term) (i : ℕ) (x : LeafNode) → (j ≡ i → ⊥) → IsIn b t i → IsIn b t j → Tame j b t (enter b t i x)
unfolding width
tame_enter j b (Leaf v) i x ne hi hj = absurd (ne (omega arith))
tame_enter j b (Branch p l r) i x ne hi hj =
    let here = tame_listing j i p ne in
    elim (cases_lt i (b + width l)) [
      | inl li ↦ rw (enter_left b p l r i x li) (elim (cases_lt j (b + width l)) [
        | inl lj ↦ tame_left j b p (list_leaf i p) l (enter b l i x) r r (width-enter b l i x) here lj (tame_enter j b l i x ne (record { low = hi.low; high = li }) (record { low = hj.low; high = lj }))
        | inr rj ↦ tame_right j b p (list_leaf i p) l (enter b l i x) r r (width-enter b l i x) here rj (tame_refl j (b + width l) r)
      ])
      | inr ri ↦ rw (enter_right b p l r i x ri) (elim (cases_lt j (b + width l)) [
        | inl lj ↦ tame_left j b p (list_leaf i p) l l r (enter (b + width l) r i x) refl here lj (tame_refl j b l)
        | inr rj ↦ tame_right j b p (list_leaf i p) l l r (enter (b + width l) r i x) refl here rj (tame_enter j (b + width l) r i x ne (record { low = ri; high = omega arith }) (record { low = rj; high = omega arith }))
      ])
    ]

pub tame_at_trans : (j : ℕ) (p q r : Option Parent) → TameAt j p q → TameAt j q r → TameAt j p r
tame_at_trans j p q None h k = tt
tame_at_trans j p None (Some r) h k = absurd k
tame_at_trans j None (Some q) (Some r) h k = absurd h
tame_at_trans j (Some p) (Some q) (Some r) h k = (h.0 ∙ k.0, h.1 ∙ k.1)

tame_along_trans : (j : ℕ) (ss ts us : List Step) → TameAlong j ss ts → TameAlong j ts us → TameAlong j ss us
unfolding TameAlong
tame_along_trans j [] [] us h k = k
tame_along_trans j [] (t ∷ ts) us h k = absurd h
tame_along_trans j (s ∷ ss) [] us h k = absurd h
tame_along_trans j (s ∷ ss) (t ∷ ts) [] h k = absurd k
tame_along_trans j (s ∷ ss) (t ∷ ts) (u ∷ us) h k = (tame_at_trans j s.parent t.parent u.parent h.0 k.0, tame_along_trans j ss ts us h.1 k.1)

pub tame_trans : TameTrans
tame_trans j b t u v h k = record { along = tame_along_trans j (way b t j) (way b u j) (way b v j) h.along k.along; leaf = h.leaf ∙ k.leaf }

holds_same : (c : Crypto) (t : Bool) (p q : Parent) (o : Option (List ℕ)) → p.encryption_key ≡ q.encryption_key → HoldsKey c t p o → HoldsKey c t q o
holds_same c true p q None e h = tt
holds_same c true p q (Some k) e h = absurd h
holds_same c false p q None e h = absurd h
holds_same c false p q (Some k) e h = h ∙ e

pub fits_follow : (c : Crypto) (j : ℕ) (p q : Option Parent) (o : Option (List ℕ)) → TameAt j p q → HoldsDueKey c j p o → HoldsDueKey c j q (if is_some q then o else None)
fits_follow c j p None o t h = tt
fits_follow c j None (Some q) o t h = absurd t
fits_follow c j (Some p) (Some q) o t h = subst (λ (d : Bool). HoldsKey c d q o) t.1 (holds_same c (has p.unmerged_leaves j) p q o t.0 h)

along_follow : (c : Crypto) (j : ℕ) (ss ts : List Step) (x : Option LeafNode) (ks : Keys) → TameAlong j ss ts → AreKeysAlong c (HoldsDueKey c j) ss x ks → AreKeysAlong c (HoldsDueKey c j) ts x (follow ts ks)
unfolding TameAlong AreKeysAlong follow
along_follow c j [] [] x ks t h = h
along_follow c j [] (s ∷ ts) x ks t h = absurd t
along_follow c j (s ∷ ss) [] x ks t h = absurd t
along_follow c j (s ∷ ss) (s' ∷ ts) x [] t h = absurd h
along_follow c j (s ∷ ss) (s' ∷ ts) x (o ∷ ks) t h = (fits_follow c j s.parent s'.parent o t.0 h.0, along_follow c j ss ts x ks t.1 h.1)

pub follow_tame : FollowTame
follow_tame c j b t t' ks h tame =
    subst (λ (x : Option LeafNode). AreKeysAlong c (HoldsDueKey c j) (way b t' j) x (follow (way b t' j) ks)) tame.leaf (along_follow c j (way b t j) (way b t' j) (leaf_at b t j) ks tame.along h)

own_taken : (c : Crypto) (x : Option LeafNode) (ks : Keys) → IsOwnKey c x ks → IsSome x
own_taken c (Some x) ks h = refl
own_taken c None ks h = absurd h

-- the leaf at the end is taken
pub along_taken : (c : Crypto) (F : Option Parent → Option (List ℕ) → Type 0) (ss : List Step) (x : Option LeafNode) (ks : Keys) → AreKeysAlong c F ss x ks → IsSome x
unfolding AreKeysAlong
along_taken c F [] x ks h = own_taken c x ks h
along_taken c F (s ∷ ss) x [] h = absurd h
along_taken c F (s ∷ ss) x (o ∷ ks) h = along_taken c F ss x ks h.1

pub follow_grow : FollowGrow
unfolding grow
follow_grow c t j ks inside exact = left_along c (HoldsDueKey c j) 0 None t (blanks (height t)) j None ks inside.high tt exact

pub follow_trim_by : (c : Crypto) (b : ℕ) (t : Term) (j : ℕ) (ks : Keys) → IsIn b t j → Exact c b t j ks → Exact c b (trim t) j (follow_trim t ks) × IsIn b (trim t) j
unfolding trim follow_trim
follow_trim_by c b (Leaf v) j ks inside h = (h, inside)
follow_trim_by c b (Branch p l r) j [] inside h = absurd (along_none c (HoldsDueKey c j) b p l r j h)
follow_trim_by c b (Branch p l r) j (o ∷ ks) inside h = by_right (has_leaf r) refl (follow_trim_by c b l j ks)
  where
    by_right : (t : Bool) → has_leaf r ≡ t → (IsIn b l j → Exact c b l j ks → Exact c b (trim l) j (follow_trim l ks) × IsIn b (trim l) j) →
        Exact c b (if t then Branch p l r else trim l) j (if t then o ∷ ks else follow_trim l ks) × IsIn b (if t then Branch p l r else trim l) j
    by_right true e rec = (h, inside)
    by_right false e rec = elim (cases_lt j (b + width l)) [
      | inl lj ↦ rec (record { low = inside.low; high = lj }) (along_left c (HoldsDueKey c j) b p l r j o ks lj h).1
      | inr rj ↦
          let k = (along_right c (HoldsDueKey c j) b p l r j o ks rj h).1 in
          let z = leaf_taken (b + width l) r j (along_taken c (HoldsDueKey c j) (way (b + width l) r j) (leaf_at (b + width l) r j) ks k) in
          absurd (true≢false (sym z ∙ e))
    ]

own_at_leaf : (c : Crypto) (b : ℕ) (v : Option LeafNode) (i : ℕ) (x : LeafNode) (k : List ℕ) → c.public k ≡ x.encryption_key → Exact c b (put b (Leaf v) i (Some x)) i (leaf_only (way b (Leaf v) i) k)
unfolding put way leaf_at leaf_only AreKeysAlong
own_at_leaf c b v i x k h = h

own_more : (s : Step) (ss : List Step) (k : List ℕ) → leaf_only (s ∷ ss) k ≡ None ∷ leaf_only ss k
unfolding leaf_only
own_more s ss k = refl

pub follow_own : FollowOwn
follow_own c b (Leaf v) i x k h = own_at_leaf c b v i x k h
follow_own c b (Branch p l r) i x k h = elim (cases_lt i (b + width l)) [
  | inl li ↦
      let w = width-put b l i (Some x) in
      rw (put_left b p l r i (Some x) li, way_left b p l r i li, own_more)
      (left_along c (HoldsDueKey c i) b None (put b l i (Some x)) r i None (leaf_only (way b l i) k) (omega arith) tt (follow_own c b l i x k h))
  | inr ri ↦
      rw (put_right b p l r i (Some x) ri, way_right b p l r i ri, own_more)
      (right_along c (HoldsDueKey c i) b None l (put (b + width l) r i (Some x)) i None (leaf_only (way (b + width l) r i) k) ri tt (follow_own c (b + width l) r i x k h))
]

-- Tests on numbers, and a step down from a branch to the side of a leaf.
use Rattle.std.proofs.Common.{◌≡◌, ℕ, ◌+◌, ◌<◌, ◌≤◌, true, false, ◌&&◌, nat_lt, nat_le, List, [], ◌∷◌, Option, sym, ◌∙◌, ap, inl, inr, arith}
use Rattle.std.proofs.lemmas.Bool.{lt-ltb, le-ltb, le-leb, lt-leb, cases_lt, and_right}
use Rattle.mls_leaf.specs.Parent.{Parent}
use Rattle.mls_tree_model.specs.Term.{Term, Branch, width, leaf_at}
use Rattle.mls_tree_model.proofs.Equations.{way_left, way_right, leaf_at_left, leaf_at_right}
use Rattle.mls_suite.specs.Crypto.{Crypto}
use Rattle.mls_treekem_model.specs.Keys.{Keys, AreKeysAlong, AreKeysOnWay}
use Rattle.mls_treekem_model.specs.Tame.{TameAt, TameAlong, Tame}

pub within : (a n j : ℕ) → a ≤ j → j < a + n → (nat_le a j && nat_lt j (a + n)) ≡ true
within a n j h k = let e = le-leb a j h in let f = lt-ltb j (a + n) k in rw (e, f)

pub below : (a n j : ℕ) → j < a → (nat_le a j && nat_lt j (a + n)) ≡ false
below a n j h = let e = lt-leb a j h in rw e

pub beyond : (a n j : ℕ) → a + n ≤ j → (nat_le a j && nat_lt j (a + n)) ≡ false
beyond a n j h = and_right (nat_le a j) _ (le-ltb j (a + n) h)

-- ---- keys along the way to a leaf of one side

module _ (c : Crypto) (F : Option Parent → Option (List ℕ) → Type 0) (b : ℕ) (p : Option Parent) (l r : Term) (j : ℕ) where
  pub along_none : AreKeysOnWay c F b (Branch p l r) j [] → ⊥
  unfolding AreKeysAlong
  along_none h = elim (cases_lt j (b + width l)) [
    | inl lj ↦ rw (way_left b p l r j lj) at h
    | inr rj ↦ rw (way_right b p l r j rj) at h
  ]

  pub along_left : (o : Option (List ℕ)) (ks : Keys) → j < b + width l → AreKeysOnWay c F b (Branch p l r) j (o ∷ ks) → F p o × AreKeysOnWay c F b l j ks
  unfolding AreKeysAlong
  along_left o ks lj h = rw (way_left b p l r j lj, leaf_at_left b p l r j lj) at h

  pub along_right : (o : Option (List ℕ)) (ks : Keys) → b + width l ≤ j → AreKeysOnWay c F b (Branch p l r) j (o ∷ ks) → F p o × AreKeysOnWay c F (b + width l) r j ks
  unfolding AreKeysAlong
  along_right o ks rj h = rw (way_right b p l r j rj, leaf_at_right b p l r j rj) at h

  pub left_along : (o : Option (List ℕ)) (ks : Keys) → j < b + width l → F p o → AreKeysOnWay c F b l j ks → AreKeysOnWay c F b (Branch p l r) j (o ∷ ks)
  unfolding AreKeysAlong
  left_along o ks lj f h = rw (way_left b p l r j lj, leaf_at_left b p l r j lj) (f, h)

  pub right_along : (o : Option (List ℕ)) (ks : Keys) → b + width l ≤ j → F p o → AreKeysOnWay c F (b + width l) r j ks → AreKeysOnWay c F b (Branch p l r) j (o ∷ ks)
  unfolding AreKeysAlong
  right_along o ks rj f h = rw (way_right b p l r j rj, leaf_at_right b p l r j rj) (f, h)

-- ---- tame edits of one side

module _ (j b : ℕ) (p q : Option Parent) (l l' r r' : Term) (same : width l' ≡ width l) (here : TameAt j p q) where
  pub tame_left : j < b + width l → Tame j b l l' → Tame j b (Branch p l r) (Branch q l' r')
  unfolding TameAlong
  tame_left lj h =
      let k : j < b + width l' = omega arith in
      record {
        along = rw (way_left b p l r j lj, way_left b q l' r' j k) (here, h.along);
        leaf = leaf_at_left b p l r j lj ∙ h.leaf ∙ sym (leaf_at_left b q l' r' j k);
      }

  pub tame_right : b + width l ≤ j → Tame j (b + width l) r r' → Tame j b (Branch p l r) (Branch q l' r')
  unfolding TameAlong
  tame_right rj h =
      let k : b + width l' ≤ j = omega arith in
      record {
        along = rw (way_right b p l r j rj, way_right b q l' r' j k, same) (here, h.along);
        leaf = leaf_at_right b p l r j rj ∙ h.leaf ∙ sym (leaf_at_right b q l' r' j k ∙ ap (λ n. leaf_at (b + n) r' j) same);
      }

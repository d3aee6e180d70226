-- A member's keys along another member's way: one list down to the parent where the ways part, and its own below.
use Rattle.std.proofs.Common.{◌≡◌, ℕ, ◌+◌, List, [], ◌∷◌, Option, inl, inr, arith}
use Rattle.std.proofs.lemmas.Bool.{cases_lt}
use Rattle.mls_leaf.specs.Parent.{Parent}
use Rattle.mls_tree_model.specs.Term.{Term, Leaf, Branch, width}
use Rattle.mls_tree_model.specs.Way.{Step, way, is_beside}
use Rattle.mls_tree_model.proofs.Equations.{way_left, way_right}
use Rattle.mls_tree_model.specs.Laws.{IsIn}
use Rattle.mls_suite.specs.Crypto.{Crypto}
use Rattle.mls_treekem_model.specs.Keys.{Keys, AreKeysOnWay}
use Rattle.mls_treekem_model.specs.Seal.{Choose}
use Rattle.mls_treekem_model.proofs.WayLaws.{within, below, beyond, along_none, along_left, along_right, left_along, right_along}

unfoldable pub Meets : Crypto → (Option Parent → Option (List ℕ) → Type 0) → ℕ → List Step → Keys → Type 0
Meets c F j [] ks = ⊥
Meets c F j (s ∷ ss) [] = ⊥
Meets c F j (s ∷ ss) (o ∷ ks) = F s.parent o × Choose (is_beside s j) (AreKeysOnWay c F s.first s.other j ks) (Meets c F j ss ks)

module _ (c : Crypto) (F : Option Parent → Option (List ℕ) → Type 0) (i j : ℕ) (ne : j ≡ i → ⊥) where
  pub meets_from : (b : ℕ) (t : Term) (ks : Keys) → IsIn b t i → IsIn b t j → AreKeysOnWay c F b t j ks → Meets c F j (way b t i) ks
  unfolding width Meets
  meets_from b (Leaf v) ks hi hj h = absurd (ne (omega arith))
  meets_from b (Branch p l r) [] hi hj h = absurd (along_none c F b p l r j h)
  meets_from b (Branch p l r) (o ∷ ks) hi hj h = elim (cases_lt i (b + width l)) [
    | inl li ↦ elim (cases_lt j (b + width l)) [
      | inl lj ↦
          let k = along_left c F b p l r j o ks lj h in
          let u = below (b + width l) (width r) j lj in
          rw (way_left b p l r i li, u) (k.0, meets_from b l ks (record { low = hi.low; high = li }) (record { low = hj.low; high = lj }) k.1)
      | inr rj ↦
          let k = along_right c F b p l r j o ks rj h in
          let u = within (b + width l) (width r) j rj (omega arith) in
          rw (way_left b p l r i li, u) (k.0, k.1)
    ]
    | inr ri ↦ elim (cases_lt j (b + width l)) [
      | inl lj ↦
          let k = along_left c F b p l r j o ks lj h in
          let u = within b (width l) j hj.low lj in
          rw (way_right b p l r i ri, u) (k.0, k.1)
      | inr rj ↦
          let k = along_right c F b p l r j o ks rj h in
          let u = beyond b (width l) j rj in
          rw (way_right b p l r i ri, u) (k.0, meets_from (b + width l) r ks (record { low = ri; high = omega arith }) (record { low = rj; high = omega arith }) k.1)
    ]
  ]

  pub along_from : (b : ℕ) (t : Term) (ks : Keys) → IsIn b t i → IsIn b t j → Meets c F j (way b t i) ks → AreKeysOnWay c F b t j ks
  unfolding width Meets
  along_from b (Leaf v) ks hi hj h = absurd (ne (omega arith))
  along_from b (Branch p l r) [] hi hj h = elim (cases_lt i (b + width l)) [
    | inl li ↦ absurd (rw (way_left b p l r i li) at h)
    | inr ri ↦ absurd (rw (way_right b p l r i ri) at h)
  ]
  along_from b (Branch p l r) (o ∷ ks) hi hj h = elim (cases_lt i (b + width l)) [
    | inl li ↦ elim (cases_lt j (b + width l)) [
      | inl lj ↦
          let k = rw (way_left b p l r i li, below (b + width l) (width r) j lj) at h in
          left_along c F b p l r j o ks lj k.0 (along_from b l ks (record { low = hi.low; high = li }) (record { low = hj.low; high = lj }) k.1)
      | inr rj ↦
          let k = rw (way_left b p l r i li, within (b + width l) (width r) j rj (omega arith)) at h in
          right_along c F b p l r j o ks rj k.0 k.1
    ]
    | inr ri ↦ elim (cases_lt j (b + width l)) [
      | inl lj ↦
          let k = rw (way_right b p l r i ri, within b (width l) j hj.low lj) at h in
          left_along c F b p l r j o ks lj k.0 k.1
      | inr rj ↦
          let k = rw (way_right b p l r i ri, beyond b (width l) j rj) at h in
          right_along c F b p l r j o ks rj k.0 (along_from (b + width l) r ks (record { low = ri; high = omega arith }) (record { low = rj; high = omega arith }) k.1)
    ]
  ]

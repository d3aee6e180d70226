-- When an added leaf makes a tree too large.
use Rattle.std.proofs.Common.{◌≡◌, ℕ, suc, ◌*◌, ◌^◌, ◌<◌, ◌≤◌, ◌==◌, true, false, ◌&&◌, not, Option, Some, None, is_none, refl, arith, inl, inr, eqb-true, pow-suc}
use Rattle.std.proofs.lemmas.Bool.{cases_lt, cases_Bool, lt-leb, eqb-false}
use Rattle.std.proofs.Math.Pow.{pow_mono}
use Rattle.mls_leaf.specs.declared.leaf.LeafNode.{LeafNode}
use Rattle.mls_tree_model.specs.Term.{Term, width, height, is_perfect}
use Rattle.mls_tree_model.specs.Edits.{grow, first_blank, add}
use Rattle.mls_tree_model.specs.Good.{is_within}
use Rattle.mls_tree_model.proofs.ShapeLaws.{width-perfect}
use Rattle.mls_tree_model.proofs.PlaceLaws.{width-grow}
use Rattle.mls_tree_model.proofs.SoundLaws.{within_from}
use Rattle.mls_tree_model.proofs.TakenLaws.{width-add, width_grown}

beyond_from : (limit : ℕ) (t : Term) → limit < width t → is_within limit t ≡ false
unfolding is_within
beyond_from limit t lt = lt-leb (width t) limit lt

-- a perfect tree within the limit that hasn't the most leaves may grow
grown_within : (k : ℕ) (t : Term) → is_perfect (height t) t ≡ true → width t ≤ 2 ^ k → (width t ≡ 2 ^ k → ⊥) → width (grow t) ≤ 2 ^ k
grown_within k t h low ne =
    let w = width_grown t h in
    let a = width-perfect (height t) t h in
    elim (cases_lt (height t) k) [
      | inl lt ↦
          let p : 2 ^ suc (height t) ≤ 2 ^ k = pow_mono lt in
          let q : 2 ^ suc (height t) ≡ 2 ^ height t * 2 = pow-suc 2 (height t) in
          omega arith
      | inr ge ↦
          let p : 2 ^ k ≤ 2 ^ height t = pow_mono ge in
          absurd (ne (omega arith))
    ]

-- a tree of the most leaves may not
grown_beyond : (k : ℕ) (t : Term) → is_perfect (height t) t ≡ true → width t ≡ 2 ^ k → 2 ^ k < width (grow t)
grown_beyond k t h full = let w = width-grow t in omega arith

pub add_within : (k : ℕ) (t : Term) (x : LeafNode) → is_perfect (height t) t ≡ true → width t ≤ 2 ^ k → is_within (2 ^ k) (add t x) ≡ not (is_none (first_blank 0 t) && (width t == 2 ^ k))
add_within k t x h low = go (first_blank 0 t) refl
  where
    go : (o : Option ℕ) → first_blank 0 t ≡ o → is_within (2 ^ k) (add t x) ≡ not (is_none o && (width t == 2 ^ k))
    go (Some i) e = let w = width-add t x (Some i) e in within_from (2 ^ k) (add t x) (omega arith)
    go None e =
        let w = width-add t x None e in
        elim (cases_Bool (width t == 2 ^ k)) [
          | inl full ↦ rw full (let g = grown_beyond k t h (eqb-true (width t) (2 ^ k) full) in beyond_from (2 ^ k) (add t x) (omega arith))
          | inr less ↦ rw less (let g = grown_within k t h low (eqb-false (width t) (2 ^ k) less) in within_from (2 ^ k) (add t x) (omega arith))
        ]

-- Laws: which numbers of leaves make a tree, and what the steps are there.
use Rattle.std.proofs.Common.{◌≡◌, ℕ, zero, suc, ◌-◌, ◌^◌, ◌<◌, ◌≤◌, inl, inr, List, map, Option, Some, None, refl, sym, ◌∙◌, ap, arith}
use Rattle.std.proofs.lemmas.Nat.{pow_below}
use Rattle.std.proofs.lemmas.Bool.{cond-true, cond-false, eq-eqb, ne_eqb, cases_order}
use Rattle.mls_treemath.specs.Limits.{max_height}
use Rattle.mls_treemath.specs.Paths.{Path, root_of, index_of, path_to}
use Rattle.mls_treemath.proofs.PathsLemmas.{leaves_in}
use Rattle.mls_treemath.proofs.Sizes.{width_perfect, root_of-leaves}
use Rattle.mls_treemath.specs.Steps.{height_below, height_of, common_front, step, step_among, indices_at_ends, walk_among, parting, parting_among, root_among, root_in}

-- a power of two below the limit has its exponent as height
pub height_found : (m d : ℕ) → d < m → height_below m (2 ^ d) ≡ Some d
unfolding height_below
height_found zero d h = absurd (omega arith)
height_found (suc m) d h =
    elim (cases_order d m) [
      | inl same ↦ rw same (cond-true _ _ _ (eq-eqb (2 ^ m) (2 ^ m) refl))
      | inr (inl below) ↦ cond-false _ _ _ (ne_eqb (2 ^ d) (2 ^ m) (λ e. let p : 2 ^ d < 2 ^ m = pow_below d m below in absurd (omega arith))) ∙ height_found m d below
      | inr (inr past) ↦ absurd (omega arith)
    ]

-- any other number has none
pub height_missed : (m n : ℕ) → ((d : ℕ) → d < m → n ≡ 2 ^ d → ⊥) → height_below m n ≡ None
unfolding height_below
height_missed zero n h = refl
height_missed (suc m) n h =
    cond-false _ _ _ (ne_eqb n (2 ^ m) (λ e. h m (omega arith) e)) ∙ height_missed m n (λ d low e. h d (omega arith) e)

pub height_of-pow : (d : ℕ) → d ≤ max_height → height_of (2 ^ d) ≡ Some d
height_of-pow d low = height_found (suc max_height) d (omega arith)

-- a number with a height is that power of two
pub record IsPower (m n d : ℕ) : Type 0 where
  pub leaves : n ≡ 2 ^ d
  pub low : d < m

power_more : (m n d : ℕ) → IsPower m n d → IsPower (suc m) n d
power_more m n d p = record { leaves = p.leaves; low = let l : d < m = p.low in omega arith }

pub power_below : (m n d : ℕ) → height_below m n ≡ Some d → IsPower m n d
unfolding height_below
power_below zero n d e = absurd cc
power_below (suc m) n d e = elim (cases_order n (2 ^ m)) [
  | inl same ↦
      let found : Some m ≡ Some d = sym (cond-true _ _ _ (eq-eqb n (2 ^ m) same)) ∙ e in
      let exact : m ≡ d = cc in
      record { leaves = same ∙ ap (λ k. 2 ^ k) exact; low = omega arith }
  | inr (inl low) ↦ power_more m n d (power_below m n d (sym (cond-false _ _ _ (ne_eqb n (2 ^ m) (λ s. absurd (omega arith)))) ∙ e))
  | inr (inr past) ↦ power_more m n d (power_below m n d (sym (cond-false _ _ _ (ne_eqb n (2 ^ m) (λ s. absurd (omega arith)))) ∙ e))
]

pub height_of-leaves : (n h : ℕ) → height_of n ≡ Some h → (n ≡ leaves_in h) × (h ≤ max_height)
height_of-leaves n h e =
    let p : IsPower (suc max_height) n h = power_below (suc max_height) n h e in
    let low : h < suc max_height = p.low in
    (p.leaves ∙ sym (width_perfect h), omega arith)

-- ---- the steps in a tree of n leaves, whose height is h

pub root_in-is : (n h : ℕ) → height_of n ≡ Some h → root_in n ≡ Some (n - 1)
unfolding root_among index_of
root_in-is n h tree =
    let l : n ≡ leaves_in h = (height_of-leaves n h tree).0 in
    let place : root_of h ≡ n - 1 = omega (arith, root_of-leaves h) in
    ap root_among tree ∙ ap Some place

pub step_in : (n h x : ℕ) (move : Path → Option Path) → height_of n ≡ Some h → step_among (height_of n) move x ≡ step h move x
unfolding step_among
step_in n h x move tree = ap (λ o. step_among o move x) tree

pub walk_in : (n h x : ℕ) (ways : Path → List Path) (p : Path) → height_of n ≡ Some h → path_to h x ≡ Some p → walk_among (height_of n) ways x ≡ map (index_of h) (ways p)
unfolding walk_among indices_at_ends
walk_in n h x ways p tree leads = ap (λ o. walk_among o ways x) tree ∙ ap (indices_at_ends h ways) leads

pub parting_in : (n h x y : ℕ) (p q : Path) → height_of n ≡ Some h → path_to h x ≡ Some p → path_to h y ≡ Some q → parting_among (height_of n) x y ≡ Some (index_of h (common_front p q))
unfolding parting_among parting
parting_in n h x y p q tree to_x to_y =
    ap (λ o. parting_among o x y) tree ∙ ap (λ o. parting h o (path_to h y)) to_x ∙ ap (parting h (Some p)) to_y

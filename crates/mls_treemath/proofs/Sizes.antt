-- Laws: how many nodes and leaves a tree of a height has, and where its middle is.
use Rattle.std.proofs.Common.{◌≡◌, ℕ, zero, suc, ◌+◌, ◌/◌, ◌^◌, ◌<◌, ◌≤◌, refl, sym, ◌∙◌, arith}
use Rattle.std.proofs.Math.Nat.{pow-suc}
use Rattle.std.proofs.lemmas.Nat.{pow_pos}
use Rattle.std.proofs.Math.Pow.{pow_mono}
use Rattle.mls_treemath.specs.Paths.{nodes_in, root_of}
use Rattle.mls_treemath.proofs.PathsLemmas.{leaves_in}

pub nodes_in-zero : nodes_in 0 ≡ 1
unfolding nodes_in
nodes_in-zero = refl

-- the left side, the middle and the right side
pub nodes_in-suc : (h : ℕ) → nodes_in (suc h) ≡ nodes_in h + suc (nodes_in h)
unfolding nodes_in
nodes_in-suc h = refl

pub nodes_in-pow : (h : ℕ) → suc (nodes_in h) ≡ 2 ^ suc h
unfolding nodes_in
nodes_in-pow zero = refl
nodes_in-pow (suc h) = omega (arith, nodes_in-pow h, pow-suc 2 (suc h))

pub nodes_in_pos : (h : ℕ) → 0 < nodes_in h
nodes_in_pos h = omega (arith, nodes_in-pow h, pow-suc 2 h, pow_pos h)

pub leaves_in-zero : leaves_in 0 ≡ 1
unfolding leaves_in
leaves_in-zero = refl

pub leaves_in-suc : (h : ℕ) → leaves_in (suc h) ≡ leaves_in h + leaves_in h
unfolding leaves_in
leaves_in-suc h = refl

-- a tree of height h has 2^h leaves
pub width_perfect : (h : ℕ) → leaves_in h ≡ 2 ^ h
unfolding leaves_in
width_perfect zero = refl
width_perfect (suc h) = omega (arith, width_perfect h, pow-suc 2 h)

pub leaves_in_pos : (h : ℕ) → 0 < leaves_in h
leaves_in_pos h = omega (arith, width_perfect h, pow_pos h)

-- n leaves make 2 n - 1 nodes
pub nodes_in-leaves : (h : ℕ) → suc (nodes_in h) ≡ leaves_in h + leaves_in h
nodes_in-leaves h = omega (arith, nodes_in-pow h, pow-suc 2 h, width_perfect h)

-- the root of n leaves is n - 1
pub suc-root_of : (h : ℕ) → suc (root_of h) ≡ 2 ^ h
unfolding root_of
suc-root_of zero = refl
suc-root_of (suc h) = nodes_in-pow h

pub root_of-leaves : (h : ℕ) → suc (root_of h) ≡ leaves_in h
root_of-leaves h = suc-root_of h ∙ sym (width_perfect h)

pub root_of-suc : (h : ℕ) → root_of (suc h) ≡ nodes_in h
unfolding root_of
root_of-suc h = refl

pub root_of-zero : root_of 0 ≡ 0
unfolding root_of
root_of-zero = refl

-- the middle of all nodes is the root, with as many before it as after it
pub middle_is : (h : ℕ) → nodes_in h / 2 ≡ root_of h
middle_is h = omega (arith, nodes_in-leaves h, root_of-leaves h)

pub root_within : (h : ℕ) → root_of h < nodes_in h
root_within h = omega (arith, nodes_in-leaves h, root_of-leaves h, leaves_in_pos h)

-- a higher tree has no fewer nodes
pub nodes_in_up : (h k : ℕ) → h ≤ k → nodes_in h ≤ nodes_in k
nodes_in_up h k low =
    omega (arith, nodes_in-pow h, nodes_in-pow k, pow_mono {i = suc h} {j = suc k} (omega arith))

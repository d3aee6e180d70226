-- The parents over a leaf by their numbers, as code goes over them.
use Rattle.std.specs.Prelude.{◌≡◌, ℕ, zero, suc, ◌+◌, ◌-◌, ◌*◌, ◌^◌, ◌<◌, ◌≤◌, nat_lt, if◌then◌else◌, true, List, [], ◌∷◌, ◌&&◌, length, map, None, nat_le, Bool, Option}
use Rattle.mls_tree_model.specs.Term.{Term, Leaf, size, is_perfect}
use Rattle.mls_tree_model.specs.Arrays.{parent_in, node_at}
use Rattle.mls_tree_model.specs.Places.{at_node, resolution_at, key_at}
use Rattle.mls_tree_model.specs.Resolution.{resolution}
use Rattle.mls_tree_model.specs.Way.{Step, way}
use Rattle.mls_treekem.specs.declared.places.Place.{Place}

abbrev pub place : ℕ → ℕ → ℕ → ℕ → Place
place n m b w = record { node = n; beside = m; first = b; leaves = w }

-- the parents over leaf i of a perfect tree of height h whose first leaf is b, the highest first
unfoldable pub places_from : ℕ → ℕ → ℕ → List Place
places_from zero b i = []
places_from (suc h) b i =
    if nat_lt i (b + 2 ^ h) then place (2 * b + (2 * 2 ^ h - 1)) (2 * (b + 2 ^ h) + (2 ^ h - 1)) (b + 2 ^ h) (2 ^ h) ∷ places_from h b i
    else place (2 * b + (2 * 2 ^ h - 1)) (2 * b + (2 ^ h - 1)) b (2 ^ h) ∷ places_from h (b + 2 ^ h) i

-- the subtree at node n of a whole tree, a blank leaf where there is none
unfoldable pub subtree_at : Term → ℕ → Term
subtree_at t n = at_node (Leaf None) (λ b u. u) 0 t n

-- what stands at a place of a whole tree
unfoldable pub step_of : Term → Place → Step
step_of t p = record { parent = parent_in (node_at 0 t p.node); node = p.node; first = p.first; other = subtree_at t p.beside }

-- the other side of a place is a perfect subtree of height h, with that first leaf
pub record IsPlaced (t : Term) (h : ℕ) (p : Place) : Type 0 where
  pub perfect : is_perfect h (subtree_at t p.beside) ≡ true
  pub leaves : p.leaves ≡ 2 ^ h
  pub resolved : resolution_at 0 t p.beside ≡ resolution p.first (subtree_at t p.beside)
  pub inside : (d : ℕ) → 2 * p.first ≤ d → d < 2 * p.first + size (subtree_at t p.beside) → node_at 0 t d ≡ node_at p.first (subtree_at t p.beside) d

unfoldable pub ArePlaced : Term → List Place → Type 0
ArePlaced t [] = Unit {0}
ArePlaced t (p ∷ ps) = IsPlaced t (length ps) p × ArePlaced t ps

-- places are those of the parents over leaf i of a whole tree
pub record IsWay (t : Term) (i : ℕ) (ps : List Place) : Type 0 where
  pub steps : map (step_of t) ps ≡ way 0 t i
  pub placed : ArePlaced t ps
  pub low : length ps ≤ 31

-- what stands at some places of a whole tree
abbrev pub steps_at : Term → List Place → List Step
steps_at t ps = map (step_of t) ps

-- whether leaf i is below the child beside
abbrev pub is_beside : Place → ℕ → Bool
is_beside p i = nat_le p.first i && nat_lt i (p.first + p.leaves)

-- the encryption key of node n, which is below the child beside or is that child: none where it is blank or elsewhere
abbrev pub key_beside : Term → Place → ℕ → Option (List ℕ)
key_beside t p n = key_at p.first (subtree_at t p.beside) n

-- The laws of node indices: an index and its way determine each other, and the common ancestor is the lowest node over both.
use Rattle.std.specs.Prelude.{◌≡◌, ℕ, ◌<◌, ◌≤◌, length, Some, None}
use Rattle.mls_treemath.specs.Paths.{Path, nodes_in, index_of, path_to}
use Rattle.mls_treemath.specs.Steps.{height_of, common_ancestor_of}
use Rattle.mls_treemath.specs.Fronts.{Under}

-- ---- nodes and ways (RFC 9420 section 4.1.2)

-- each node of a tree of height h has a way
abbrev pub NodeHasWay : Type 0
NodeHasWay = (h x : ℕ) → x < nodes_in h → (p : Path) × (path_to h x ≡ Some p)

-- its way is no longer than the tree is high, and leads to it
abbrev pub WayLeadsBack : Type 0
WayLeadsBack = (h x : ℕ) (p : Path) → path_to h x ≡ Some p → (x < nodes_in h) × (length p ≤ h) × (x ≡ index_of h p)

-- what is no longer than the tree is high leads to a node, whose way it is
abbrev pub NodeOfWay : Type 0
NodeOfWay = (h : ℕ) (p : Path) → length p ≤ h → (index_of h p < nodes_in h) × (path_to h (index_of h p) ≡ Some p)

-- no way leads outside the tree
abbrev pub NoWayOutside : Type 0
NoWayOutside = (h x : ℕ) → nodes_in h ≤ x → path_to h x ≡ None

-- ---- nodes over others

-- In a tree of height h the way to x begins with the way to a: x lies below a, or is a.
pub record IsOver (h a x : ℕ) : Type 0 where
  pub upper : Path
  pub lower : Path
  pub leads : path_to h a ≡ Some upper
  pub goes_on : path_to h x ≡ Some lower
  pub under : Under upper lower

-- a is over x and over y, and each other node over both is over a
pub record IsLowestOver (h x y a : ℕ) : Type 0 where
  pub over_first : IsOver h a x
  pub over_second : IsOver h a y
  pub lowest : (b : ℕ) → IsOver h b x → IsOver h b y → IsOver h b a

-- two nodes of a tree have a common ancestor, which is the lowest node over both (RFC 9420, Appendix C)
abbrev pub CommonAncestorIsLowest : Type 0
CommonAncestorIsLowest = (n h x y : ℕ) → height_of n ≡ Some h → x < nodes_in h → y < nodes_in h → (a : ℕ) × (common_ancestor_of n x y ≡ Some a) × IsLowestOver h x y a

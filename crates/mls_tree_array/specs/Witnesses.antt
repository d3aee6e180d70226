-- The node that ties a side to its parent (RFC 9420, 7.9.2).
use Rattle.std.specs.Prelude.{ℕ, ◌-◌, ◌==◌, Bool, not, if◌then◌else◌, ◌+◌, ◌*◌, ◌&&◌, ◌||◌, List, [], filter, Option, Some, None, nat_le, nat_lt}
use Rattle.std.specs.List.{find}
use Rattle.mls_leaf.specs.Parent.{Parent}
use Rattle.mls_tree_model.specs.Term.{Term, width}
use Rattle.mls_tree_model.specs.Sets.{has, within, leaf_numbers, is_same_set}
use Rattle.mls_tree_model.specs.Resolution.{resolution}

-- the node numbers of a list's leaves from leaf b on, below leaf e
abbrev pub numbers_in : ℕ → ℕ → List ℕ → List ℕ
numbers_in b e us = leaf_numbers (within b (e - b) us)

-- some nodes without one of them
abbrev pub others : ℕ → List ℕ → List ℕ
others d xs = filter (λ x. not (x == d)) xs

-- whether a node is d, or one of a list's leaves from leaf b on, below leaf e
abbrev pub is_or_among : List ℕ → ℕ → ℕ → ℕ → ℕ → Bool
is_or_among us b e d x = (x == d) || has (numbers_in b e us) x

-- whether leaf u is before leaf b or not below leaf e, or another node than d and among some nodes
abbrev pub is_out_or_other : ℕ → ℕ → List ℕ → ℕ → ℕ → Bool
is_out_or_other b e xs d u = not (nat_le b u && nat_lt u (b + (e - b))) || has (others d xs) (2 * u)

-- the first node that a list doesn't have
abbrev pub first_outside : List ℕ → List ℕ → Option ℕ
first_outside ls xs = find (λ x. not (has ls x)) xs

-- a node, where it passes a test
abbrev pub keep_if : (ℕ → Bool) → Option ℕ → Option ℕ
keep_if q None = None
keep_if q (Some d) = if q d then Some d else None

-- the one node of a resolution that isn't in a list, where all others are, and the list has no more
unfoldable pub only_outside : List ℕ → List ℕ → Option ℕ
only_outside ls xs = keep_if (λ d. is_same_set ls (others d xs)) (first_outside ls xs)

-- the only node that can tie the side c, whose first leaf is b, to the parent p
unfoldable pub candidate : Parent → ℕ → Term → Option ℕ
candidate p b c = only_outside (leaf_numbers (within b (width c) p.unmerged_leaves)) (resolution b c)

-- the leaves that a place lists, none where it is blank
abbrev pub unmerged_leaves_of : Option Parent → List ℕ
unmerged_leaves_of None = []
unmerged_leaves_of (Some p) = p.unmerged_leaves

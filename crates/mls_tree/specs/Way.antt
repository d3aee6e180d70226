-- The way from the root to a leaf, as node numbers.
use Rattle.std.specs.Prelude.{ℕ, zero, suc, ◌+◌, ◌*◌, ◌^◌, nat_lt, if◌then◌else◌, List, [], ◌∷◌}
use Rattle.mls_treemath.specs.Paths.{nodes_in}

-- the numbers of the nodes over leaf i, the highest first, and of that leaf (RFC 9420, 4.1.2 and Appendix C), in a
-- tree of height h whose first leaf is b
unfoldable pub numbers_from : ℕ → ℕ → ℕ → List ℕ
numbers_from zero b i = (2 * b) ∷ []
numbers_from (suc h) b i =
    (2 * b + nodes_in h) ∷ (if nat_lt i (b + 2 ^ h) then numbers_from h b i else numbers_from h (b + 2 ^ h) i)

-- the numbers of the nodes over leaf i of a whole tree, the highest first, and of that leaf
abbrev pub way_numbers : ℕ → ℕ → List ℕ
way_numbers h i = numbers_from h 0 i

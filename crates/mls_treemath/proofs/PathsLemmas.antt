-- The nodes of a tree in order: how an index and a way down from the root determine each other
-- (RFC 9420 section 4.1.2 and Appendix C).
use Rattle.std.specs.Prelude.{ℕ, zero, suc, ◌+◌, true, false, [], ◌∷◌}
use Rattle.mls_treemath.specs.Paths.{Path, nodes_in}

-- how many leaves it has
unfoldable pub leaves_in : ℕ → ℕ
leaves_in zero = 1
leaves_in (suc h) = leaves_in h + leaves_in h

-- the first node of the subtree that a way leads to, in a tree of height h
unfoldable pub first_under : ℕ → Path → ℕ
first_under h [] = 0
first_under zero (b ∷ p) = 0
first_under (suc h) (false ∷ p) = first_under h p
first_under (suc h) (true ∷ p) = suc (nodes_in h) + first_under h p

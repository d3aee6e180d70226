-- The cells of a subtree among those of a whole tree (RFC 9420, appendix C).
use Rattle.std.specs.Prelude.{◌≡◌, ℕ, ◌+◌, ◌*◌, List, ◌++◌, length, take, drop, Option}
use Rattle.mls_leaf.specs.declared.node.Node.{Node}
use Rattle.mls_treemath.specs.Paths.{nodes_in}
use Rattle.mls_tree_model.specs.Term.{Term, size}
use Rattle.mls_tree_model.specs.Arrays.{term_of}
use Rattle.mls_tree_array.specs.KeptHashes.{hashes_of}

-- what a list has for the subtree of height h whose first leaf is b
abbrev pub part : {A : Type 0} → ℕ → ℕ → List A → List A
part h b xs = take (nodes_in h) (drop (2 * b) xs)

-- a list with these in place of as many, from the cell of leaf b on
abbrev pub splice : {A : Type 0} → ℕ → List A → List A → List A
splice b ys xs = take (2 * b) xs ++ (ys ++ drop (2 * b + length ys) xs)

-- the subtree of height h whose first leaf is b
abbrev pub term_at : ℕ → ℕ → List (Option Node) → Term
term_at h b nodes = term_of h (part h b nodes)

-- the kept hashes of a tree whose first leaf is b are all those of its subtrees
abbrev pub AreHashesAt : ℕ → Term → List (Option (List ℕ)) → Type 0
AreHashesAt b t hs = take (size t) (drop (2 * b) hs) ≡ hashes_of b t

-- The path of the last commit that had one, as the parent hashes tell it.
use Rattle.std.specs.Prelude.{ℕ, ◌+◌, ◌*◌, ◌==◌, nat_lt, if◌then◌else◌, List, [], ◌∷◌, Option, Some, None}
use Rattle.std.specs.List.{find}
use Rattle.mls_leaf.specs.Parent.{Parent}
use Rattle.mls_tree_model.specs.Term.{Term, Leaf, Branch, width, size}
use Rattle.mls_tree_model.specs.Edits.{or_else}
use Rattle.mls_tree_model.specs.Resolution.{resolution}
use Rattle.mls_tree_model.specs.Hashes.{is_witness}

-- the witness of a parent on its side c, whose first leaf is b, by its other side s, whose first leaf is m (RFC 9420,
-- 7.9.2)
unfoldable pub witness : Parent → ℕ → Term → ℕ → Term → Option ℕ
witness p b c m s = find (is_witness p b c m s) (resolution b c)

-- the witness of a parent that may be blank: on its left side, or else on its right one
abbrev pub witness_of : Option Parent → ℕ → Term → Term → Option ℕ
witness_of None b l r = None
witness_of (Some p) b l r = or_else (witness p b l (b + width l) r) (witness p (b + width l) r b l)

-- what comes of a node, and nothing where there is none
abbrev pub nodes_from : (ℕ → List ℕ) → Option ℕ → List ℕ
nodes_from f None = []
nodes_from f (Some d) = f d

-- the chain of witnesses from node n of a tree whose first leaf is b: the node, its witness, the witness of that one, and
-- so on down to a leaf, as node numbers (RFC 9420, 7.9.2); nothing where no node has that number
unfoldable pub chain_at : ℕ → Term → ℕ → List ℕ
chain_at b (Leaf v) n = if n == 2 * b then n ∷ [] else []
chain_at b (Branch c l r) n =
    if n == 2 * b + size l
    then n ∷ nodes_from (λ d. if nat_lt d n then chain_at b l d else chain_at (b + width l) r d)
    (witness_of c b l r)
    else if nat_lt n (2 * b + size l) then chain_at b l n else chain_at (b + width l) r n

-- the path of the last commit that had one, from the root down to its leaf, as node numbers: the chain of witnesses from
-- the root (RFC 9420, 7.9.2); none where the root is blank or the tree is a leaf
unfoldable pub last_path : Term → List ℕ
last_path (Leaf v) = []
last_path (Branch None l r) = []
last_path (Branch (Some p) l r) = chain_at 0 (Branch (Some p) l r) (size l)

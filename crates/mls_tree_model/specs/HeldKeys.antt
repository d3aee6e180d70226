-- Which nodes of a tree whose first leaf is b a member has the keys of.
use Rattle.std.specs.Prelude.{ℕ, ◌+◌, ◌*◌, ◌==◌, nat_lt, Bool, not, if◌then◌else◌, List, filter}
use Rattle.mls_tree_model.specs.Term.{Term, Leaf, Branch, width, size}
use Rattle.mls_tree_model.specs.Resolution.{resolution}
use Rattle.mls_tree_model.specs.Lists.{may_list}

-- whether leaf j has the key of node d: d is j or a parent over j, and doesn't list j (RFC 9420, 4.2)
unfoldable pub holds_key_of : ℕ → Term → ℕ → ℕ → Bool
holds_key_of b (Leaf v) j d = d == 2 * b
holds_key_of b (Branch c l r) j d =
    if d == 2 * b + size l then not (may_list c j) else if nat_lt j (b + width l) then holds_key_of b l j d else holds_key_of (b + width l) r j d

-- the nodes of the resolution that leaf j has the keys of
abbrev pub held_nodes : ℕ → Term → ℕ → List ℕ
held_nodes b t j = filter (holds_key_of b t j) (resolution b t)

-- The path of any secrets and public keys, and a joiner's secret among them.
use Rattle.std.specs.Prelude.{ℕ, List, [], ◌∷◌, reverse, Option, Some, None, Result, if◌then◌else◌}
use Rattle.std.specs.List.{slice_get}
use Rattle.std.specs.Option.{option_map}
use Rattle.mls_wire.specs.Checks.{require_some}
use Rattle.mls_suite.specs.Crypto.{Crypto}
use Rattle.mls_types.specs.declared.update_path.UpdatePathNode.{UpdatePathNode}
use Rattle.mls_tree_model.specs.Term.{Term}
use Rattle.mls_tree_model.specs.Way.{Step, way, is_filtered, is_beside}
use Rattle.mls_treekem_model.specs.Make.{filtered_count}
use Rattle.mls_treekem_model.specs.Seal.{path_past, seal_all, seal_count, targets, with_ciphertexts}

-- a node of a path, where it has a secret and a key; the secret is sealed to the keys of some nodes of a tree
abbrev pub node_with : Crypto → List ℕ → ℕ → Term → (ℕ → List ℕ) → ℕ → List ℕ → Option (List ℕ) → Option (List ℕ) → Option UpdatePathNode
node_with c context b t rnd i ds (Some secret) (Some k) = with_ciphertexts k (seal_all c context secret b t rnd i ds)
node_with c context b t rnd i ds (Some secret) None = None
node_with c context b t rnd i ds None k = None

-- the path along a way, the highest node first; none where a filtered parent has no secret or no key, too
unfoldable pub seal_path_with : Crypto → List ℕ → List ℕ → (ℕ → List ℕ) → List (List ℕ) → List (List ℕ) → List Step → Option (List UpdatePathNode)
seal_path_with c context added rnd secrets keys [] = Some []
seal_path_with c context added rnd secrets keys (s ∷ ss) =
    path_past (is_filtered s)
    (node_with c context s.first s.other rnd (seal_count added ss) (targets added s) (slice_get secrets (filtered_count ss)) (slice_get keys (filtered_count ss)))
    (seal_path_with c context added rnd secrets keys ss)

-- the nodes of the path of leaf i of a whole tree, the lowest first; `BadKey` (36) where there is none
unfoldable pub sealed_path_with : Crypto → List ℕ → List ℕ → (ℕ → List ℕ) → List (List ℕ) → List (List ℕ) → Term → ℕ → Result (List UpdatePathNode) ℕ
sealed_path_with c context added rnd secrets keys t i = require_some 36 (option_map reverse (seal_path_with c context added rnd secrets keys (way 0 t i)))

-- among a path's secrets, the lowest node's first: that of the parent where a way and j's part, where there is one
unfoldable pub secret_among : List Step → ℕ → List (List ℕ) → Option (List ℕ)
secret_among [] j secrets = None
secret_among (s ∷ ss) j secrets = if is_beside s j then slice_get secrets (filtered_count ss) else secret_among ss j secrets

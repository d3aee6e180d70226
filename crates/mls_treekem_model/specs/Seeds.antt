-- What calls make of their seeds, and how much a commit seals.
use Rattle.std.specs.Prelude.{ℕ, ◌+◌, List, [], ◌∷◌, length, codes}
use Rattle.std.specs.Int.{w32}
use Rattle.mls_wire.specs.Reading.{uint}
use Rattle.mls_kdf.specs.Kdf.{derive_secret, expand_with_label}
use Rattle.mls_types.specs.declared.update_path.UpdatePathNode.{UpdatePathNode}

-- ---- keys, by DeriveSecret (RFC 9420, 8) under labels of our own

-- the input key material of the init key of a KeyPackage, made of the call's seed
unfoldable pub init_seed : List ℕ → List ℕ
init_seed seed = derive_secret seed (codes "seed init")

-- the input key material of a leaf's encryption key, made of the call's seed
unfoldable pub leaf_seed : List ℕ → List ℕ
leaf_seed seed = derive_secret seed (codes "seed leaf")

-- the private signature key, made of the call's seed
unfoldable pub sign_seed : List ℕ → List ℕ
sign_seed seed = derive_secret seed (codes "seed sign")

-- the first path secret, made of the call's seed
unfoldable pub path_seed : List ℕ → List ℕ
path_seed seed = derive_secret seed (codes "seed path")

-- ---- seals

-- the randomness of seal number i of a commit, from 0 on: first those of its path, node by node, the lowest first, then
-- those of its Welcome in the order of adds. It is made of the commit's seed by ExpandWithLabel (RFC 9420, 8) under a
-- label of our own; a seal's number is a uint32.
unfoldable pub seal_seed : List ℕ → ℕ → List ℕ
seal_seed seed i = expand_with_label seed (codes "seed seal") (uint w32 i) 32

-- how many seals nodes of a path have
unfoldable pub seal_count_of : List UpdatePathNode → ℕ
seal_count_of [] = 0
seal_count_of (n ∷ ns) = length n.ciphertexts + seal_count_of ns

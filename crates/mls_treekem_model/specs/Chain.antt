-- The secrets of a path, and the key pairs that they give (RFC 9420, 7.4).
use Rattle.std.specs.Prelude.{ℕ, zero, suc, List, [], ◌∷◌, ◌++◌, codes, map}
use Rattle.mls_kdf.specs.Kdf.{derive_secret}
use Rattle.mls_suite.specs.Crypto.{Crypto}
use Rattle.mls_tree_model.specs.Term.{Term}
use Rattle.mls_tree_model.specs.Way.{path_length}

-- the path secret of the next node above (RFC 9420, 7.4)
unfoldable pub next_secret : List ℕ → List ℕ
next_secret secret = derive_secret secret (codes "path")

-- the path secret k nodes on, from the first (RFC 9420, 7.4)
unfoldable pub chain : List ℕ → ℕ → List ℕ
chain start zero = start
chain start (suc k) = next_secret (chain start k)

-- the first k path secrets, the lowest node's first (RFC 9420, 7.4)
unfoldable pub path_secrets : List ℕ → ℕ → List (List ℕ)
path_secrets start zero = []
path_secrets start (suc k) = path_secrets start k ++ (chain start k ∷ [])

-- the private key of the node with a path secret (RFC 9420, 7.4)
unfoldable pub node_key : Crypto → List ℕ → List ℕ
node_key c secret = c.derive (derive_secret secret (codes "node"))

-- the public key of the node with a path secret (RFC 9420, 7.4)
abbrev pub node_public : Crypto → List ℕ → List ℕ
node_public c secret = c.public (node_key c secret)

-- the public keys of the first k path secrets, the highest node's first (RFC 9420, 7.4)
unfoldable pub chain_keys : Crypto → List ℕ → ℕ → List (List ℕ)
chain_keys c start zero = []
chain_keys c start (suc k) = node_public c (chain start k) ∷ chain_keys c start k

-- the public keys of the path of leaf i of a whole tree, from its first path secret, the lowest node's first (RFC 9420,
-- 7.4 and 7.5)
abbrev pub keys_of_path : Crypto → Term → ℕ → List ℕ → List (List ℕ)
keys_of_path c t i start = map (node_public c) (path_secrets start (path_length 0 t i))

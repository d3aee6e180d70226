-- A climb from a node to the root, and what a committer has of a new path (RFC 9420, 7.4 and 7.5).
use Rattle.std.specs.Prelude.{ℕ, suc, Bool, true, false, List, [], ◌∷◌, Option, Some, None, ◌≡◌, ◌≤◌, length, if◌then◌else◌, Result, Ok, Err}
use Rattle.std.specs.Str.{bytes_eq}
use Rattle.mls_suite.specs.Crypto.{Crypto}
use Rattle.mls_tree_model.specs.Way.{Step, is_filtered, way, filtered_path}
use Rattle.mls_treekem_model.specs.Chain.{next_secret, chain, node_key, node_public}
use Rattle.mls_treekem_model.specs.Keys.{Keys, PrivateKeys, all_keys, keys_on_way}
use Rattle.mls_tree_model.specs.Term.{Term, is_perfect}

-- A climb goes from a node up to the root, and derives the path secret and the private key of each node on the way (RFC
-- 9420, 7.4). Where it stands: the path secret of the next node above, and the private keys from there down.
pub record Climb : Type 0 where
  pub secret : List ℕ
  pub keys : Keys

-- one more, where this is so
abbrev pub one_if : Bool → ℕ → ℕ
one_if true n = suc n
one_if false n = n

-- how many parents of a way are on the filtered direct path (RFC 9420, 4.1.2)
unfoldable pub filtered_count : List Step → ℕ
filtered_count [] = 0
filtered_count (s ∷ ss) = one_if (is_filtered s) (filtered_count ss)

-- the path secret above the parents of a way, from the first one: one step on for each filtered parent; above all
-- parents over a leaf it is the commit secret (RFC 9420, 7.4 and 8)
abbrev pub secret_above : List Step → List ℕ → List ℕ
secret_above ss start = chain start (filtered_count ss)

-- the key, where this is so
abbrev pub key_if : Bool → List ℕ → Option (List ℕ)
key_if true k = Some k
key_if false k = None

-- the committer's private keys, from the first path secret and its leaf's key: at each filtered parent that of its path
-- secret (RFC 9420, 7.5)
unfoldable pub made_keys : Crypto → List Step → List ℕ → List ℕ → Keys
made_keys c [] start sk = Some sk ∷ []
made_keys c (s ∷ ss) start sk = key_if (is_filtered s) (node_key c (secret_above ss start)) ∷ made_keys c ss start sk

-- what the committer's climb ends with: the commit secret and its private keys (RFC 9420, 7.5)
abbrev pub climb_make : Crypto → List Step → List ℕ → List ℕ → Climb
climb_make c ss start sk = record { secret = secret_above ss start; keys = made_keys c ss start sk }

-- a climb past a node that has a key: it takes its key and the next secret (RFC 9420, 7.4)
abbrev pub climb_past_node : Crypto → Climb → Climb
climb_past_node c m = record { secret = next_secret m.secret; keys = Some (node_key c m.secret) ∷ m.keys }

-- a climb past a node that has no key
abbrev pub climb_past_blank : Climb → Climb
climb_past_blank m = record { secret = m.secret; keys = None ∷ m.keys }

-- a climb past a node with this public key: `PathKeyMismatch` (34) where the derived one differs (RFC 9420, 7.5)
abbrev pub climb_past_key : Crypto → List ℕ → Climb → Result Climb ℕ
climb_past_key c k m = if bytes_eq (node_public c m.secret) k then Ok (climb_past_node c m) else Err 34

-- a climb past a parent, where the filtered direct path takes it in and where it doesn't
abbrev pub climb_past : Crypto → Bool → Climb → Climb
climb_past c true m = climb_past_node c m
climb_past c false m = climb_past_blank m

-- a key before others, where this is so
abbrev pub more_if : Bool → List ℕ → List (List ℕ) → List (List ℕ)
more_if true k ks = k ∷ ks
more_if false k ks = ks

-- the path's public keys, the highest first (RFC 9420, 7.5)
unfoldable pub path_keys : Crypto → List Step → List ℕ → List (List ℕ)
path_keys c [] start = []
path_keys c (s ∷ ss) start = more_if (is_filtered s) (node_public c (secret_above ss start)) (path_keys c ss start)

-- a climb to a secret that gives a member its keys
abbrev pub climb_to : List ℕ → PrivateKeys → Climb
climb_to secret p = record { secret = secret; keys = all_keys p }

-- a member has made a path of these nodes: in each tree where they are its filtered direct path it has the committer's
-- keys (RFC 9420, 7.5)
pub record HasMade (c : Crypto) (start : List ℕ) (filtered : List ℕ) (old new : PrivateKeys) : Type 0 where
  pub leaf : new.leaf ≡ old.leaf
  pub own : new.own ≡ old.own
  pub keys : (h : ℕ) (t : Term) → is_perfect h t ≡ true → h ≤ 32 → filtered ≡ filtered_path 0 t old.leaf → keys_on_way (way 0 t old.leaf) (all_keys new) ≡ made_keys c (way 0 t old.leaf) start old.own
  pub low : (h : ℕ) (t : Term) → is_perfect h t ≡ true → h ≤ 32 → filtered ≡ filtered_path 0 t old.leaf → length new.above ≤ h

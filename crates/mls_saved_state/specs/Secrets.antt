-- The secrets of a saved form.
use Rattle.std.specs.Prelude.{◌≡◌, ℕ, ◌==◌, ◌≤◌, nat_le, Bool, true, List, length, Option, Some, None, Result, Ok}
use Rattle.std.specs.List.{list_all}
use Rattle.mls_wire.specs.Checks.{require, ◌>>◌}

-- how many keys a member has above its leaf at most: as many as a tree of 32 levels has over a leaf
abbrev pub max_keys : ℕ
max_keys = 32

-- whether bytes are a secret
abbrev pub is_secret : List ℕ → Bool
is_secret bytes = length bytes == 32

-- whether bytes that may be left out are a secret
abbrev pub is_none_or_secret : Option (List ℕ) → Bool
is_none_or_secret None = true
is_none_or_secret (Some bytes) = is_secret bytes

-- a secret: `BadSecret` (101) unless it has 32 bytes
abbrev pub secret_in : List ℕ → Result (List ℕ) ℕ
secret_in bytes = require 101 (is_secret bytes) >> Ok bytes

-- a secret that may be left out
abbrev pub optional_secret_in : Option (List ℕ) → Result (Option (List ℕ)) ℕ
optional_secret_in bytes = require 101 (is_none_or_secret bytes) >> Ok bytes

-- keys: `BadSecret` (101) where one hasn't 32 bytes
abbrev pub each_secret_in : List (Option (List ℕ)) → Result (List (Option (List ℕ))) ℕ
each_secret_in keys = require 101 (list_all is_none_or_secret keys) >> Ok keys

-- the keys above a leaf: `BadSecret` (101) where there are too many, or one hasn't 32 bytes
unfoldable pub keys_in : List (Option (List ℕ)) → Result (List (Option (List ℕ))) ℕ
keys_in keys = require 101 (nat_le (length keys) max_keys) >> each_secret_in keys

-- keys as a member has them above its leaf
pub record AreKeys (keys : List (Option (List ℕ))) : Type 0 where
  pub few : length keys ≤ max_keys
  pub secrets : list_all is_none_or_secret keys ≡ true

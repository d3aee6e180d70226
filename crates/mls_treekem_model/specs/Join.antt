-- What a joiner takes from a path secret (RFC 9420, 12.4.3.1).
use Rattle.std.specs.Prelude.{◌≡◌, ℕ, nat_lt, not, ◌&&◌, ◌||◌, if◌then◌else◌, Bool, true, false, List, [], ◌∷◌, Option, Some, None, is_some, Result, Ok, Err}
use Rattle.std.specs.Str.{bytes_eq}
use Rattle.mls_wire.specs.Reading.{◌>>=◌}
use Rattle.mls_leaf.specs.Parent.{Parent}
use Rattle.mls_suite.specs.Crypto.{Crypto}
use Rattle.mls_tree_model.specs.Sets.{has}
use Rattle.mls_tree_model.specs.Term.{Term, width}
use Rattle.mls_tree_model.specs.Way.{Step, way, is_beside}
use Rattle.mls_treekem_model.specs.Chain.{node_public}
use Rattle.mls_treekem_model.specs.Keys.{Keys, rest, leaf_only, PrivateKeys, all_keys, keys_on_way}
use Rattle.mls_treekem_model.specs.Make.{Climb, climb_past_blank, climb_past_node, secret_above}

-- a climb past a parent: a blank one takes no step, another one has the derived public key (RFC 9420, 12.4.3.1) and,
-- which the standard doesn't ask, doesn't list the joiner, else `PathKeyMismatch` (34)
abbrev pub climb_past_present : Crypto → ℕ → Option Parent → Climb → Result Climb ℕ
climb_past_present c j None m = Ok (climb_past_blank m)
climb_past_present c j (Some p) m =
    if not (has p.unmerged_leaves j) && bytes_eq (node_public c m.secret) p.encryption_key
    then Ok (climb_past_node c m)
    else Err 34

-- the parent where the ways part isn't blank, else `PathKeyMismatch` (34)
abbrev pub require_present : Option Parent → Climb → Result Climb ℕ
require_present None m = Err 34
require_present (Some p) m = Ok m

-- the climb of joiner j along the signer's way, from the path secret of the parent where the ways part, with the keys
-- that it holds (RFC 9420, 12.4.3.1)
unfoldable pub climb_take : Crypto → List Step → ℕ → Keys → List ℕ → Result Climb ℕ
climb_take c [] j ks secret = Err 34
climb_take c (s ∷ ss) j ks secret =
    (if is_beside s j then require_present s.parent (record { secret = secret; keys = rest ks })
    else climb_take c ss j (rest ks) secret)
    >>= λ m. climb_past_present c j s.parent m

-- whether the key of a parent is there if it is due: the parent is blank or lists the joiner, or there is a key
abbrev pub is_due : ℕ → Option Parent → Option (List ℕ) → Bool
is_due j None o = true
is_due j (Some p) o = has p.unmerged_leaves j || is_some o

-- whether at no parent of a way the joiner's key is missing
unfoldable pub is_complete : ℕ → List Step → Keys → Bool
is_complete j [] ks = true
is_complete j (s ∷ ss) [] = false
is_complete j (s ∷ ss) (o ∷ ks) = is_due j s.parent o && is_complete j ss ks

-- what joiner j, whose leaf has this key, takes in a whole tree that leaf i signed: the commit secret, and its keys.
-- `PathKeyMismatch` (34) where a parent over both is not as it must be (RFC 9420, 12.4.3.1); `KeyMissing` (35) where a
-- key that is due is missing, which the standard doesn't ask: with that key missing the member couldn't open each path
-- that is sealed to it
unfoldable pub take_keys : Crypto → Term → ℕ → ℕ → List ℕ → List ℕ → Result Climb ℕ
take_keys c t i j sk secret =
    climb_take c (way 0 t i) j (leaf_only (way 0 t j) sk) secret
    >>= λ m. if is_complete j (way 0 t j) m.keys then Ok m else Err 35

-- what joiner j takes with any signer: `PathKeyMismatch` (34) where the signer's leaf is outside the tree
unfoldable pub take_answer : Crypto → Term → ℕ → ℕ → List ℕ → List ℕ → Result Climb ℕ
take_answer c t i j sk secret = if nat_lt i (width t) then take_keys c t i j sk secret else Err 34

-- ---- a tree that a joiner meets

-- a parent that isn't blank lists leaf j
abbrev pub ListsAt : ℕ → Option Parent → Type 0
ListsAt j None = Unit {0}
ListsAt j (Some p) = has p.unmerged_leaves j ≡ true

-- each parent of a way that isn't blank lists leaf j
unfoldable pub AllList : ℕ → List Step → Type 0
AllList j [] = Unit {0}
AllList j (s ∷ ss) = ListsAt j s.parent × AllList j ss

-- the committer's path secret of the parent where its way and j's part (RFC 9420, 12.4.3.1)
unfoldable pub secret_for : List Step → ℕ → List ℕ → List ℕ
secret_for [] j start = start
secret_for (s ∷ ss) j start = if is_beside s j then secret_above ss start else secret_for ss j start

-- ---- the keys that are due

-- whether a member has each key that is due on a way (RFC 9420, 12.4.3.1)
abbrev pub has_due_on : PrivateKeys → List Step → Bool
has_due_on p ss = is_complete p.leaf ss (keys_on_way ss (all_keys p))

-- whether a member has each key that is due at the parents over its leaf in a whole tree (RFC 9420, 12.4.3.1)
abbrev pub has_due : Term → PrivateKeys → Bool
has_due t p = has_due_on p (way 0 t p.leaf)

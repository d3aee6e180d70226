-- What a receiver takes from a path (RFC 9420, 7.5 and 7.6).
use Rattle.std.specs.Prelude.{ℕ, ◌==◌, if◌then◌else◌, Bool, true, false, List, [], ◌∷◌, length, reverse, codes, Option, Some, None, Result, Ok, Err}
use Rattle.mls_wire.specs.Reading.{◌>>=◌}
use Rattle.mls_wire.specs.Checks.{require_some}
use Rattle.mls_types.specs.declared.update_path.HpkeCiphertext.{HpkeCiphertext}
use Rattle.mls_types.specs.declared.update_path.UpdatePathNode.{UpdatePathNode}
use Rattle.mls_suite.specs.Crypto.{Crypto}
use Rattle.mls_suite.specs.Labels.{decrypt_with_label}
use Rattle.mls_tree_model.specs.Term.{Term}
use Rattle.mls_tree_model.specs.Way.{Step, way, is_filtered, is_beside}
use Rattle.mls_treekem_model.specs.Keys.{Keys, rest, key_in}
use Rattle.mls_treekem_model.specs.Make.{Climb, one_if, climb_past_blank, climb_past_key}
use Rattle.mls_treekem_model.specs.Seal.{targets}

-- of a list with an item for each filtered parent of a way, those for the parents below: all but the first where this
-- parent is filtered
abbrev pub nodes_below : {A : Type 0} → Bool → List A → List A
nodes_below false xs = xs
nodes_below true xs = rest xs

-- ---- at the lowest parent over both the committer and the receiver

-- what is sealed in a ciphertext (RFC 9420, 7.6)
unfoldable pub unseal_secret : Crypto → List ℕ → List ℕ → HpkeCiphertext → Option (List ℕ)
unseal_secret c context sk x = decrypt_with_label c sk (codes "UpdatePathNode") context x.kem_output x.ciphertext

-- a path secret has 32 bytes, else `SecretLength` (33)
abbrev pub secret_of : List ℕ → Result (List ℕ) ℕ
secret_of secret = if length secret == 32 then Ok secret else Err 33

-- the path secret in a ciphertext: `OpenFailed` (32) where it doesn't open, `SecretLength` (33) where that isn't 32
-- bytes (RFC 9420, 7.6)
abbrev pub secret_in : Crypto → List ℕ → List ℕ → HpkeCiphertext → Result (List ℕ) ℕ
secret_in c context k x = require_some 32 (unseal_secret c context k x) >>= secret_of

-- the path secret in a ciphertext where its key is held, else what comes later
abbrev pub open_with : Crypto → List ℕ → Option (List ℕ) → HpkeCiphertext → Result (List ℕ) ℕ → Result (List ℕ) ℕ
open_with c context (Some k) x later = secret_in c context k x
open_with c context None x later = later

-- the path secret in the ciphertext of the first node whose key is held: `OpenFailed` (32) where none is held
-- (RFC 9420, 7.5)
unfoldable pub open_first : Crypto → List ℕ → (ℕ → Option (List ℕ)) → List ℕ → List HpkeCiphertext → Result (List ℕ) ℕ
open_first c context keys [] xs = Err 32
open_first c context keys (d ∷ ds) [] = Err 32
open_first c context keys (d ∷ ds) (x ∷ xs) = open_with c context (keys d) x (open_first c context keys ds xs)

-- the ciphertexts of a path's first node
abbrev pub first_ciphertexts : List UpdatePathNode → List HpkeCiphertext
first_ciphertexts [] = []
first_ciphertexts (n ∷ ns) = n.ciphertexts

-- the climb of member j begins at the lowest parent over it and the committer, with the path secret that it opens there
-- and its keys below
abbrev pub open_at_ancestor : Crypto → List ℕ → List ℕ → Step → ℕ → Keys → List UpdatePathNode → Result Climb ℕ
open_at_ancestor c context added s j ks ns =
    open_first c context (key_in s.first s.other j ks) (targets added s) (first_ciphertexts ns)
    >>= λ secret. Ok (record { secret = secret; keys = ks })

-- the path secret that member j opens there, along the committer's way
unfoldable pub opened_along : Crypto → List ℕ → List ℕ → List Step → ℕ → Keys → List UpdatePathNode → Result (List ℕ) ℕ
opened_along c context added [] j ks ns = Err 32
opened_along c context added (s ∷ ss) j ks ns =
    if is_beside s j then open_first c context (key_in s.first s.other j (rest ks)) (targets added s) (first_ciphertexts ns)
    else opened_along c context added ss j (rest ks) (nodes_below (is_filtered s) ns)

-- the path secret that is opened of the path of leaf i in a whole tree, whose nodes come the lowest first: `OpenFailed`
-- (32) where no ciphertext is for the member or its own doesn't open, `SecretLength` (33) where that isn't 32 bytes
-- (RFC 9420, 7.6)
unfoldable pub opened_secret : Crypto → List ℕ → List ℕ → Term → ℕ → ℕ → Keys → List UpdatePathNode → Result (List ℕ) ℕ
opened_secret c context added t i j ks path = opened_along c context added (way 0 t i) j ks (reverse path)

-- how many parents of the filtered direct path there are, from the lowest over both leaves up
unfoldable pub filtered_from : List Step → ℕ → ℕ
filtered_from [] j = 0
filtered_from (s ∷ ss) j = one_if (is_filtered s) (if is_beside s j then 0 else filtered_from ss j)

-- ---- above that parent

-- a climb past a filtered parent: the derived public key is the one that the path gives, else `PathKeyMismatch` (34)
-- (RFC 9420, 7.5)
abbrev pub climb_past_filtered : Crypto → List UpdatePathNode → Climb → Result Climb ℕ
climb_past_filtered c [] m = Err 34
climb_past_filtered c (n ∷ ns) m = climb_past_key c n.encryption_key m

-- a climb past a parent, which it checks where the filtered direct path takes it in
abbrev pub climb_past_parent : Crypto → Bool → List UpdatePathNode → Climb → Result Climb ℕ
climb_past_parent c true ns m = climb_past_filtered c ns m
climb_past_parent c false ns m = Ok (climb_past_blank m)

-- member j's climb along the committer's way, with the keys that it holds and the path's nodes, the highest first
-- (RFC 9420, 7.5)
unfoldable pub climb_open : Crypto → List ℕ → List ℕ → List Step → ℕ → Keys → List UpdatePathNode → Result Climb ℕ
climb_open c context added [] j ks ns = Err 32
climb_open c context added (s ∷ ss) j ks ns =
    (if is_beside s j then open_at_ancestor c context added s j (rest ks) ns
    else climb_open c context added ss j (rest ks) (nodes_below (is_filtered s) ns))
    >>= λ m. climb_past_parent c (is_filtered s) ns m

-- what member j of a whole tree takes of the path of leaf i, whose nodes come the lowest first: the commit secret, and
-- its new keys. `OpenFailed` (32) where its ciphertext doesn't open, `SecretLength` (33) where that isn't 32 bytes,
-- `PathKeyMismatch` (34) where a derived public key differs (RFC 9420, 7.5)
unfoldable pub opened_path : Crypto → List ℕ → List ℕ → Term → ℕ → ℕ → Keys → List UpdatePathNode → Result Climb ℕ
opened_path c context added t i j ks path = climb_open c context added (way 0 t i) j ks (reverse path)

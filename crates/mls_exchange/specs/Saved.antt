-- How an exchange is saved, and what is checked where its keys are taken over. The form is this project's own.
use Rattle.std.specs.Prelude.{◌≡◌, ℕ, ◌≤◌, ◌==◌, true, List, length, Result, Ok, Err, refl}
use Rattle.std.proofs.Common.{lit<}
use Rattle.std.specs.Global.{Vec}
use Rattle.mls_wire.specs.Format.{Format}
use Rattle.mls_wire.specs.Combine.{◌⨾◌, image, behind, mark, byte_string, uint32, uint64}
use Rattle.mls_wire.specs.CombineReads.{IsNonempty}
use Rattle.mls_wire.specs.Checks.{Passed, passed, require, ◌>>◌}
use Rattle.mls_wire.specs.Reading.{◌>>=◌}
use Rattle.mls_wire.specs.ReadFaults.{HasFaults, mark_faults, pair_faults, behind_answered, seen_answered, byte_string_faults, uint32_faults, uint64_faults}
use Rattle.mls_wire.specs.Whole.{whole}
use Rattle.mls_leaf.specs.Faults.{Refuses, Spells}
use Rattle.mls_leaf.specs.Limits.{input_limit}
use Rattle.mls_leaf.specs.Nonempty.{behind_nonempty, mark_nonempty}
use Rattle.mls_leaf.specs.declared.error.LeafError.{LeafError}
use Rattle.mls_secret_tree.specs.Saved.{saved_tree}
use Rattle.mls_secret_tree.specs.SavedFaults.{saved_tree_faults}
use Rattle.mls_secret_tree.specs.SecretTree.{Tree, is_fresh}
use Rattle.mls_exchange.specs.declared.save.LentExchange.{LentExchange}
use Rattle.mls_exchange.specs.declared.save.SavedExchange.{SavedExchange}
use Rattle.mls_exchange.specs.State.{State}
use Rattle.mls_exchange.specs.Opening.{checks_of_place}

-- ---- the form

-- group_id<V>, uint64 epoch, uint32 leaf, the secret tree
abbrev pub saved_parts : Format SavedExchange
saved_parts = image (byte_string ⨾ uint64 ⨾ uint32 ⨾ saved_tree)
    (λ x. record { group_id = x.0; epoch = x.1.0; leaf = x.1.1.0; keys = x.1.1.1 })
    (λ v. (v.group_id, (v.epoch, (v.leaf, v.keys)))) (λ v. refl) (λ x _. refl)

-- uint16 version (3, else `BadTag` (7)), and the parts
unfoldable pub saved_exchange : Format SavedExchange
saved_exchange = behind (mark 3 7 (lit< tt)) saved_parts

-- a spelling begins with the version
pub saved_exchange_nonempty : IsNonempty saved_exchange
unfolding saved_exchange
saved_exchange_nonempty =
    behind_nonempty (mark 3 7 (lit< tt)) saved_parts (mark_nonempty 3 7 (lit< tt))

pub saved_exchange_faults : HasFaults saved_exchange
unfolding saved_exchange
saved_exchange_faults =
    let keys = pair_faults uint32_faults saved_tree_faults in
    let parts = pair_faults byte_string_faults (pair_faults uint64_faults keys) in
    record { answers = behind_answered _ (mark_faults 3 7 (lit< tt) refl) (seen_answered _ parts) }

-- ---- saving

-- a saved exchange that is lent
abbrev pub seen : LentExchange → SavedExchange
seen x =
    record { group_id = x.group_id.now; epoch = x.epoch; leaf = x.leaf; keys = x.keys.now }

-- an exchange as it is saved: where its messages belong, its leaf, and what the keys not used yet are derived from
abbrev pub saved_of : State → SavedExchange
saved_of s =
    record { group_id = s.group_id; epoch = s.epoch; leaf = s.leaf; keys = s.keys }

-- a saved exchange has a spelling, of no more bytes than an input has
abbrev pub FitsInput : SavedExchange → Type 0
FitsInput v = saved_exchange.Fits v × (length (saved_exchange.spell v) ≤ input_limit)

-- What a call returned is the one spelling of a saved exchange, of no more bytes than an input has. The error is want of
-- memory, or `TooLong` (6) where there is none.
abbrev pub Saves : SavedExchange → Result (Vec ℕ) LeafError → Type 0
Saves v (Ok bytes) = Spells saved_exchange v bytes.items × (length bytes.items ≤ input_limit)
Saves v (Err e) = Refuses (FitsInput v) e

-- ---- going on with saved keys

-- whether saved keys belong to an exchange: `OtherGroup` (111), `OtherEpoch` (112), `BadTag` (7) of another leaf or of a
-- tree of another height
unfoldable pub checks_of_saved : State → SavedExchange → Result Passed ℕ
checks_of_saved s v =
    checks_of_place s v.group_id v.epoch >> require 7 (v.leaf == s.leaf)
    >> require 7 (v.keys.height == s.keys.height)

-- what is refused before: `KeyUsed` (116) where the exchange used a key itself, and the first fault of bytes that no
-- exchange was saved as
unfoldable pub saved_at : State → List ℕ → Result SavedExchange ℕ
saved_at s bytes = require 116 (is_fresh s.keys) >> whole saved_exchange input_limit bytes

-- the keys that the bytes hold for an exchange
unfoldable pub keys_at : State → List ℕ → Result Tree ℕ
keys_at s bytes = do
  v ← saved_at s bytes
  checks_of_saved s v
  Ok v.keys

-- the exchange with the keys that the bytes hold
unfoldable pub restore : State → List ℕ → Result (Passed × State) ℕ
restore s bytes = keys_at s bytes >>= λ keys. Ok (passed, record s { keys = keys })

-- ---- what was saved is restored

-- the exchange as its member makes it in the same epoch, before it uses a key
pub record IsStartOf (s first : State) : Type 0 where
  pub same : first ≡ record s { keys = first.keys }
  pub fresh : is_fresh first.keys ≡ true
  pub height : first.keys.height ≡ s.keys.height

-- by these bytes the exchange goes on as it was
abbrev pub RestoresAsWas : State → List ℕ → Type 0
RestoresAsWas s bytes = (first : State) → IsStartOf s first → restore first bytes ≡ Ok (passed, s)

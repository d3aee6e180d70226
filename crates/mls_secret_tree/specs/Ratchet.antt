-- A ratchet for application data: what it holds, and what it holds after a key was taken (RFC 9420, 9.1 and 9.2).
use Rattle.std.specs.Prelude.{◌≡◌, ℕ, zero, suc, ◌+◌, ◌-◌, ◌==◌, nat_lt, not, if◌then◌else◌, List, [], ◌∷◌, ◌++◌, filter, Option, Some, None, Result, Ok, Err, IfOk}
use Rattle.mls_secret_tree.specs.declared.secrets.MessageKey.{MessageKey}
use Rattle.mls_secret_tree.specs.declared.ratchet.KeptKey.{KeptKey}
use Rattle.mls_secret_tree.specs.Secrets.{application_secret, message_key, next_ratchet_secret}

-- how many generations a ratchet goes ahead of the next one, and how far before the last one it keeps keys; WINDOW in
-- the code
abbrev pub window : ℕ
window = 1000

-- a ratchet holds the ratchet secret of the next generation, and the keys of earlier ones that were passed over
pub record Ratcheting : Type 0 where
  pub next : ℕ
  pub secret : List ℕ
  pub kept : List KeptKey

-- the ratchet of a leaf at first, from the leaf's node secret (RFC 9420, 9)
unfoldable pub first_ratchet : List ℕ → Ratcheting
first_ratchet secret = record { next = 0; secret = application_secret secret; kept = [] }

-- ---- generations passed over

-- the key of a generation, with its number, from its ratchet secret (RFC 9420, 9.1)
unfoldable pub kept_key : List ℕ → ℕ → KeptKey
kept_key secret generation = record { generation = generation; key = message_key secret generation }

-- the keys of n generations from this one on, from its ratchet secret (RFC 9420, 9.1)
unfoldable pub passed_keys : List ℕ → ℕ → ℕ → List KeptKey
passed_keys secret generation zero = []
passed_keys secret generation (suc n) =
    kept_key secret generation
    ∷ passed_keys (next_ratchet_secret secret generation) (suc generation) n

-- the ratchet secret n generations after this one, from its ratchet secret (RFC 9420, 9.1)
unfoldable pub passed_secret : List ℕ → ℕ → ℕ → List ℕ
passed_secret secret generation zero = secret
passed_secret secret generation (suc n) =
    passed_secret (next_ratchet_secret secret generation) (suc generation) n

-- a call adds the keys of the generations from `first` to the one before `end` to those that are kept
abbrev pub AddsKeys : {A E : Type 0} → List ℕ → ℕ → ℕ → List KeptKey → List KeptKey →
    Result A E → Type 0
AddsKeys secret first end old new result =
    IfOk result (λ _. new ≡ old ++ passed_keys secret first (end - first))

-- ---- kept keys

-- the kept key of a generation, if there is one
unfoldable pub find_key : ℕ → List KeptKey → Option MessageKey
find_key generation [] = None
find_key generation (k ∷ ks) =
    if k.generation == generation then Some k.key else find_key generation ks

-- the kept keys of other generations
unfoldable pub other_keys : ℕ → List KeptKey → List KeptKey
other_keys generation keys = filter (λ k. not (k.generation == generation)) keys

-- the kept keys that lie within the window before a generation
unfoldable pub near_keys : ℕ → List KeptKey → List KeptKey
near_keys generation keys = filter (λ k. not (nat_lt (k.generation + window) generation)) keys

-- ---- taking a key

-- the key of a generation before the next, and the ratchet without it; `KeyUsed` (116) where it isn't kept
unfoldable pub take_kept : Ratcheting → ℕ → Option MessageKey → Result (MessageKey × Ratcheting) ℕ
take_kept r generation None = Err 116
take_kept r generation (Some key) =
    Ok (key, record { next = r.next; secret = r.secret; kept = other_keys generation r.kept })

-- the key of a generation, from its ratchet secret, and the ratchet behind it, which keeps these keys
unfoldable pub take_new : List ℕ → ℕ → List KeptKey → MessageKey × Ratcheting
take_new secret generation keys = (
  message_key secret generation,
  record {
    next = suc generation;
    secret = next_ratchet_secret secret generation;
    kept = keys;
  },
)

-- the key of a generation from the next on, and the ratchet behind it: it keeps the keys that are passed over, and of
-- the others those within the window
unfoldable pub take_ahead : Ratcheting → ℕ → MessageKey × Ratcheting
take_ahead r generation =
    take_new (passed_secret r.secret r.next (generation - r.next)) generation
    (near_keys generation r.kept ++ passed_keys r.secret r.next (generation - r.next))

-- the key of a generation, and the ratchet after it was used: `GenerationTooFar` (115) beyond the window, `KeyUsed`
-- (116) where the key was used or is gone
unfoldable pub take_key : Ratcheting → ℕ → Result (MessageKey × Ratcheting) ℕ
take_key r generation =
    if nat_lt generation r.next then take_kept r generation (find_key generation r.kept)
    else if nat_lt (r.next + window) generation then Err 115
    else Ok (take_ahead r generation)

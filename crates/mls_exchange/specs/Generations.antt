-- The laws of generations: none falls, none opens twice, and messages open in whatever order (RFC 9420, 6.3 and 9).
use Rattle.std.specs.Prelude.{◌≡◌, ◌≢◌, ℕ, ◌+◌, ◌^◌, ◌<◌, ◌≤◌, true, List, [], ◌∷◌, Option, Some, None, Result, Ok, Err}
use Rattle.mls_leaf.specs.declared.leaf.LeafNode.{LeafNode}
use Rattle.mls_suite.specs.Crypto.{Crypto}
use Rattle.mls_secret_tree.specs.Ratchet.{window}
use Rattle.mls_secret_tree.specs.SecretTree.{next_generation}
use Rattle.mls_secret_tree.specs.Holding.{holds, IsTreeOf}
use Rattle.mls_secret_tree.specs.Generations.{next_of}
use Rattle.mls_exchange.specs.declared.open.Opened.{Opened}
use Rattle.mls_exchange.specs.State.{State}
use Rattle.mls_exchange.specs.Sealing.{seal_message}
use Rattle.mls_exchange.specs.Opening.{open_message}
use Rattle.mls_exchange.specs.Laws.{IsInRange, OfOneEpoch, IsOwnLeaf, Arrives, Call, Seal, Open, after_call, after_calls}

-- ---- none falls

-- whatever is called, no leaf's next generation falls
abbrev pub NextNeverFalls : Crypto → Type 0
NextNeverFalls c = (encryption_secret : List ℕ) (s : State) (calls : List Call) (leaf : ℕ)
    → IsTreeOf encryption_secret s.keys
    → leaf < 2 ^ s.keys.height → next_of s.keys leaf ≤ next_of (after_calls c s calls).keys leaf

-- a key that opened or sealed lies before the next generation of its leaf
abbrev pub OpenedLiesBehind : Crypto → Type 0
OpenedLiesBehind c = (encryption_secret : List ℕ) (s after : State) (bytes : List ℕ) (o : Opened)
    → IsTreeOf encryption_secret s.keys
    → open_message c s bytes ≡ Ok (o, after) → o.generation < next_of after.keys o.leaf_index

-- each message of a member takes a later generation than those that it sealed before
abbrev pub SealsLater : Crypto → Type 0
SealsLater c =
    (encryption_secret : List ℕ) (s after : State) (application_data authenticated_data : List ℕ)
    (padding : ℕ) (seed bytes : List ℕ)
    (calls : List Call) (generation later : ℕ) → IsTreeOf encryption_secret s.keys
    → seal_message c s application_data authenticated_data padding seed ≡ Ok (bytes, after)
    → next_generation s.keys s.leaf ≡ Some generation
    → next_generation (after_calls c after calls).keys s.leaf ≡ Some later → generation < later

-- ---- none opens twice

-- whatever is called after it was opened, a message is refused with `KeyUsed` (116)
abbrev pub OpensOnce : Crypto → Type 0
OpensOnce c =
    (encryption_secret : List ℕ) (s after : State) (bytes : List ℕ) (o : Opened) (calls : List Call)
    → IsTreeOf encryption_secret s.keys
    → open_message c s bytes ≡ Ok (o, after)
    → open_message c (after_calls c after calls) bytes ≡ Err 116

-- ---- in whatever order

-- the leaf and the generation under whose key a message was sealed, if that wasn't refused
abbrev pub sealed_under : State → Result (List ℕ × State) ℕ → Option (ℕ × ℕ)
sealed_under s (Ok x) = Some (s.leaf, next_of s.keys s.leaf)
sealed_under s (Err n) = None

-- the leaf and the generation under whose key a message opened, if that wasn't refused
abbrev pub opened_under : Result (Opened × State) ℕ → Option (ℕ × ℕ)
opened_under (Ok x) = Some (x.0.leaf_index, x.0.generation)
opened_under (Err n) = None

-- the leaf and the generation whose key a call uses, if it isn't refused
abbrev pub key_of : Crypto → State → Call → Option (ℕ × ℕ)
key_of c s (Seal application_data authenticated_data padding seed) =
    sealed_under s (seal_message c s application_data authenticated_data padding seed)
key_of c s (Open bytes) = opened_under (open_message c s bytes)

-- it is of another leaf, or of another generation that doesn't leave this one further back than the window
abbrev pub Spares : ℕ → ℕ → Option (ℕ × ℕ) → Type 0
Spares leaf generation None = Unit {0}
Spares leaf generation (Some key) = key.0 ≡ leaf
    → (key.1 ≢ generation) × (key.1 ≤ generation + window)

-- so do all of the calls
abbrev pub AllSpare : Crypto → ℕ → ℕ → State → List Call → Type 0
AllSpare c leaf generation s [] = Unit {0}
AllSpare c leaf generation s (call ∷ calls) =
    Spares leaf generation (key_of c s call)
    × AllSpare c leaf generation (after_call c s call) calls

-- a key that can be derived still can be after calls that spare it
abbrev pub StaysHeld : Crypto → Type 0
StaysHeld c = (encryption_secret : List ℕ) (s : State) (calls : List Call) (leaf generation : ℕ)
    → IsTreeOf encryption_secret s.keys
    → holds s.keys leaf generation ≡ true → AllSpare c leaf generation s calls
    → holds (after_calls c s calls).keys leaf generation ≡ true

-- what was sealed arrives, and is refused ever after
pub record ArrivesOnce (c : Crypto) (s r : State) (leaf : LeafNode) (generation : ℕ)
    (application_data authenticated_data bytes : List ℕ) : Type 0 where
  pub arrives : Arrives c s r leaf generation application_data authenticated_data bytes
  pub again : (later : List Call)
      → open_message c (after_calls c arrives.after later) bytes ≡ Err 116

-- what a member seals opens, once, at each state that shares its epoch and can derive the key, after whatever that
-- opened and sealed in between, in whatever order, as long as it spared the key and the key isn't too far ahead
abbrev pub ArrivesInAnyOrder : Crypto → Type 0
ArrivesInAnyOrder c =
    (encryption_secret : List ℕ) (s after r : State) (leaf : LeafNode)
    (application_data authenticated_data : List ℕ) (padding : ℕ)
    (seed bytes : List ℕ) (generation : ℕ) (between : List Call)
    → IsInRange s → OfOneEpoch encryption_secret s r → IsOwnLeaf c s leaf
    → seal_message c s application_data authenticated_data padding seed ≡ Ok (bytes, after)
    → next_generation s.keys s.leaf ≡ Some generation
    → holds r.keys s.leaf generation ≡ true → AllSpare c s.leaf generation r between
    → generation ≤ next_of (after_calls c r between).keys s.leaf + window
    → ArrivesOnce c s (after_calls c r between) leaf generation
    application_data authenticated_data bytes

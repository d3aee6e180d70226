-- The laws of secret trees: which keys they give, and that each is given once (RFC 9420, 9).
use Rattle.std.specs.Prelude.{◌≡◌, ◌≢◌, ℕ, ◌+◌, ◌^◌, ◌<◌, ◌≤◌, true, false, List, [], ◌∷◌, Result, Ok, Err}
use Rattle.mls_wire.specs.Reading.{◌>>=◌}
use Rattle.mls_treemath.specs.Paths.{leaf_path}
use Rattle.mls_secret_tree.specs.Secrets.{application_key}
use Rattle.mls_secret_tree.specs.Ratchet.{window}
use Rattle.mls_secret_tree.specs.Held.{next_below}
use Rattle.mls_secret_tree.specs.SecretTree.{Tree, Drafted, first_tree, draft_key, keep_draft}
use Rattle.mls_secret_tree.specs.Holding.{holds, IsTreeOf}

-- ---- at first

-- a tree at first is one of its encryption secret, and each key of each leaf can be derived
pub record IsFresh (encryption_secret : List ℕ) (t : Tree) : Type 0 where
  pub is : IsTreeOf encryption_secret t
  pub all : (leaf generation : ℕ) → leaf < 2 ^ t.height → holds t leaf generation ≡ true

-- the first tree of an encryption secret is so
abbrev pub FirstIsFresh : Type 0
FirstIsFresh = (encryption_secret : List ℕ) (height : ℕ)
    → IsFresh encryption_secret (first_tree encryption_secret height)

-- ---- one key

-- the draft of a key has the key that the encryption secret gives, and leaves a tree of the same secret behind
pub record IsDraftOf (encryption_secret : List ℕ) (t : Tree) (leaf generation : ℕ)
    (d : Drafted) : Type 0 where
  pub key : d.key ≡ application_key encryption_secret t.height leaf generation
  pub behind : IsTreeOf encryption_secret (keep_draft t d)

-- each draft of a tree of an encryption secret is so
abbrev pub KeysAreDerived : Type 0
KeysAreDerived = (encryption_secret : List ℕ) (t : Tree) (leaf generation : ℕ) (d : Drafted)
    → IsTreeOf encryption_secret t
    → draft_key t leaf generation ≡ Ok d → IsDraftOf encryption_secret t leaf generation d

-- when a key is drafted, and when it is refused
pub record IsAnswered (t : Tree) (leaf generation : ℕ) : Type 0 where
  pub outside : 2 ^ t.height ≤ leaf → draft_key t leaf generation ≡ Err 114
  pub too_far : leaf < 2 ^ t.height
      → next_below t.root (leaf_path t.height leaf) + window < generation
      → draft_key t leaf generation ≡ Err 115
  pub used : leaf < 2 ^ t.height → holds t leaf generation ≡ false
      → draft_key t leaf generation ≡ Err 116
  pub drafted : leaf < 2 ^ t.height
      → generation ≤ next_below t.root (leaf_path t.height leaf) + window
      → holds t leaf generation ≡ true
      → (d : Drafted) × (draft_key t leaf generation ≡ Ok d)

-- each leaf and each generation is answered so
abbrev pub EachIsAnswered : Type 0
EachIsAnswered = (encryption_secret : List ℕ) (t : Tree) (leaf generation : ℕ)
    → IsTreeOf encryption_secret t → IsAnswered t leaf generation

-- ---- what stays, and what is gone

-- what a tree holds after a key was used: nothing that the key is derived from, all that others within the window are
-- derived from, and nothing that it didn't hold (RFC 9420, 9.2)
pub record LosesOne (t : Tree) (leaf generation : ℕ) (u : Tree) : Type 0 where
  pub gone : holds u leaf generation ≡ false
  pub others : (other k : ℕ) → other ≢ leaf → holds u other k ≡ holds t other k
  pub near : (k : ℕ) → k ≢ generation → generation ≤ k + window → holds u leaf k ≡ holds t leaf k
  pub no_more : (other k : ℕ) → holds u other k ≡ true → holds t other k ≡ true

-- a key that is used is gone, with what it is derived from
abbrev pub UsedIsGone : Type 0
UsedIsGone = (encryption_secret : List ℕ) (t : Tree) (leaf generation : ℕ) (d : Drafted)
    → IsTreeOf encryption_secret t
    → draft_key t leaf generation ≡ Ok d → LosesOne t leaf generation (keep_draft t d)

-- ---- many keys

-- the tree after a key was used
abbrev pub use_key : Tree → ℕ × ℕ → Result Tree ℕ
use_key t u = draft_key t u.0 u.1 >>= λ d. Ok (keep_draft t d)

-- the tree after these keys were used, of leaves in generations
abbrev pub use_keys : Tree → List (ℕ × ℕ) → Result Tree ℕ
use_keys t [] = Ok t
use_keys t (u ∷ us) = use_key t u >>= λ v. use_keys v us

-- whatever keys were used before, in whatever order, a key is the one that the encryption secret gives
abbrev pub WhateverOrder : Type 0
WhateverOrder =
    (encryption_secret : List ℕ) (height : ℕ) (before : List (ℕ × ℕ)) (t : Tree)
    (leaf generation : ℕ) (d : Drafted)
    → use_keys (first_tree encryption_secret height) before ≡ Ok t
    → draft_key t leaf generation ≡ Ok d
    → d.key ≡ application_key encryption_secret height leaf generation

-- whatever keys are used after it, a used key is refused, and nothing is held that it is derived from
pub record IsSpent (t : Tree) (leaf generation : ℕ) : Type 0 where
  pub refused : draft_key t leaf generation ≡ Err 116
  pub gone : holds t leaf generation ≡ false

-- a key is used once, whichever were used before it
abbrev pub NeverTwice : Type 0
NeverTwice =
    (encryption_secret : List ℕ) (height : ℕ) (before after : List (ℕ × ℕ)) (leaf generation : ℕ)
    (t u v : Tree)
    → use_keys (first_tree encryption_secret height) before ≡ Ok t
    → use_key t (leaf, generation) ≡ Ok u → use_keys u after ≡ Ok v
    → IsSpent v leaf generation

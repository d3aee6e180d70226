-- What a call on a feed adds to the message that it holds.
use Rattle.std.specs.Prelude.{ℕ, List, ◌++◌, ◌≡◌, take}
use Rattle.sha2.specs.Hashers.{Holds256}
use Rattle.mls_tree_hash.specs.declared.feed.Feed.{Feed}

-- the hasher has the front of the message, and the rest waits
unfoldable pub Holds : Feed → List ℕ → Type 0
Holds f text = (front : List ℕ) × Holds256 f.hasher front × (front ++ take f.waiting f.block ≡ text)

-- from one state to the other these bytes were added to the message, whatever it was
pub record Feeds (old : Feed) (bytes : List ℕ) (new : Feed) : Type 0 where
  pub fed : (text : List ℕ) → Holds old text → Holds new (text ++ bytes)

-- Which keys can be derived from what a secret tree holds (RFC 9420, 9.2), and that all that it holds is what its place
-- says.
use Rattle.std.specs.Prelude.{◌≡◌, ℕ, zero, suc, ◌^◌, ◌<◌, nat_lt, Bool, true, false, not, ◌&&◌, ◌||◌, List, [], ◌∷◌, Some, is_some}
use Rattle.mls_treemath.specs.Paths.{Path, leaf_path}
use Rattle.mls_secret_tree.specs.declared.secrets.MessageKey.{MessageKey}
use Rattle.mls_secret_tree.specs.Secrets.{child_secret, application_secret, message_key, ratchet_secret}
use Rattle.mls_secret_tree.specs.Ratchet.{Ratcheting, find_key}
use Rattle.mls_secret_tree.specs.Held.{Held, Whole, LeafRatchet, Parted}
use Rattle.mls_secret_tree.specs.SecretTree.{Tree}

-- ---- what can be derived

-- whether a ratchet holds what the key of a generation is derived from: the ratchet secret of this generation or of an
-- earlier one, or the key itself
unfoldable pub ratchet_holds : Ratcheting → ℕ → Bool
ratchet_holds r generation = not (nat_lt generation r.next) || is_some (find_key generation r.kept)

-- whether anything that the key of a generation is derived from is held along a way to its leaf: the secret of a node
-- on the way, or what the leaf's ratchet holds
unfoldable pub holds_below : Held → Path → ℕ → Bool
holds_below (Whole secret) way generation = true
holds_below (LeafRatchet r) way generation = ratchet_holds r generation
holds_below (Parted left right) [] generation = false
holds_below (Parted left right) (false ∷ way) generation = holds_below left way generation
holds_below (Parted left right) (true ∷ way) generation = holds_below right way generation

-- whether a tree holds anything that the key of a leaf in a generation is derived from
unfoldable pub holds : Tree → ℕ → ℕ → Bool
holds t leaf generation =
    nat_lt leaf (2 ^ t.height) && holds_below t.root (leaf_path t.height leaf) generation

-- ---- what is held where

-- a ratchet that began with this secret holds its next ratchet secret, and of earlier generations their keys
-- (RFC 9420, 9.1)
pub record IsRatchetOf (first : List ℕ) (r : Ratcheting) : Type 0 where
  pub secret : r.secret ≡ ratchet_secret first r.next
  pub kept : (generation : ℕ) (key : MessageKey) → find_key generation r.kept ≡ Some key
      → (generation < r.next) × (key ≡ message_key (ratchet_secret first generation) generation)

-- this is held below the node of a height with a secret: the secret itself, or what comes of it below (RFC 9420, 9)
abbrev pub IsHeldOf : Held → ℕ → List ℕ → Type 0
IsHeldOf (Whole held) height secret = held ≡ secret
IsHeldOf (LeafRatchet r) zero secret = IsRatchetOf (application_secret secret) r
IsHeldOf (LeafRatchet r) (suc height) secret = ⊥
IsHeldOf (Parted left right) zero secret = ⊥
IsHeldOf (Parted left right) (suc height) secret =
    IsHeldOf left height (child_secret false secret)
    × IsHeldOf right height (child_secret true secret)

-- a tree is one of an encryption secret, whichever keys were used
abbrev pub IsTreeOf : List ℕ → Tree → Type 0
IsTreeOf encryption_secret t = IsHeldOf t.root t.height encryption_secret

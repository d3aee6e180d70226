-- The laws of generations: no leaf's next generation ever falls (RFC 9420, 9.1).
use Rattle.std.specs.Prelude.{◌≡◌, ◌≢◌, ℕ, suc, max, ◌^◌, ◌<◌, ◌≤◌, List, Ok}
use Rattle.mls_treemath.specs.Paths.{leaf_path}
use Rattle.mls_secret_tree.specs.Held.{next_below}
use Rattle.mls_secret_tree.specs.SecretTree.{Tree, Drafted, draft_key, keep_draft}
use Rattle.mls_secret_tree.specs.Holding.{IsTreeOf}
use Rattle.mls_secret_tree.specs.Laws.{use_keys}

-- the first generation of a leaf of which no key was made yet
abbrev pub next_of : Tree → ℕ → ℕ
next_of t leaf = next_below t.root (leaf_path t.height leaf)

-- the next generation of each leaf, after a key was used: that of the key's leaf lies behind the key, and each other
-- one is as before
pub record MovesOn (t : Tree) (leaf generation : ℕ) (u : Tree) : Type 0 where
  pub own : next_of u leaf ≡ max (next_of t leaf) (suc generation)
  pub others : (other : ℕ) → other < 2 ^ t.height → other ≢ leaf → next_of u other ≡ next_of t other

-- each use of a key moves on so
abbrev pub UseMovesOn : Type 0
UseMovesOn = (encryption_secret : List ℕ) (t : Tree) (leaf generation : ℕ) (d : Drafted)
    → IsTreeOf encryption_secret t
    → draft_key t leaf generation ≡ Ok d → MovesOn t leaf generation (keep_draft t d)

-- whatever keys are used, no next generation falls
abbrev pub NextNeverFalls : Type 0
NextNeverFalls = (encryption_secret : List ℕ) (t u : Tree) (used : List (ℕ × ℕ)) (leaf : ℕ)
    → IsTreeOf encryption_secret t
    → use_keys t used ≡ Ok u → leaf < 2 ^ t.height → next_of t leaf ≤ next_of u leaf

-- Parents, and lists of leaf indices that rise (RFC 9420, 7.1).
use Rattle.std.specs.Prelude.{◌≡◌, ℕ, ◌+◌, ◌==◌, nat_lt, nat_le, Bool, true, not, ◌&&◌, if◌then◌else◌, List, [], ◌∷◌, length, filter, insert, ◌≤◌}

-- What a parent holds (RFC 9420, section 7.1): its public key, its parent hash, and the unmerged leaves, which are
-- those below it that do not know its private key.
pub record Parent : Type 0 where
  pub encryption_key : List ℕ
  pub parent_hash : List ℕ
  pub unmerged_leaves : List ℕ

-- Whether each number is above the one before it, and the first is no less than a bound (RFC 9420, 7.1).
unfoldable pub rises_from : ℕ → List ℕ → Bool
rises_from low [] = true
rises_from low (x ∷ xs) = nat_le low x && rises_from (x + 1) xs

-- Whether each number is above the one before it.
abbrev pub rises : List ℕ → Bool
rises xs = rises_from 0 xs

-- A number put into a rising list, where it stands once (RFC 9420, 7.1 and 12.1.1).
unfoldable pub rising_with : ℕ → List ℕ → List ℕ
rising_with x [] = x ∷ []
rising_with x (y ∷ ys) = if nat_lt x y then x ∷ y ∷ ys else if x == y then y ∷ ys else y ∷ rising_with x ys

-- The list without a leaf.
abbrev pub without_leaf : ℕ → List ℕ → List ℕ
without_leaf leaf xs = filter (λ u. not (u == leaf)) xs

-- The parent has these parts, and its unmerged leaves rise.
abbrev pub IsParentOf : List ℕ → List ℕ → List ℕ → Parent → Type 0
IsParentOf encryption_key parent_hash unmerged_leaves p =
    (p ≡ record { encryption_key = encryption_key; parent_hash = parent_hash; unmerged_leaves = unmerged_leaves }) × (rises unmerged_leaves ≡ true)

-- The leaf isn't among the entries, and has to be put there so that they still rise.
abbrev pub IsPlaceFor : ℕ → List ℕ → ℕ → Type 0
IsPlaceFor leaf entries place =
    (place ≤ length entries) × (rising_with leaf entries ≡ insert entries place leaf) × (without_leaf leaf (rising_with leaf entries) ≡ entries)

-- The parent with a leaf among its unmerged ones.
abbrev pub with_unmerged : ℕ → Parent → Parent
with_unmerged leaf p = record p { unmerged_leaves = rising_with leaf p.unmerged_leaves }

-- The leaf is one of the unmerged ones, so that putting it among them changes nothing.
abbrev pub ListsUnmerged : ℕ → Parent → Type 0
ListsUnmerged leaf p = rising_with leaf p.unmerged_leaves ≡ p.unmerged_leaves

-- The later parent lists the leaf, and beside it what the earlier one lists.
abbrev pub HasNewUnmerged : ℕ → Parent → Parent → Type 0
HasNewUnmerged leaf old new = without_leaf leaf new.unmerged_leaves ≡ old.unmerged_leaves

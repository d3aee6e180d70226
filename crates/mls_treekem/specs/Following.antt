-- A member's keys after edits of the tree, as code has them, and as pairs.
use Rattle.std.specs.Prelude.{◌≡◌, ℕ, ◌++◌, List, reverse, Option}
use Rattle.std.specs.Borrow.{Bor}
use Rattle.std.specs.Global.{Vec}
use Rattle.std.specs.Option.{option_copied}
use Rattle.mls_tree.specs.Tree.{Tree, term}
use Rattle.mls_treekem_model.specs.Height.{as_pairs, follow_above, HasFollowed, pairs_from}
use Rattle.mls_treekem_model.specs.Keys.{PrivateKeys, all_keys}
use Rattle.mls_treekem_model.specs.Pairs.{Pair}
use Rattle.mls_treekem.specs.declared.places.Place.{Place}
use Rattle.mls_treekem.specs.Place.{steps_at}

-- the key of each parent at some places that isn't blank was added, the lowest one's first
abbrev pub AddsKept : Tree → List Place → PrivateKeys → Vec (Option (List ℕ)) → Vec (Option (List ℕ)) → Type 0
AddsKept tree places p old new =
    reverse new.items ≡ follow_above (steps_at (term tree) places) (all_keys p) ++ reverse old.items

-- a member has followed edits that made this tree, where its leaf may have a new key
abbrev pub FollowsEdit : Option (Bor (List ℕ)) → Tree → PrivateKeys → PrivateKeys → Type 0
FollowsEdit own tree old new = HasFollowed (option_copied own) (term tree) old new

-- these keys of nodes were added
abbrev pub AddsPairs : List Pair → Vec (ℕ × List ℕ) → Vec (ℕ × List ℕ) → Type 0
AddsPairs pairs old new = as_pairs new.items ≡ as_pairs old.items ++ pairs

-- the keys that a member has in a perfect tree of height h, whose first leaf is b, were added
abbrev pub AddsPairsFrom : ℕ → ℕ → PrivateKeys → Vec (ℕ × List ℕ) → Vec (ℕ × List ℕ) → Type 0
AddsPairsFrom h b p old new = AddsPairs (pairs_from h b p.leaf (all_keys p)) old new

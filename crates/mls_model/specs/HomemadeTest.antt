-- A test that computes whether a journal is homemade; `IsHomemade` says in plain words what it finds.
use Rattle.std.specs.Prelude.{ℕ, ◌==◌, Bool, true, false, ◌&&◌, List, [], ◌∷◌, map, filter}
use Rattle.std.specs.List.{list_all}
use Rattle.std.specs.Str.{bytes_eq}
use Rattle.mls_model.specs.declared.origin.Origin.{Origin}
use Rattle.mls_model.specs.declared.origin.Origin.TheVariants as from
use Rattle.mls_model.specs.Journal.{Entry, Journal, CommitMade}

-- ---- equality

-- whether two origins are creations of one number, or GroupInfos of the same bytes
abbrev pub is_same_origin : Origin → Origin → Bool
is_same_origin (from.Creation k) (from.Creation n) = k == n
is_same_origin (from.Creation k) (from.GroupInfo g) = false
is_same_origin (from.GroupInfo f) (from.Creation n) = false
is_same_origin (from.GroupInfo f) (from.GroupInfo g) = bytes_eq f g

-- whether two lists of messages have the same bytes, one by one
unfoldable pub are_same_bytes : List (List ℕ) → List (List ℕ) → Bool
are_same_bytes [] [] = true
are_same_bytes [] (y ∷ ys) = false
are_same_bytes (x ∷ xs) [] = false
are_same_bytes (x ∷ xs) (y ∷ ys) = bytes_eq x y && are_same_bytes xs ys

-- whether two entries have the same commit and the same messages
abbrev pub is_same_entry : Entry → Entry → Bool
is_same_entry d e = bytes_eq d.commit e.commit && are_same_bytes d.named_messages e.named_messages

-- whether two lists of entries are the same, one by one
unfoldable pub are_same_entries : List Entry → List Entry → Bool
are_same_entries [] [] = true
are_same_entries [] (y ∷ ys) = false
are_same_entries (x ∷ xs) [] = false
are_same_entries (x ∷ xs) (y ∷ ys) = is_same_entry x y && are_same_entries xs ys

-- whether two journals have the same origin and the same entries
abbrev pub is_same_journal : Journal → Journal → Bool
is_same_journal j l = is_same_origin j.origin l.origin && are_same_entries j.entries l.entries

-- ---- homemade journals

-- whether a journal with this origin began with a creation, not with a GroupInfo
abbrev pub is_creation : Origin → Bool
is_creation (from.Creation k) = true
is_creation (from.GroupInfo g) = false

-- the epoch secrets that commit calls reached which made this entry at this journal
unfoldable pub reached_epochs : List CommitMade → Journal → Entry → List (List ℕ)
reached_epochs made j e = map (λ (d : CommitMade). d.epoch_secret)
    (filter (λ (d : CommitMade). is_same_journal d.journal j && is_same_entry d.entry e) made)

-- whether a list of epoch secrets has one value, and no other
abbrev pub has_one_value : List (List ℕ) → Bool
has_one_value [] = false
has_one_value (x ∷ xs) = list_all (bytes_eq x) xs

-- whether a journal begins with a creation, and each of its entries was made in this world at the journal before it, by
-- commit calls that all reached one epoch secret
unfoldable pub is_homemade_from : List CommitMade → Origin → List Entry → Bool
is_homemade_from made origin [] = is_creation origin
is_homemade_from made origin (e ∷ es) =
    has_one_value (reached_epochs made (record { origin = origin; entries = es }) e) && is_homemade_from made origin es

-- whether a journal is homemade
unfoldable pub is_homemade : List CommitMade → Journal → Bool
is_homemade made j = is_homemade_from made j.origin j.entries

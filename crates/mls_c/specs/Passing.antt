-- Where C points to in a call of each shape: a text is a pointer with a length.
use Rattle.std.specs.Prelude.{ℕ}
use denote.RawPtr.{Ptr}
use Rattle.mls_c.specs.Memory.{Passed, nowhere}

-- ---- calls that are given no text

-- a handle, of which the call tells a number
abbrev pub tells_at : Ptr → Ptr → Passed
tells_at h value = record nowhere { handle = h; value = value }

-- a handle, of which it makes another
abbrev pub makes_at : Ptr → Ptr → Passed
makes_at h made = record nowhere { handle = h; made = made }

-- a handle, of which it makes two
abbrev pub finds_at : Ptr → Ptr → Ptr → Passed
finds_at h made other = record nowhere { handle = h; made = made; other = other }

-- no handle, and it makes one
abbrev pub names_at : Ptr → Passed
names_at made = record nowhere { made = made }

-- ---- calls that are given texts

-- a text, of which it makes a handle
abbrev pub loads_at : Ptr → ℕ → Ptr → Passed
loads_at p n made = record nowhere { first = p; first_length = n; made = made }

-- two texts, of which it makes a handle
abbrev pub begins_at : Ptr → ℕ → Ptr → ℕ → Ptr → Passed
begins_at p n q m made = record (loads_at p n made) { second = q; second_length = m }

-- a handle and a text, of which it makes a handle
abbrev pub takes_at : Ptr → Ptr → ℕ → Ptr → Passed
takes_at h p n made = record (loads_at p n made) { handle = h }

-- a handle and a text, and it makes nothing
abbrev pub restores_at : Ptr → Ptr → ℕ → Passed
restores_at h p n = record nowhere { handle = h; first = p; first_length = n }

-- a text, of which it makes two handles
abbrev pub reads_at : Ptr → ℕ → Ptr → Ptr → Passed
reads_at p n made other = record (loads_at p n made) { other = other }

-- a text, of which it makes a handle and tells a number
abbrev pub places_at : Ptr → ℕ → Ptr → Ptr → Passed
places_at p n made value = record (loads_at p n made) { value = value }

-- a handle and a text, of which it tells a number and makes a handle
abbrev pub inspects_at : Ptr → Ptr → ℕ → Ptr → Ptr → Passed
inspects_at h p n value made = record (takes_at h p n made) { value = value }

-- a handle and two texts, of which it makes a handle
abbrev pub gives_at : Ptr → Ptr → ℕ → Ptr → ℕ → Ptr → Passed
gives_at h p n q m made = record (begins_at p n q m made) { handle = h }

-- a handle and a text, of which it tells a number
abbrev pub follows_at : Ptr → Ptr → ℕ → Ptr → Passed
follows_at h p n value = record (tells_at h value) { first = p; first_length = n }

-- a handle and a text, of which it makes two handles
abbrev pub commits_at : Ptr → Ptr → ℕ → Ptr → Ptr → Passed
commits_at h p n made other = record (takes_at h p n made) { other = other }

-- a handle and two texts, of which it makes two handles
abbrev pub lists_at : Ptr → Ptr → ℕ → Ptr → ℕ → Ptr → Ptr → Passed
lists_at h p n q m made other = record (gives_at h p n q m made) { other = other }

-- a handle and three texts, of which it makes a handle
abbrev pub seals_at : Ptr → Ptr → ℕ → Ptr → ℕ → Ptr → ℕ → Ptr → Passed
seals_at h p n q m r k made = record (gives_at h p n q m made) { third = r; third_length = k }

-- a handle and three texts, of which it makes two handles and tells a number
abbrev pub runs_at : Ptr → Ptr → ℕ → Ptr → ℕ → Ptr → ℕ → Ptr → Ptr → Ptr → Passed
runs_at h p n q m r k made other value =
    record (seals_at h p n q m r k made) { other = other; value = value }

-- a handle and a text, of which it makes two handles and tells a number
abbrev pub opens_at : Ptr → Ptr → ℕ → Ptr → Ptr → Ptr → Passed
opens_at h p n made other value = record (commits_at h p n made other) { value = value }

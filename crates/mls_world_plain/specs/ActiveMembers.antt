-- The members of a world that weren't removed, one by one.
use Rattle.std.specs.Prelude.{◌≡◌, ℕ, ◌+◌, Bool, false, not, if◌then◌else◌, List, [], ◌∷◌, map, drop, Option, Some, None}
use Rattle.mls_model.specs.Member.{Member}
use Rattle.mls_model.specs.World.{World, Seat}
use Rattle.mls_world_plain.specs.CallAnswers.{seated_member}

-- the numbers of those of these members that weren't removed, the first of whom has number k
unfoldable pub active_from : ℕ → List Member → List ℕ
active_from k [] = []
active_from k (m ∷ ms) = if m.gone then active_from (k + 1) ms else k ∷ active_from (k + 1) ms

-- the numbers of the members that weren't removed, in order
abbrev pub active : List Seat → List ℕ
active seats = active_from 0 (map (λ (s : Seat). s.member) seats)

-- the numbers of those from number k on
abbrev pub active_behind : World → ℕ → List ℕ
active_behind w k = active_from k (map (λ (s : Seat). s.member) (drop k w.seats))

-- whether a member is there and wasn't removed
abbrev pub stays : Option Member → Bool
stays (Some m) = not m.gone
stays None = false

-- whether member k is there and wasn't removed
abbrev pub is_active : World → ℕ → Bool
is_active w k = stays (seated_member w k)

-- the first from number k on, if there is one
abbrev pub IsNextActive : World → ℕ → Option ℕ → Type 0
IsNextActive w k (Some n) = active_behind w k ≡ n ∷ active_behind w (n + 1)
IsNextActive w k None = active_behind w k ≡ []

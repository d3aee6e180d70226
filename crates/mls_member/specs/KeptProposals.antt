-- The proposals that a member keeps, by their messages, and how it forgets one.
use Rattle.std.specs.Prelude.{◌≡◌, ℕ, Bool, true, false, not, List, find, Option, is_some, option_map, Result, Ok, Err}
use Rattle.std.specs.List.{filter}
use Rattle.std.specs.Str.{bytes_eq}
use Rattle.mls_model.specs.Member.{KeptProposal, Member, kept_under}
use Rattle.mls_member.specs.declared.error.Refusal.{Refusal}
use Rattle.mls_member.specs.declared.error.Refusal.TheVariants.{PendingCommit}

-- the kept proposal with this message (RFC 9420, 12.1)
unfoldable pub kept_with : List KeptProposal → List ℕ → Option KeptProposal
kept_with kept message = find (λ (k : KeptProposal). bytes_eq k.message message) kept

-- the reference of the kept proposal with this message (RFC 9420, 5.2)
abbrev pub kept_reference : Member → List ℕ → Option (List ℕ)
kept_reference m message = option_map (λ (k : KeptProposal). k.reference) (kept_with m.kept message)

-- whether a kept proposal is another than that with a reference
abbrev pub is_other : List ℕ → KeptProposal → Bool
is_other reference k = not (bytes_eq k.reference reference)

-- the member once it keeps nothing under a reference
unfoldable pub without_kept : Member → List ℕ → Member
without_kept m reference = record m { kept = filter (is_other reference) m.kept }

-- The call forgets what is kept under a reference, and answers whether there was such a proposal; or it is refused with
-- `PendingCommit` (67), as the pending commit may name that proposal, and the member is as before.
abbrev pub Forgets : Member → List ℕ → Member → Result Bool Refusal → Type 0
Forgets old reference new (Ok had) =
    (is_some old.pending ≡ false) × (had ≡ is_some (kept_under old.kept reference)) × (new ≡ without_kept old reference)
Forgets old reference new (Err refusal) =
    (is_some old.pending ≡ true) × (refusal ≡ PendingCommit) × (new ≡ old)

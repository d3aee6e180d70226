-- New members, and the look-up that finds none.
use Rattle.std.specs.Prelude.{◌≡◌, ℕ, slice_get, Some, None}
use Rattle.mls_model.specs.declared.origin.Origin.{Origin}
use Rattle.mls_model.specs.Journal.{CommitMade, new_journal, with_entry}
use Rattle.mls_model.specs.Member.{Member}
use Rattle.mls_model.specs.World.{World, Entrant, with_new_member}
use Rattle.mls_world_plain.specs.declared.error.WorldError.{WorldError}
use Rattle.mls_world_plain.specs.Faults.{number_of}

-- `NoSuchMember` (90), and no member has this number
abbrev pub IsMissing : World → ℕ → WorldError → Type 0
IsMissing w k e = (number_of e ≡ 90) × (slice_get w.seats k ≡ None)

-- candidate n becomes a member, whose journal begins here
abbrev pub BeginsMember : World → World → ℕ → Member → Origin → Type 0
BeginsMember old new n member origin = (e : Entrant) → slice_get old.entrants n ≡ Some e → new ≡ with_new_member old n e (record { member = member; journal = new_journal origin })

-- candidate n becomes a member, whose journal is that of a commit which was made
abbrev pub FollowsMember : World → World → ℕ → Member → ℕ → Type 0
FollowsMember old new n member made =
    (e : Entrant) (d : CommitMade) → slice_get old.entrants n ≡ Some e → slice_get old.commits made ≡ Some d
    → new ≡ with_new_member old n e (record { member = member; journal = with_entry d.journal d.entry })

-- What a caller may do about a refusal, by its number: one table.
use Rattle.std.specs.Prelude.{ℕ, ◌==◌, if◌then◌else◌, List, [], ◌∷◌}
use Rattle.std.specs.List.{list_any}
use Rattle.mls_refusal_kind.specs.declared.kinds.RefusalKind.{RefusalKind}
use Rattle.mls_refusal_kind.specs.declared.kinds.RefusalKind.TheVariants as kind

-- the kind of a number in a table of kinds with their numbers; `Forbidden` where it isn't there
abbrev pub kind_in : List (RefusalKind × List ℕ) → ℕ → RefusalKind
kind_in [] n = kind.Forbidden
kind_in (x ∷ xs) n = if list_any (λ k. k == n) x.1 then x.0 else kind_in xs n

-- the numbers of each kind; all others are `Forbidden`
abbrev pub kinds : List (RefusalKind × List ℕ)
kinds =
    (kind.OutOfMemory, 1 ∷ [])
    ∷ (kind.Malformed, 2 ∷ 3 ∷ 4 ∷ 5 ∷ 7 ∷ 13 ∷ 101 ∷ [])
    ∷ (kind.TooLong, 6 ∷ [])
    ∷ (kind.Unsupported, 11 ∷ 12 ∷ 14 ∷ 74 ∷ 76 ∷ [])
    ∷ (kind.WrongMessage, 41 ∷ 45 ∷ 70 ∷ [])
    ∷ (kind.OtherGroup, 42 ∷ 111 ∷ [])
    ∷ (kind.OtherEpoch, 43 ∷ 112 ∷ [])
    ∷ (kind.OtherSuite, 55 ∷ 71 ∷ 100 ∷ [])
    ∷ (kind.NotForMe, 72 ∷ [])
    ∷ (kind.NotAMember, 22 ∷ 44 ∷ 102 ∷ 114 ∷ [])
    ∷ (kind.OwnMessage, 48 ∷ [])
    ∷ (kind.BadTag, 46 ∷ 65 ∷ [])
    ∷ (kind.BadSignature, 47 ∷ 51 ∷ 56 ∷ 79 ∷ 119 ∷ [])
    ∷ (kind.Unreadable, 32 ∷ 33 ∷ 34 ∷ 35 ∷ 73 ∷ 75 ∷ 104 ∷ 113 ∷ 117 ∷ [])
    ∷ (kind.KeyUsed, 116 ∷ [])
    ∷ (kind.TooFarAhead, 115 ∷ [])
    ∷ (kind.EpochSpent, 110 ∷ [])
    ∷ (kind.MissingProposal, 60 ∷ [])
    ∷ (kind.CommitPending, 67 ∷ [])
    ∷ (kind.Gone, 40 ∷ [])
    ∷ (kind.GroupFull, 21 ∷ 66 ∷ [])
    ∷ []

-- the kind of a refusal with this number
abbrev pub kind_of : ℕ → RefusalKind
kind_of n = kind_in kinds n

-- The checks of received bytes that come before anything grows: they take no memory.
use Rattle.std.specs.Prelude.{ℕ, not, List, Option, Some, None, Result, Ok}
use Rattle.mls_wire.specs.Checks.{AnswersOutright, Passed, passed, require, ◌>>◌}
use Rattle.mls_wire.specs.Reading.{◌>>=◌}
use Rattle.mls_model.specs.Member.{Member, Pending}
use Rattle.mls_model.specs.Verdict.{own_pending}
use Rattle.mls_member.specs.Faults.{number_of}
use Rattle.mls_member.specs.Process.{message_outer_checks}
use Rattle.mls_member.specs.declared.error.Refusal.{Refusal}

-- the pending commit passes; of other bytes decoding, and `NotPublicMessage` (41) to `BadMembershipTag` (46)
abbrev pub checks_unless_own : Member → List ℕ → Option Pending → Result Passed ℕ
checks_unless_own m bytes (Some p) = Ok passed
checks_unless_own m bytes None = message_outer_checks m bytes >>= λ leaf. Ok passed

-- the checks of any bytes: `Gone` (40), and then as the bytes are
unfoldable pub early_checks : Member → List ℕ → Result Passed ℕ
early_checks m bytes =
    require 40 (not m.gone) >> checks_unless_own m bytes (own_pending m.pending bytes)

-- The call passes these checks, or refuses with the number of the first that fails. It takes no memory.
abbrev pub PassesEarly : {A : Type 0} → Member → List ℕ → Result A Refusal → Type 0
PassesEarly m bytes result = AnswersOutright (λ _. passed) number_of (early_checks m bytes) result

-- A made commit passes the checks of every message at each other member that agrees with its maker.
use Rattle.std.specs.Prelude.{◌≡◌, ℕ, List, Ok, ◌≢◌}
use Rattle.mls_wire.specs.Checks.{passed}
use Rattle.mls_types.specs.declared.commit.ProposalOrRef.{ProposalOrRef}
use Rattle.mls_suite.specs.Crypto.{Crypto, Lawful}
use Rattle.mls_model.specs.Commit.{Change}
use Rattle.mls_model.specs.Member.{Member}
use Rattle.mls_model.specs.Make.{MadePath}
use Rattle.mls_model.specs.Verdict.{framing_checks}
use Rattle.mls_model.specs.Agreement.{Agree, AgreeSecret}
use Rattle.mls_model.specs.MemberInvariant.{IsGoodMember}
use Rattle.mls_theorems.specs.SentCommits.{sent_of}

-- ---- the whole

-- a made commit passes `WrongGroup` (42) to `OwnUnknown` (48) at each other member that agrees with its maker
abbrev pub MadeIsFramed : Type 0
MadeIsFramed = (c : Crypto) → Lawful c →
    (maker m : Member) (list : List ProposalOrRef) (path : MadePath) (change : Change) (bytes : List ℕ) →
    IsGoodMember c maker → maker.keys.leaf ≢ m.keys.leaf → Agree maker m → AgreeSecret maker m →
    framing_checks c m (sent_of c maker list path change) bytes ≡ Ok passed

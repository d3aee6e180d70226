-- A commit that a good member makes is a good pending one.
use Rattle.std.specs.Prelude.{List}
use Rattle.mls_types.specs.declared.commit.ProposalOrRef.{ProposalOrRef}
use Rattle.mls_suite.specs.Crypto.{Crypto}
use Rattle.mls_model.specs.Member.{Member}
use Rattle.mls_model.specs.Make.{Made}
use Rattle.mls_model.specs.MemberInvariant.{IsGoodPending}
use Rattle.mls_model.specs.Claims.{IsMade}

-- ---- the whole

abbrev pub MadePends : Type 0
MadePends = (c : Crypto) (m : Member) (list : List ProposalOrRef) (made : Made) → IsMade c m list made →
    IsGoodPending c m made.pending

-- What a verdict that takes bytes found in them, check by check.
use Rattle.std.specs.Prelude.{◌≡◌, ℕ, List, Ok}
use Rattle.mls_wire.specs.Checks.{passed}
use Rattle.mls_types.specs.declared.public_message.PublicMessage.{PublicMessage}
use Rattle.mls_suite.specs.Crypto.{Crypto}
use Rattle.mls_model.specs.Member.{Member}
use Rattle.mls_model.specs.Verdict.{framing_checks}
use Rattle.mls_model.specs.VerdictFindings.{IsFramed}

abbrev pub FramingDid : Type 0
FramingDid = (c : Crypto) (m : Member) (v : PublicMessage) (bytes : List ℕ) → framing_checks c m v bytes ≡ Ok passed →
    IsFramed c m v bytes

abbrev pub FramingPasses : Type 0
FramingPasses = (c : Crypto) (m : Member) (v : PublicMessage) (bytes : List ℕ) → IsFramed c m v bytes →
    framing_checks c m v bytes ≡ Ok passed

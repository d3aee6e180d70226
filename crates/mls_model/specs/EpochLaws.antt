-- A member that follows a commit is active, in the epoch that it answers.
use Rattle.std.specs.Prelude.{◌≡◌, ℕ, false, List, Ok}
use Rattle.mls_suite.specs.Crypto.{Crypto}
use Rattle.mls_model.specs.declared.effect.Effect.TheVariants.{Advanced}
use Rattle.mls_model.specs.Member.{Member}
use Rattle.mls_model.specs.Verdict.{verdict}

-- a member is active, and its context names an epoch
pub record IsIn (m : Member) (epoch : ℕ) : Type 0 where
  pub active : m.gone ≡ false
  pub context : m.public.context.epoch ≡ epoch

-- a member that follows a commit is active afterwards, and its context names the epoch that it answers
abbrev pub AdvancedIsActive : Type 0
AdvancedIsActive = (c : Crypto) (m after : Member) (bytes : List ℕ) (epoch : ℕ) →
    verdict c m bytes ≡ Ok (Advanced epoch, after) → IsIn after epoch

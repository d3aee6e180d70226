-- The laws of epochs.
use Rattle.std.specs.Prelude.{◌≡◌, ℕ, List, ◌⊎◌, ◌≢◌}
use Rattle.mls_schedule.specs.Epoch.{epoch_secret, next_epoch_secret, nine_secrets, confirmation_tag}
use Rattle.mls_schedule.specs.Twins.{Twins}

-- two epoch secrets are one, and have the same nine secrets
pub record AreOne (first second : List ℕ) : Type 0 where
  pub epoch : first ≡ second
  pub nine : nine_secrets first ≡ nine_secrets second

-- Two epochs with one confirmation tag over a confirmed hash have one epoch secret and the same nine secrets, or they
-- are twins.
abbrev pub EqualOrTwins : Type 0
EqualOrTwins = (first second confirmed : List ℕ) → confirmation_tag first confirmed ≡ confirmation_tag second confirmed → AreOne first second ⊎ Twins first second confirmed

-- Twins are different, and have one confirmation tag.
abbrev pub TwinsShareTags : Type 0
TwinsShareTags = (first second confirmed : List ℕ) → Twins first second confirmed → (first ≢ second) × (confirmation_tag first confirmed ≡ confirmation_tag second confirmed)

-- ---- joining

-- A new member that was given some joiner secret, and finds the tag that the commit's maker sent, has the maker's epoch
-- secret and nine secrets, or the two epochs are twins.
abbrev pub JoinerReachesNext : Type 0
JoinerReachesNext = (init commit_secret context joiner confirmed : List ℕ) →
    confirmation_tag (epoch_secret joiner context) confirmed ≡ confirmation_tag (next_epoch_secret init commit_secret context) confirmed →
    AreOne (epoch_secret joiner context) (next_epoch_secret init commit_secret context) ⊎ Twins (epoch_secret joiner context) (next_epoch_secret init commit_secret context) confirmed

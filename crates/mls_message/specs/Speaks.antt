-- Who speaks.
use Rattle.std.specs.Prelude.{◌≡◌}
use Rattle.mls_model.specs.Member.{Member}
use Rattle.mls_message.specs.declared.speaker.Speaker.{Speaker}

-- the speaker is a member with these parts
pub record Speaks (m : Member) (s : Speaker) : Type 0 where
  pub public : m.public ≡ s.group.now
  pub epoch : m.epoch_secret ≡ s.epoch.now
  pub leaf : m.keys.leaf ≡ s.leaf
  pub signing : m.signing ≡ s.signing.now

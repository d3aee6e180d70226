-- When one confirmation tag stands for two epoch secrets (RFC 9420, 6.1 and 8): whether there are such is a question on
-- HMAC, which no proof answers.
use Rattle.std.specs.Prelude.{◌≡◌, ◌≢◌, ℕ, List, codes}
use Rattle.mls_kdf.specs.Kdf.{hmac, derive_secret}

-- two different epoch secrets with one confirmation tag over a confirmed transcript hash (RFC 9420, 6.1 and 8, which
-- have no word for them)
pub record Twins (first second confirmed : List ℕ) : Type 0 where
  pub differ : first ≢ second
  pub one_tag : hmac (derive_secret first (codes "confirm")) confirmed ≡
      hmac (derive_secret second (codes "confirm")) confirmed

-- How long hashes, tags and keys are.
use Rattle.std.specs.Prelude.{◌≡◌, ℕ, List, length}
use Rattle.sha2.specs.Sha256.{sha256}
use Rattle.sha2.proofs.Facts256 as facts
use Rattle.mls_kdf.specs.Kdf.{hmac}

pub length-sha256 : (text : List ℕ) → length (sha256 text) ≡ 32
length-sha256 text = facts.length-sha256 text

pub length-hmac : (key text : List ℕ) → length (hmac key text) ≡ 32
unfolding hmac
length-hmac key text = length-sha256 _

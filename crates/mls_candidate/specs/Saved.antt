-- What is saved of a candidate, and what loading it answers.
use Rattle.std.specs.Prelude.{◌≡◌, ℕ, ◌==◌, List, length, Result, Ok}
use Rattle.std.specs.Str.{bytes_eq}
use Rattle.mls_wire.specs.Checks.{Passed, require, ◌>>◌}
use Rattle.mls_wire.specs.Reading.{◌>>=◌}
use Rattle.mls_wire.specs.Whole.{whole}
use Rattle.mls_leaf.specs.KeyPackage.{key_package}
use Rattle.mls_leaf.specs.Limits.{input_limit}
use Rattle.mls_suite.specs.Crypto.{Crypto}
use Rattle.mls_checks.specs.Checks.{key_package_checks}
use Rattle.mls_saved.specs.Candidate.{saved_candidate}
use Rattle.mls_saved.specs.declared.candidate.SavedCandidate.{SavedCandidate}
use Rattle.mls_model.specs.Candidate.{Candidate}
use Rattle.mls_model.specs.MemberInvariant.{IsGoodCandidate}
use Rattle.mls_model.specs.Messages.{require_within_limit}

-- ---- saving

-- what is saved of a candidate
unfoldable pub saved_parts : Candidate → SavedCandidate
saved_parts k =
    record { key_package = k.offered; init = k.init; leaf = k.leaf; signing = k.signing }

-- the bytes that a candidate is saved as
abbrev pub saved_bytes : Candidate → List ℕ
saved_bytes k = saved_candidate.spell (saved_parts k)

-- what saving a candidate answers: `TooLong` (6) where there are more bytes than an input may have
unfoldable pub save_candidate : Candidate → Result (List ℕ) ℕ
save_candidate k = require_within_limit (saved_bytes k) >> Ok (saved_bytes k)

-- ---- loading

-- a secret: `BadSecret` (101) unless it has 32 bytes
abbrev pub secret_of_32 : List ℕ → Result (List ℕ) ℕ
secret_of_32 bytes = require 101 (length bytes == 32) >> Ok bytes

-- the candidate of which these parts are saved
unfoldable pub candidate_of : SavedCandidate → Result Candidate ℕ
candidate_of v = do
  init ← secret_of_32 v.init
  leaf ← secret_of_32 v.leaf
  signing ← secret_of_32 v.signing
  Ok (record { offered = v.key_package; init = init; leaf = leaf; signing = signing })

-- the saved candidate of a suite that the bytes are: decoding, `OtherSuite` (100)
unfoldable pub saved_of_suite : Crypto → List ℕ → Result SavedCandidate ℕ
saved_of_suite c bytes = do
  v ← whole saved_candidate input_limit bytes
  require 100 (v.key_package.cipher_suite == c.number)
  Ok v

-- the private keys are those of the init key, of the leaf and of its signatures (RFC 9420, 7.2 and 10):
-- `OtherKey` (104)
unfoldable pub own_key_checks : Crypto → Candidate → Result Passed ℕ
own_key_checks c k = do
  require 104 (bytes_eq (c.public k.init) k.offered.init_key)
  require 104 (bytes_eq (c.public k.leaf) k.offered.leaf_node.encryption_key)
  require 104 (bytes_eq (c.sig_public k.signing) k.offered.leaf_node.signature_key)

-- the candidate that was saved as these bytes: decoding, `OtherSuite` (100) another suite, `BadSecret` (101) a secret
-- that hasn't 32 bytes, the checks of its KeyPackage (RFC 9420, 10.1), `OtherKey` (104) a private key that isn't its
-- own
unfoldable pub load_candidate : Crypto → List ℕ → Result Candidate ℕ
load_candidate c bytes = do
  v ← saved_of_suite c bytes
  k ← candidate_of v
  key_package_checks c k.offered
  own_key_checks c k
  Ok k

-- ---- laws

-- each secret of a candidate has 32 bytes
pub record HasSecrets (k : Candidate) : Type 0 where
  pub init : length k.init ≡ 32
  pub leaf : length k.leaf ≡ 32
  pub signing : length k.signing ≡ 32

-- what a candidate is saved as is loaded as that candidate
abbrev pub LoadsAsSaved : Crypto → Candidate → Type 0
LoadsAsSaved c k = (bytes : List ℕ) → save_candidate k ≡ Ok bytes → load_candidate c bytes ≡ Ok k

-- so it is of each good one
abbrev pub GoodIsLoaded : Type 0
GoodIsLoaded = (c : Crypto) (k : Candidate) → IsGoodCandidate c k → HasSecrets k → LoadsAsSaved c k

-- what is loaded is good
abbrev pub LoadedIsGood : Type 0
LoadedIsGood =
    (c : Crypto) (bytes : List ℕ) (k : Candidate) → key_package.Fits k.offered →
    load_candidate c bytes ≡ Ok k → IsGoodCandidate c k

-- The parts of the definitions that functions of their own answer.
use Rattle.std.specs.Prelude.{◌≡◌, ℕ, ◌==◌, Bool, false, List, [], length, Option, Some, None, Result, Ok, Err}
use Rattle.mls_wire.specs.Checks.{require, require_some, ◌>>◌}
use Rattle.mls_wire.specs.Reading.{◌>>=◌}
use Rattle.mls_leaf.specs.declared.leaf.LeafNode.{LeafNode}
use Rattle.mls_types.specs.declared.welcome.Welcome.{Welcome}
use Rattle.mls_suite.specs.Crypto.{Crypto}
use Rattle.mls_tree_model.specs.Term.{Term}
use Rattle.mls_treekem_model.specs.Keys.{PrivateKeys}
use Rattle.mls_view.specs.declared.welcome.WelcomeView.{WelcomeView}
use Rattle.mls_view.specs.Shown.{ShowsWelcome}
use Rattle.mls_model.specs.Join.{is_same_leaf, joined_keys}
use Rattle.mls_model.specs.Messages.{decode_message}
use Rattle.mls_model.specs.OpenedWelcome.{welcome_in, is_none_or_32}
use Rattle.mls_join.specs.declared.error.JoinError.{JoinError}
use Rattle.mls_join.specs.Faults.{number_of, Gives}

-- the Welcome that the bytes are: decoding, `NotWelcome` (70) (RFC 9420, 6)
unfoldable pub read_welcome : List ℕ → Result Welcome ℕ
read_welcome bytes = decode_message bytes >>= λ outer. require_some 70 (welcome_in outer)

-- the Welcome of a suite's number that the bytes are: decoding, `NotWelcome` (70), `WrongSuite` (71) (RFC 9420,
-- 12.4.3.1)
unfoldable pub read_welcome_of_suite : ℕ → List ℕ → Result Welcome ℕ
read_welcome_of_suite number bytes =
    read_welcome bytes >>= λ w. require 71 (w.cipher_suite == number) >> Ok w

-- a view shows the Welcome that all of the bytes are
pub record IsShownIn (bytes : List ℕ) (view : WelcomeView) : Type 0 where
  pub value : Welcome
  pub is_read : read_welcome bytes ≡ Ok value
  pub shows : ShowsWelcome view value

-- A call lends the view of the Welcome that the bytes are, or answers the first fault.
abbrev pub LendsWelcome : List ℕ → Result WelcomeView JoinError → Type 0
LendsWelcome bytes (Ok view) = IsShownIn bytes view
LendsWelcome bytes (Err e) = read_welcome bytes ≡ Err (number_of e)

-- a secret: `SecretsUnreadable` (73) unless it has 32 bytes
abbrev pub secret_of_32 : List ℕ → Result (List ℕ) ℕ
secret_of_32 bytes = require 73 (length bytes == 32) >> Ok bytes

-- a secret that may be left out
abbrev pub optional_secret_of_32 : Option (List ℕ) → Result (Option (List ℕ)) ℕ
optional_secret_of_32 bytes = require 73 (is_none_or_32 bytes) >> Ok bytes

-- whether a leaf is there, and this one
abbrev pub is_at : LeafNode → Option LeafNode → Bool
is_at leaf None = false
is_at leaf (Some x) = is_same_leaf x leaf

-- The call answers a new member's keys: with a path secret those that it gives, else its leaf's alone; or it refuses
-- with the number of what fails, or with `OutOfMemory`.
abbrev pub GivesKeys : Crypto → Term → ℕ → ℕ → List ℕ → Option (List ℕ) →
    Result PrivateKeys JoinError → Type 0
GivesKeys c t signer place own path_secret result =
    Gives (joined_keys c t signer (record { leaf = place; own = own; above = [] }) path_secret)
    result

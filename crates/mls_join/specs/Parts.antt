-- The values that the stages of a join hand on, as the definitions have them.
use Rattle.std.specs.Prelude.{◌≡◌, ◌≢◌, ℕ, List, Result, Ok, Err}
use Rattle.mls_wire.specs.Checks.{Answers}
use Rattle.mls_wire.specs.Reading.{◌>>=◌}
use Rattle.mls_types.specs.declared.welcome.GroupSecrets.{GroupSecrets}
use Rattle.mls_suite.specs.Crypto.{Crypto}
use Rattle.mls_model.specs.Join.{joined_tree}
use Rattle.mls_model.specs.OpenedWelcome as model
use Rattle.mls_join.specs.Faults.{number_of}
use Rattle.mls_join.specs.declared.error.JoinError.{JoinError}
use Rattle.mls_join.specs.declared.opening.Opened.{Opened}
use Rattle.mls_join.specs.declared.secrets.Secrets.{Secrets}

-- secrets of 32 bytes each
abbrev pub secrets_by : Secrets → GroupSecrets
secrets_by s = record { joiner_secret = s.joiner; path_secret = s.path_secret; psks = s.psks }

-- what a Welcome gave
abbrev pub opened_by : Opened → model.Opened
opened_by o =
    record { joiner = o.joiner; path_secret = o.path_secret; bytes = o.bytes.items; info = o.info }

-- A call opens what the definition does, or refuses with its number, or with that of the tree in what it opens. Where
-- memory was refused it says nothing.
abbrev pub Opens : Crypto → Result model.Opened ℕ → Result Opened JoinError → Type 0
Opens c defined (Ok o) = defined ≡ Ok (opened_by o)
Opens c defined (Err e) =
    number_of e ≢ 1 → (defined >>= λ o. joined_tree c o.info) ≡ Err (number_of e)

-- The call opens the GroupInfo that is sealed under these secrets, or refuses with the number of what fails, or with that of
-- the tree in what it opens. Where memory was refused it says nothing.
abbrev pub OpensGroupInfo : Crypto → Secrets → List ℕ → Result Opened JoinError → Type 0
OpensGroupInfo c secrets sealed result =
    Opens c (model.open_group_info c (secrets_by secrets) sealed) result

-- A call opens the secrets that the definition does, or refuses with its number. Where memory was refused it says nothing.
abbrev pub OpensSecrets : Result GroupSecrets ℕ → Result Secrets JoinError → Type 0
OpensSecrets defined result = Answers secrets_by number_of defined result

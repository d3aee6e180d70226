-- What is answered of a ratchet tree as it was sent.
use Rattle.std.specs.Prelude.{ℕ, List, Result, Ok}
use Rattle.mls_wire.specs.Checks.{◌>>◌, Answers}
use Rattle.mls_wire.specs.Reading.{◌>>=◌}
use Rattle.mls_suite.specs.Crypto.{Crypto}
use Rattle.mls_tree_model.specs.Good.{tree_checks}
use Rattle.mls_tree_model.specs.Hashes.{tree_hash}
use Rattle.mls_tree.specs.Rules.{rules_of}
use Rattle.mls_cli_check.specs.Check.{tree_in}
use Rattle.mls_cli_check.specs.CheckFaults.{number_of}
use Rattle.mls_cli_check.specs.declared.check_error.CheckError.{CheckError}

-- RFC 9420, sections 7.3, 7.8, 7.9.2, 12.4.3.1 and 12.4.3.3: the tree hash of the tree that the bytes spell, where it
-- passes the checks of a good tree of the group; else the number of the first fault
abbrev pub hash_of_checked_tree : Crypto → List ℕ → List ℕ → Result (List ℕ) ℕ
hash_of_checked_tree c group spelled = tree_in spelled >>= λ t. tree_checks (rules_of c group) t >> Ok (tree_hash 0 t)

-- a call answers this hash, or the number of the fault, unless memory runs out
abbrev pub AnswersHash : Result (List ℕ) ℕ → Result (List ℕ) CheckError → Type 0
AnswersHash defined result = Answers (λ hash. hash) number_of defined result

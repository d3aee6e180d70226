-- The member that an entrance makes of a candidate.
use Rattle.std.specs.Prelude.{ℕ, ◌==◌, false, List, [], None, Result}
use Rattle.mls_wire.specs.Checks.{Answers, Passed, require, require_some}
use Rattle.mls_wire.specs.Reading.{◌>>=◌}
use Rattle.mls_tree_model.specs.Term.{Term}
use Rattle.mls_treekem_model.specs.Keys.{PrivateKeys}
use Rattle.mls_model.specs.Candidate.{Candidate}
use Rattle.mls_model.specs.Join.{JoinedMember, enter_group}
use Rattle.mls_model.specs.Messages.{decode_message}
use Rattle.mls_model.specs.OpenedWelcome.{welcome_in}
use Rattle.mls_join.specs.Faults.{number_of}
use Rattle.mls_join.specs.Parts.{opened_by}
use Rattle.mls_join.specs.declared.entrance.Entrance.{Entrance}
use Rattle.mls_join.specs.declared.error.JoinError.{JoinError}
use Rattle.mls_join.specs.declared.opening.Opened.{Opened}

-- the member that a candidate becomes, with its signature key, and with nothing kept or pending yet
abbrev pub joined_by : Candidate → Entrance → JoinedMember
joined_by k e = record {
  member = record {
    gone = false;
    public = e.group;
    epoch_secret = e.epoch;
    keys = e.keys;
    signing = k.signing;
    kept = [];
    pending = None;
  };
  info = e.group_info.items;
}

-- what is decided of the message alone, for a suite's number: decoding, `NotWelcome` (70) it is no Welcome,
-- `WrongSuite` (71) it is of another suite
unfoldable pub welcome_outer_checks : ℕ → List ℕ → Result Passed ℕ
welcome_outer_checks number bytes = do
  outer ← decode_message bytes
  w ← require_some 70 (welcome_in outer)
  require 71 (w.cipher_suite == number)

-- A call makes the candidate the member that the definition does, or refuses with its number. Where memory was refused
-- it says nothing.
abbrev pub Joins : Candidate → Result JoinedMember ℕ → Result Entrance JoinError → Type 0
Joins k defined result = Answers (joined_by k) number_of defined result

-- The call makes each candidate the member with these keys in this tree, or refuses with the number of what fails, or
-- with `OutOfMemory`.
abbrev pub EntersGroup : Opened → Term → PrivateKeys → Result Entrance JoinError → Type 0
EntersGroup opened t keys result =
    (k : Candidate) → Joins k (enter_group k (opened_by opened) t keys) result

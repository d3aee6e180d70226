-- What a commit makes of a tree, in the parts in which it is worked out.
use Rattle.std.specs.Prelude.{ℕ, nat_eq, nat_le, not, List, [], ◌∷◌, ◌++◌, length, map, Result, Ok, Err}
use Rattle.std.specs.Global.{Vec}
use Rattle.mls_wire.specs.Checks.{Answers, Passed, require, ◌>>◌}
use Rattle.mls_wire.specs.Reading.{◌>>=◌}
use Rattle.mls_tree_model.specs.Term.{Term}
use Rattle.mls_tree_model.specs.Sets.{has, same_bytes, is_distinct}
use Rattle.mls_tree_model.specs.Good.{has_distinct_keys, has_distinct_clients}
use Rattle.mls_model.specs.PublicState.{Used}
use Rattle.mls_model.specs.Proposals.{updates, updated_leaves, removed_leaves, adds, extension_lists, package_reference}
use Rattle.mls_model.specs.Commit.{Edits, apply_updates, apply_removes, apply_adds}
use Rattle.mls_tree.specs.Tree.{Tree, term}
use Rattle.mls_public_group.specs.declared.error.GroupError.{GroupError}
use Rattle.mls_public_group.specs.Faults.{number_of}

-- `CommitterUpdate` (61) an update of the committer, `CommitterRemoved` (62) its removal, `SameLeafTwice` (63) two
-- updates or removes of one leaf, `SecondExtensions` (68) two lists of extensions (RFC 9420, 12.2)
unfoldable pub proposal_list_checks : ℕ → List Used → Result Passed ℕ
proposal_list_checks committer used = do
  require 61 (not (has (updated_leaves used) committer))
  require 62 (not (has (removed_leaves used) committer))
  require 63 (is_distinct nat_eq (updated_leaves used ++ removed_leaves used))
  require 68 (nat_le (length (extension_lists used)) 1)

-- a tree after the updates, the removes and the adds (RFC 9420, 12.3)
unfoldable pub edit_tree : Term → List Used → Result Edits ℕ
edit_tree t used = do
  after_updates ← apply_updates t (updates used)
  after_removes ← apply_removes after_updates (removed_leaves used)
  apply_adds after_removes (adds used)

-- `ClientRepeated` (26) two members have one signature key, or two adds one reference; `KeyRepeated` (25) two nodes
-- have one encryption key (RFC 9420, 7.3)
unfoldable pub edited_tree_checks : Edits → List Used → Result Passed ℕ
edited_tree_checks e used = do
  require 26 (has_distinct_clients e.tree)
  require 26 (is_distinct same_bytes (map package_reference (adds used)))
  require 25 (has_distinct_keys e.tree)

-- an answer put before those that follow
abbrev pub prepend_added : List ℕ → Result Edits ℕ → Result Edits ℕ
prepend_added front (Ok e) = Ok (record { tree = e.tree; added = front ++ e.added })
prepend_added front (Err n) = Err n

-- the references of the KeyPackages that are added (RFC 9420, 5.2)
abbrev pub added_references : List Used → List (List ℕ)
added_references used = map package_reference (adds used)

-- references, with that of the KeyPackage that a proposal adds behind them
abbrev pub with_reference : List (List ℕ) → Used → List (List ℕ)
with_reference front used = front ++ added_references (used ∷ [])

-- The call makes the updates in a tree, or refuses with the number of the first that fails, or with `OutOfMemory`.
abbrev pub AppliesUpdates : {A : Type 0} → List Used → Tree → Tree → Result A GroupError → Type 0
AppliesUpdates used old new result =
    Answers (λ _. term new) number_of (apply_updates (term old) (updates used)) result

-- The call removes the members at these leaves from a tree, or refuses with the number of the first that fails, or with
-- `OutOfMemory`.
abbrev pub AppliesRemoves : {A : Type 0} → List ℕ → Tree → Tree → Result A GroupError → Type 0
AppliesRemoves leaves old new result =
    Answers (λ _. term new) number_of (apply_removes (term old) leaves) result

-- a tree and the leaves that were added to it
abbrev pub edits_of : Tree → List ℕ → Edits
edits_of t added = record { tree = term t; added = added }

-- The call makes an add in a tree, and puts its leaf behind those that were added before, or refuses with the number of
-- what fails, or with `OutOfMemory`. It leaves the tree as it is where the proposal is none.
abbrev pub AppliesAdd : {A : Type 0} → Used → Tree → List ℕ → Tree → List ℕ → Result A GroupError →
    Type 0
AppliesAdd used old front new added result =
    Answers (λ _. edits_of new added) number_of
    (prepend_added front (apply_adds (term old) (adds (used ∷ [])))) result

-- The call makes the adds in a tree, and answers the leaves that they added, or refuses with the number of the first
-- that fails, or with `OutOfMemory`.
abbrev pub AppliesAdds : List Used → Tree → Tree → Result (Vec ℕ) GroupError → Type 0
AppliesAdds used old new result =
    Answers (λ v. edits_of new v.items) number_of (apply_adds (term old) (adds used)) result

-- GroupInfos with more nodes than a tree has, which are refused before they are owned.
use Rattle.std.specs.Prelude.{◌≡◌, ◌≢◌, ℕ, ◌==◌, ◌≤◌, List, length, Option, Some, Result, Ok, Err, IfErr}
use Rattle.mls_wire.specs.Checks.{require, ◌>>◌}
use Rattle.mls_wire.specs.Reading.{◌>>=◌}
use Rattle.mls_wire.specs.Whole.{whole}
use Rattle.mls_leaf.specs.Limits.{input_limit}
use Rattle.mls_leaf.specs.declared.node.Node.{Node}
use Rattle.mls_types.specs.GroupInfo.{group_info}
use Rattle.mls_types.specs.declared.group_info.GroupInfo.{GroupInfo}
use Rattle.mls_suite.specs.Crypto.{Crypto}
use Rattle.mls_treemath.specs.Limits.{max_height}
use Rattle.mls_treemath.specs.Paths.{nodes_in}
use Rattle.mls_tree_model.specs.Term.{Term}
use Rattle.mls_model.specs.Join.{joined_tree}
use Rattle.mls_model.specs.OpenedWelcome.{or_fault}
use Rattle.mls_join.specs.Faults.{number_of}
use Rattle.mls_join.specs.declared.error.JoinError.{JoinError}

-- the GroupInfo's tree has no more nodes than a tree has
abbrev pub HasFewNodes : GroupInfo → Type 0
HasFewNodes info =
    (cells : List (Option Node)) → info.ratchet_tree ≡ Some cells →
    length cells ≤ nodes_in max_height

-- The GroupInfo that the bytes are, if they are one, has no more nodes than a tree has.
abbrev pub SpellsFewNodes : List ℕ → Type 0
SpellsFewNodes bytes =
    (info : GroupInfo) → whole group_info input_limit bytes ≡ Ok info → HasFewNodes info

-- the tree of a GroupInfo of the suite that the bytes are: `GroupInfoUnreadable` (75), `WrongSuite` (71), then what is
-- wrong with the tree (RFC 9420, 12.4.3.1)
abbrev pub tree_in : Crypto → List ℕ → Result Term ℕ
tree_in c bytes =
    or_fault 75 (whole group_info input_limit bytes)
    >>= λ info. require 71 (info.group_context.cipher_suite == c.number) >> joined_tree c info

-- The bytes are refused with what is wrong with them, with their suite or with their tree. Where memory was refused it
-- says nothing.
abbrev pub RefusesTree : {A : Type 0} → Crypto → List ℕ → Result A JoinError → Type 0
RefusesTree c bytes result =
    IfErr result (λ e. number_of e ≢ 1 → tree_in c bytes ≡ Err (number_of e))

-- Bytes that spell more nodes than a tree has.
use Rattle.std.specs.Prelude.{◌≡◌, ◌≢◌, ℕ, ◌<◌, List, length, Option, Result, Ok, IfErr}
use Rattle.mls_wire.specs.Whole.{whole}
use Rattle.mls_leaf.specs.Limits.{input_limit}
use Rattle.mls_leaf.specs.declared.node.Node.{Node}
use Rattle.mls_types.specs.GroupInfo.{ratchet_tree}
use Rattle.mls_treemath.specs.Limits.{max_height}
use Rattle.mls_treemath.specs.Paths.{nodes_in}
use Rattle.mls_cli_check.specs.CheckFaults.{number_of}
use Rattle.mls_cli_check.specs.declared.check_error.CheckError.{CheckError}

-- Bytes that spell more nodes than a tree has are refused, also when an allocation fails.
abbrev pub RefusesMany : {A : Type 0} → List ℕ → Result A CheckError → Type 0
RefusesMany bytes result =
    (cells : List (Option Node)) → whole ratchet_tree input_limit bytes ≡ Ok cells
    → nodes_in max_height < length cells
    → IfErr result (λ (e : CheckError). number_of e ≢ 1)

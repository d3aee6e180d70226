-- Where a ratchet tree first breaks a rule that is asked of each parent (RFC 9420, 7.9.2 and 12.4.3.1).
use Rattle.std.specs.Prelude.{ℕ, nat_le, if◌then◌else◌, List, length, Option, None}
use Rattle.mls_leaf.specs.declared.node.Node.{Node}
use Rattle.mls_treemath.specs.Limits.{max_height}
use Rattle.mls_tree_model.specs.Arrays.{height_for, sent_term}
use Rattle.mls_tree_model.specs.FirstParents.{first_wrong_hash, first_wrong_list}
use Rattle.mls_tree_model.specs.Term.{Term}
use Rattle.mls_cli_place.specs.declared.parents.ParentRule.{ParentRule}
use Rattle.mls_cli_place.specs.declared.parents.ParentRule.TheVariants as rule

-- the first parent of a tree that breaks a rule, by its node
abbrev pub first_wrong : ParentRule → Term → Option ℕ
first_wrong rule.Lists t = first_wrong_list t
first_wrong rule.Hashes t = first_wrong_hash t

-- of the tree that nodes stand for as they are sent, where it isn't too high
abbrev pub first_sent : ParentRule → List (Option Node) → Option ℕ
first_sent r xs =
    if nat_le (height_for (length xs)) max_height then first_wrong r (sent_term xs) else None

-- What a view of a GroupInfo shows (RFC 9420, 12.4.3 and 12.4.3.3).
use Rattle.std.specs.Prelude.{ℕ, List, Option, Some, None}
use Rattle.mls_leaf.specs.Faults.{Spells}
use Rattle.mls_leaf.specs.declared.node.Node.{Node}
use Rattle.mls_types.specs.GroupContext.{group_context}
use Rattle.mls_types.specs.GroupInfo.{ratchet_tree}
use Rattle.mls_types.specs.declared.group_info.GroupInfo.{GroupInfo}
use Rattle.mls_tree_view.specs.declared.group_info.GroupInfoView.{GroupInfoView}

-- the bytes spell the nodes of the tree, where there is one
abbrev pub ShowsTree : Option (List ℕ) → Option (List (Option Node)) → Type 0
ShowsTree None None = Unit {0}
ShowsTree (Some part) (Some cells) = Spells ratchet_tree cells part
ShowsTree view shown = ⊥

pub record ShowsGroupInfo (view : GroupInfoView) (shown : GroupInfo) : Type 0 where
  pub group_context : Spells group_context shown.group_context view.group_context
  pub ratchet_tree : ShowsTree view.ratchet_tree shown.ratchet_tree

-- A value has a spelling where its numbers are in range and its spelling would be short.
use Rattle.std.specs.Prelude.{◌≡◌, ◌<◌, ◌^◌, length, Option, Some}
use Rattle.std.specs.List.{AllByRecursion}
use Rattle.mls_leaf.specs.Leaf.{leaf_node}
use Rattle.mls_types.specs.declared.update_path.UpdatePath.{UpdatePath}
use Rattle.mls_types.specs.Commit.{proposal_or_ref, commit}
use Rattle.mls_types.specs.declared.commit.Commit.{Commit}

-- ---- commits

-- a path's leaf has a spelling, if it is short
abbrev pub LeafFitsIfShort : Option UpdatePath → Type 0
LeafFitsIfShort path = (p : UpdatePath) → path ≡ Some p → length (leaf_node.spell p.leaf_node) < 2 ^ 30 →
    leaf_node.Fits p.leaf_node

-- a commit of written proposals has a spelling, if it is short
abbrev pub CommitFits : Type 0
CommitFits = (x : Commit) → AllByRecursion proposal_or_ref.Fits x.proposals → LeafFitsIfShort x.path →
    length (commit.spell x) < 2 ^ 30 → commit.Fits x

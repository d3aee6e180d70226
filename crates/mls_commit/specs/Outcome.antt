-- Where a commit leads.
use Rattle.std.specs.Prelude.{◌≡◌, ◌==◌, ◌≤◌, ◌^◌, ◌&&◌, ℕ, Bool, true, List, length, Option, is_some, IfSome, Result}
use Rattle.mls_wire.specs.Checks.{Answers}
use Rattle.mls_leaf.specs.Leaf.{leaf_node}
use Rattle.mls_leaf.specs.declared.extension.Extension.{Extension}
use Rattle.mls_types.specs.Content.{framed_content}
use Rattle.mls_types.specs.declared.commit.Commit.{Commit}
use Rattle.mls_types.specs.declared.content.FramedContent.{FramedContent}
use Rattle.mls_types.specs.declared.update_path.UpdatePath.{UpdatePath}
use Rattle.mls_suite.specs.Crypto.{Crypto}
use Rattle.mls_tree_model.specs.Term.{Term}
use Rattle.mls_model.specs.PublicState.{PublicState, Used}
use Rattle.mls_model.specs.Commit.{Change, Edits, change_of_commit, change_of}
use Rattle.mls_public_group.specs.Short.{AreBelow, HasLeavesBelow, IsBelow}
use Rattle.mls_commit.specs.Faults.{number_of}
use Rattle.mls_commit.specs.declared.error.CommitError.{CommitError}

-- what the commit makes of the state, and whether its tree is the group's own with a path that was prepared for it
pub record Outcome : Type 0 where
  pub change : Change
  pub on_own : Bool

-- if its tree is the group's own, the commit edited nothing of the group's tree
abbrev pub KeepsOwnTree : Term → Outcome → Type 0
KeepsOwnTree t o = o.on_own ≡ true → o.change.edits.tree ≡ t

-- its tree is the group's own, of which nothing is copied, where the commit has a path and uses no proposal, and only
-- there
abbrev pub MergesIntoOwn : List Used → Option UpdatePath → Outcome → Type 0
MergesIntoOwn used path o = o.on_own ≡ (is_some path && (length used == 0))

-- its change is that with these extensions, these edits and this tree
abbrev pub HasChange : PublicState → List Extension → Edits → Term → List ℕ → List ℕ → Outcome →
    Type 0
HasChange p list e t said signature o = o.change ≡ change_of p list e t said signature

-- The call answers the change that a commit makes whose FramedContent is spelled so, or refuses with the number of the
-- first check that fails, or with `OutOfMemory` (RFC 9420, 12.4.2).
abbrev pub Changes : Crypto → PublicState → ℕ → List Used → Commit → List ℕ → List ℕ →
    Result Outcome CommitError → Type 0
Changes c p committer used commit said signature result =
    (content : FramedContent) → framed_content.spell content ≡ said →
    Answers (λ o. o.change) number_of (change_of_commit c p committer used commit content signature)
    result

-- the leaves of both trees are below each bound, from that of a group's leaves on, that the proposals and the path's
-- leaf are below
abbrev pub HasTreesShortAs : List Used → Option UpdatePath → Change → Type 0
HasTreesShortAs used path change =
    (n : ℕ) → 2 ^ 27 ≤ n → AreBelow n used → IfSome path (λ p. IsBelow n leaf_node p.leaf_node) →
    HasLeavesBelow n change.edits.tree × HasLeavesBelow n change.tree

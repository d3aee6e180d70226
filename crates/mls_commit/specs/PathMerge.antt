-- What calls answer that merge a path, by the tree that the next epoch's tree is made of.
use Rattle.std.specs.Prelude.{ℕ, Bool, true, false, List, Option, Result}
use Rattle.mls_wire.specs.Checks.{Answers}
use Rattle.mls_leaf.specs.declared.leaf.LeafNode.{LeafNode}
use Rattle.mls_types.specs.declared.update_path.UpdatePath.{UpdatePath}
use Rattle.mls_suite.specs.Crypto.{Crypto}
use Rattle.mls_tree_model.specs.Term.{Term}
use Rattle.mls_tree.specs.Faults.{number_of as number_of_tree}
use Rattle.mls_tree.specs.Paths.{merge_answer}
use Rattle.mls_tree.specs.declared.error.TreeError.{TreeError}
use Rattle.mls_model.specs.PublicState.{PublicState}
use Rattle.mls_model.specs.Commit.{Edits, apply_path_if, apply_update_path}
use Rattle.mls_public_group.specs.NextTree.{next_term}
use Rattle.mls_public_group.specs.declared.next_tree.NextTree.{NextTree}
use Rattle.mls_commit.specs.Faults.{number_of}
use Rattle.mls_commit.specs.declared.error.CommitError.{CommitError}
use Rattle.mls_commit.specs.declared.path.PathBase.{PathBase}
use Rattle.mls_commit.specs.declared.path.PathBase.TheVariants.{GroupTree, EditedTree}

-- whether a path is merged into the group's own tree, of which nothing is copied
abbrev pub is_own : PathBase → Bool
is_own GroupTree = true
is_own EditedTree = false

-- The call merges a leaf and keys into a tree, or refuses with the number of what fails, or with `OutOfMemory`
-- (RFC 9420, 7.5).
abbrev pub MergesPath : Term → ℕ → LeafNode → List (List ℕ) → Result NextTree TreeError → Type 0
MergesPath t i leaf keys result =
    Answers (next_term t) number_of_tree (merge_answer t i leaf keys) result

-- The call checks the committer's path and merges it into the edited tree, or refuses with the number of the first
-- check that fails, or with `OutOfMemory` (RFC 9420, 12.4.2).
abbrev pub AppliesPath : Crypto → PublicState → ℕ → Edits → UpdatePath →
    Result NextTree CommitError → Type 0
AppliesPath c p committer e path result =
    Answers (next_term e.tree) number_of (apply_update_path c p committer e path) result

-- The call applies the path of a commit, and leaves the edited tree as it is where the commit has none.
abbrev pub AppliesPathIf : Crypto → PublicState → ℕ → Edits → Option UpdatePath →
    Result NextTree CommitError → Type 0
AppliesPathIf c p committer e path result =
    Answers (next_term e.tree) number_of (apply_path_if c p committer e path) result

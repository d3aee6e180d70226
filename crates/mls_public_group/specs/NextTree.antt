-- The ratchet tree of the next epoch, and the public state with it.
use Rattle.std.specs.Prelude.{◌≡◌, ℕ, List, Bool, true, false}
use Rattle.mls_types.specs.declared.group_context.GroupContext.{GroupContext}
use Rattle.mls_tree_model.specs.Term.{Term}
use Rattle.mls_tree_model.specs.Hashes.{tree_hash}
use Rattle.mls_tree.specs.Tree.{term}
use Rattle.mls_tree.specs.PreparedPath.{merged_by, IsFor}
use Rattle.mls_public_group.specs.declared.next_tree.NextTree.{NextTree}
use Rattle.mls_public_group.specs.declared.next_tree.NextTree.TheVariants.{Edited, EditedMerged, Merged}
use Rattle.mls_model.specs.PublicState.{PublicState}
use Rattle.mls_public_group.specs.PublicState.{public_of}

-- the next tree, where the group has this one
unfoldable pub next_term : Term → NextTree → Term
next_term t (Edited u) = term u
next_term t (EditedMerged u p) = merged_by (term u) p
next_term t (Merged p) = merged_by t p

-- a path was prepared for the tree that it is merged into
unfoldable pub IsPreparedFor : Term → NextTree → Type 0
IsPreparedFor t (Edited u) = Unit {0}
IsPreparedFor t (EditedMerged u p) = IsFor (term u) p
IsPreparedFor t (Merged p) = IsFor t p

-- whether it is the group's own tree with a path
abbrev pub is_merged : NextTree → Bool
is_merged (Edited u) = false
is_merged (EditedMerged u p) = false
is_merged (Merged p) = true

-- the next tree has this hash, wherever its path was prepared for the group's tree
abbrev pub IsHashOf : NextTree → List ℕ → Type 0
IsHashOf next hash = (t : Term) → IsPreparedFor t next → hash ≡ tree_hash 0 (next_term t next)

-- the next public state: the group enters the epoch with this context, tree and transcript
abbrev pub next_state : PublicState → GroupContext → NextTree → List ℕ → PublicState
next_state old context next interim = public_of context (next_term old.tree next) interim

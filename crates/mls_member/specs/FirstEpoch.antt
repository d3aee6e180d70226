-- The public state of epoch 0.
use Rattle.std.specs.Prelude.{ℕ, List, [], Some, Result, Ok}
use Rattle.mls_wire.specs.Checks.{◌>>◌}
use Rattle.mls_leaf.specs.declared.leaf.LeafNode.{LeafNode}
use Rattle.mls_types.specs.GroupContext.{group_context}
use Rattle.mls_types.specs.declared.group_context.GroupContext.{GroupContext}
use Rattle.mls_suite.specs.Crypto.{Crypto}
use Rattle.mls_tree_model.specs.Term.{Leaf}
use Rattle.mls_schedule.specs.Epoch.{confirmation_tag}
use Rattle.mls_schedule.specs.Transcript.{interim_hash}
use Rattle.mls_model.specs.Candidate.{first_context}
use Rattle.mls_model.specs.Messages.{require_within_limit}
use Rattle.mls_model.specs.PublicState.{PublicState}

-- the context of a group with one leaf (RFC 9420, 11)
abbrev pub context_with_leaf : Crypto → List ℕ → LeafNode → GroupContext
context_with_leaf c group leaf = first_context c group (Leaf (Some leaf))

-- the public state of a group with one leaf, or `TooLong` (6) where its context is too long (RFC 9420, 11)
unfoldable pub first_public : Crypto → LeafNode → List ℕ → List ℕ → Result PublicState ℕ
first_public c leaf group epoch =
    require_within_limit (group_context.spell (first_context c group (Leaf (Some leaf))))
    >> Ok (record { context = first_context c group (Leaf (Some leaf)); tree = Leaf (Some leaf); interim = interim_hash [] (confirmation_tag epoch []) })

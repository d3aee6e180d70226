-- The public state of a group by its parts, and the context of the next epoch.
use Rattle.std.specs.Prelude.{◌≡◌, ℕ, List, Result, IfOk}
use Rattle.mls_leaf.specs.declared.extension.Extension.{Extension}
use Rattle.mls_types.specs.declared.group_context.GroupContext.{GroupContext}
use Rattle.mls_tree_model.specs.Hashes.{tree_hash}
use Rattle.mls_tree_model.specs.Term.{Term}
use Rattle.mls_model.specs.PublicState.{PublicState, provisional_context}

-- the public state with these parts
abbrev pub public_of : GroupContext → Term → List ℕ → PublicState
public_of context tree interim = record { context = context; tree = tree; interim = interim }

-- the context answered is the next epoch's with these extensions and the tree that has this hash, and as yet with the
-- old transcript
abbrev pub IsProvisional : {E : Type 0} → GroupContext → List Extension → List ℕ →
    Result GroupContext E → Type 0
IsProvisional old list hash result =
    (t : Term) → hash ≡ tree_hash 0 t → IfOk result (λ g. g ≡ provisional_context old list t)

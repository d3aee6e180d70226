-- How long the parts of a saved state are.
use Rattle.std.proofs.Common.{ℕ, ◌+◌, ◌<◌, List, ◌++◌, length, subst, ◌∙◌, ap, arith, length-append}
use Rattle.std.specs.Int.{w32}
use Rattle.mls_wire.specs.Reading.{uint, header, opaque}
use Rattle.mls_types.specs.GroupContext.{group_context}
use Rattle.mls_types.specs.GroupInfo.{ratchet_tree}
use Rattle.mls_saved.specs.State.{saved_keys, saved_state}
use Rattle.mls_saved.specs.declared.state.SavedState.{SavedState}
use Rattle.mls_public_group.specs.Short.{IsBelow}

-- what follows the tree
behind_tree : SavedState → List ℕ
behind_tree v = opaque v.interim ++ (opaque v.epoch ++ (uint w32 v.leaf ++ (opaque v.own ++ saved_keys.spell v.above)))

lengths : (n : ℕ) (v : SavedState) → IsBelow n saved_state v → length (group_context.spell v.context) + (length (ratchet_tree.spell v.tree) + length (behind_tree v)) < n
unfolding saved_state behind_tree header
lengths n v is =
    let a : List ℕ = group_context.spell v.context in
    let b : List ℕ = ratchet_tree.spell v.tree in
    subst (λ (k : ℕ). k < n) (length-append a (b ++ behind_tree v) ∙ ap (λ (k : ℕ). length a + k) (length-append b (behind_tree v))) is.below

-- the context and the tree are as short as the whole
pub context_below : (n : ℕ) (v : SavedState) → IsBelow n saved_state v → IsBelow n group_context v.context
unfolding saved_state
context_below n v is = record { fits = is.fits.0; below = omega (arith, lengths n v is) }

pub tree_below : (n : ℕ) (v : SavedState) → IsBelow n saved_state v → IsBelow n ratchet_tree v.tree
unfolding saved_state
tree_below n v is = record { fits = is.fits.1.0; below = omega (arith, lengths n v is) }

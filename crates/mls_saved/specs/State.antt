-- The format of what a member knows of an epoch.
use Rattle.std.specs.Prelude.{List, ℕ, Option, refl}
use Rattle.mls_wire.specs.Format.{Format}
use Rattle.mls_wire.specs.Combine.{◌⨾◌, image, vector, optional, byte_string, uint32}
use Rattle.mls_wire.specs.CombineReads.{IsNonempty}
use Rattle.mls_leaf.specs.Nonempty.{optional_nonempty, first_nonempty}
use Rattle.mls_types.specs.GroupContext.{group_context, group_context_nonempty}
use Rattle.mls_types.specs.GroupInfo.{ratchet_tree}
use Rattle.mls_saved.specs.declared.state.SavedState.{SavedState}

-- optional<key<V>><V>: the private keys of the nodes over a leaf, the lowest first
abbrev pub saved_keys : Format (List (Option (List ℕ)))
saved_keys = vector (optional byte_string) (optional_nonempty byte_string)

-- GroupContext, ratchet_tree, interim_transcript_hash<V>, epoch_secret<V>, uint32 leaf, leaf_key<V>, keys over the leaf
unfoldable pub saved_state : Format SavedState
saved_state = image (group_context ⨾ ratchet_tree ⨾ byte_string ⨾ byte_string ⨾ uint32 ⨾ byte_string ⨾ saved_keys)
    (λ x. record { context = x.0; tree = x.1.0; interim = x.1.1.0; epoch = x.1.1.1.0; leaf = x.1.1.1.1.0; own = x.1.1.1.1.1.0; above = x.1.1.1.1.1.1 })
    (λ v. (v.context, (v.tree, (v.interim, (v.epoch, (v.leaf, (v.own, v.above)))))))
    (λ v. refl) (λ x _. refl)

pub saved_state_nonempty : IsNonempty saved_state
unfolding saved_state
saved_state_nonempty v fits =
    first_nonempty group_context (ratchet_tree ⨾ byte_string ⨾ byte_string ⨾ uint32 ⨾ byte_string ⨾ saved_keys) group_context_nonempty
    (v.context, (v.tree, (v.interim, (v.epoch, (v.leaf, (v.own, v.above)))))) fits

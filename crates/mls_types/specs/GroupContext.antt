-- The format of group contexts (RFC 9420, 8.1).
use Rattle.std.specs.Prelude.{refl}
use Rattle.std.proofs.Common.{lit<}
use Rattle.mls_wire.specs.Format.{Format}
use Rattle.mls_wire.specs.Combine.{◌⨾◌, image, behind, mark, byte_string, uint16, uint64}
use Rattle.mls_wire.specs.CombineReads.{IsNonempty}
use Rattle.mls_leaf.specs.GroupExtensions.{group_extensions}
use Rattle.mls_leaf.specs.Nonempty.{behind_nonempty, mark_nonempty}
use Rattle.mls_types.specs.declared.group_context.GroupContext.{GroupContext}

-- GroupContext (RFC 9420, 8.1): uint16 version (1, else `BadTag` (7)), uint16 cipher_suite, group_id<V>, uint64 epoch,
-- tree_hash<V>, confirmed_transcript_hash<V>, Extension<V> (of types for private use, each at most once, else
-- `ExtensionNotAllowed` (14))
unfoldable pub group_context : Format GroupContext
group_context = behind (mark 1 7 (lit< tt)) (image (uint16 ⨾ byte_string ⨾ uint64 ⨾ byte_string ⨾ byte_string ⨾ group_extensions)
    (λ x. record { cipher_suite = x.0; group_id = x.1.0; epoch = x.1.1.0; tree_hash = x.1.1.1.0; confirmed_transcript_hash = x.1.1.1.1.0; extensions = x.1.1.1.1.1 })
    (λ v. (v.cipher_suite, (v.group_id, (v.epoch, (v.tree_hash, (v.confirmed_transcript_hash, v.extensions))))))
    (λ v. refl) (λ x _. refl))

-- a spelling begins with the version
pub group_context_nonempty : IsNonempty group_context
unfolding group_context
group_context_nonempty = behind_nonempty (mark 1 7 (lit< tt)) (image (uint16 ⨾ byte_string ⨾ uint64 ⨾ byte_string ⨾ byte_string ⨾ group_extensions)
    (λ x. record { cipher_suite = x.0; group_id = x.1.0; epoch = x.1.1.0; tree_hash = x.1.1.1.0; confirmed_transcript_hash = x.1.1.1.1.0; extensions = x.1.1.1.1.1 })
    (λ v. (v.cipher_suite, (v.group_id, (v.epoch, (v.tree_hash, (v.confirmed_transcript_hash, v.extensions))))))
    (λ v. refl) (λ x _. refl)) (mark_nonempty 1 7 (lit< tt))

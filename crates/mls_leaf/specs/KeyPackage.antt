-- The format of key packages (RFC 9420, 10).
use Rattle.std.specs.Prelude.{refl}
use Rattle.std.proofs.Common.{lit<}
use Rattle.mls_wire.specs.Format.{Format}
use Rattle.mls_wire.specs.Combine.{◌⨾◌, image, behind, mark, empty_vector, byte_string, uint16}
use Rattle.mls_wire.specs.CombineReads.{IsNonempty}
use Rattle.mls_leaf.specs.Nonempty.{behind_nonempty, mark_nonempty}
use Rattle.mls_leaf.specs.Leaf.{leaf_node}
use Rattle.mls_leaf.specs.declared.key_package.KeyPackage.{KeyPackage}

-- (RFC 9420, section 10) uint16 version (1, else `BadTag` (7)), uint16 cipher_suite, init_key<V>, LeafNode,
-- Extension<V> (empty, else `ExtensionNotAllowed` (14)), signature<V>
unfoldable pub key_package : Format KeyPackage
key_package = behind (mark 1 7 (lit< tt)) (image (uint16 ⨾ byte_string ⨾ leaf_node ⨾ behind (empty_vector 14) byte_string)
    (λ x. record { cipher_suite = x.0; init_key = x.1.0; leaf_node = x.1.1.0; signature = x.1.1.1 })
    (λ v. (v.cipher_suite, (v.init_key, (v.leaf_node, v.signature))))
    (λ v. refl) (λ x _. refl))

-- a spelling begins with the version
pub key_package_nonempty : IsNonempty key_package
unfolding key_package
key_package_nonempty = behind_nonempty (mark 1 7 (lit< tt)) (image (uint16 ⨾ byte_string ⨾ leaf_node ⨾ behind (empty_vector 14) byte_string)
    (λ x. record { cipher_suite = x.0; init_key = x.1.0; leaf_node = x.1.1.0; signature = x.1.1.1 })
    (λ v. (v.cipher_suite, (v.init_key, (v.leaf_node, v.signature))))
    (λ v. refl) (λ x _. refl)) (mark_nonempty 1 7 (lit< tt))

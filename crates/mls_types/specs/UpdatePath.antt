-- The formats of update paths (RFC 9420, 7.6).
use Rattle.std.specs.Prelude.{refl}
use Rattle.mls_wire.specs.Format.{Format}
use Rattle.mls_wire.specs.Combine.{◌⨾◌, image, vector, byte_string}
use Rattle.mls_wire.specs.CombineReads.{IsNonempty}
use Rattle.mls_leaf.specs.Nonempty.{byte_string_nonempty, first_nonempty}
use Rattle.mls_leaf.specs.Leaf.{leaf_node, leaf_node_nonempty}
use Rattle.mls_types.specs.declared.update_path.HpkeCiphertext.{HpkeCiphertext}
use Rattle.mls_types.specs.declared.update_path.UpdatePathNode.{UpdatePathNode}
use Rattle.mls_types.specs.declared.update_path.UpdatePath.{UpdatePath}

-- HPKECiphertext (RFC 9420, 7.6): kem_output<V>, ciphertext<V>
unfoldable pub hpke_ciphertext : Format HpkeCiphertext
hpke_ciphertext = image (byte_string ⨾ byte_string)
    (λ x. record { kem_output = x.0; ciphertext = x.1 })
    (λ v. (v.kem_output, v.ciphertext))
    (λ v. refl) (λ x _. refl)

pub hpke_ciphertext_nonempty : IsNonempty hpke_ciphertext
unfolding hpke_ciphertext
hpke_ciphertext_nonempty v fits = first_nonempty byte_string byte_string byte_string_nonempty (v.kem_output, v.ciphertext) fits

-- UpdatePathNode (RFC 9420, 7.6): encryption_key<V>, HPKECiphertext<V>
unfoldable pub update_path_node : Format UpdatePathNode
update_path_node = image (byte_string ⨾ vector hpke_ciphertext hpke_ciphertext_nonempty)
    (λ x. record { encryption_key = x.0; ciphertexts = x.1 })
    (λ v. (v.encryption_key, v.ciphertexts))
    (λ v. refl) (λ x _. refl)

pub update_path_node_nonempty : IsNonempty update_path_node
unfolding update_path_node
update_path_node_nonempty v fits = first_nonempty byte_string (vector hpke_ciphertext hpke_ciphertext_nonempty) byte_string_nonempty (v.encryption_key, v.ciphertexts) fits

-- UpdatePath (RFC 9420, 7.6): LeafNode, UpdatePathNode<V>
unfoldable pub update_path : Format UpdatePath
update_path = image (leaf_node ⨾ vector update_path_node update_path_node_nonempty)
    (λ x. record { leaf_node = x.0; nodes = x.1 })
    (λ v. (v.leaf_node, v.nodes))
    (λ v. refl) (λ x _. refl)

pub update_path_nonempty : IsNonempty update_path
unfolding update_path
update_path_nonempty v fits = first_nonempty leaf_node (vector update_path_node update_path_node_nonempty) leaf_node_nonempty (v.leaf_node, v.nodes) fits

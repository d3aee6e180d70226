-- The format of a candidate.
use Rattle.std.specs.Prelude.{refl}
use Rattle.std.proofs.Common.{lit<}
use Rattle.mls_wire.specs.Format.{Format}
use Rattle.mls_wire.specs.Combine.{◌⨾◌, image, behind, mark, byte_string}
use Rattle.mls_wire.specs.CombineReads.{IsNonempty}
use Rattle.mls_leaf.specs.Nonempty.{behind_nonempty, mark_nonempty}
use Rattle.mls_leaf.specs.KeyPackage.{key_package}
use Rattle.mls_saved.specs.declared.candidate.SavedCandidate.{SavedCandidate}

-- uint16 version (2, else `BadTag` (7)), KeyPackage, init_key<V>, leaf_key<V>, signature_key<V>
unfoldable pub saved_candidate : Format SavedCandidate
saved_candidate = behind (mark 2 7 (lit< tt)) (image (key_package ⨾ byte_string ⨾ byte_string ⨾ byte_string)
    (λ x. record { key_package = x.0; init = x.1.0; leaf = x.1.1.0; signing = x.1.1.1 })
    (λ v. (v.key_package, (v.init, (v.leaf, v.signing))))
    (λ v. refl) (λ x _. refl))

-- a spelling begins with the version
pub saved_candidate_nonempty : IsNonempty saved_candidate
unfolding saved_candidate
saved_candidate_nonempty = behind_nonempty (mark 2 7 (lit< tt)) (image (key_package ⨾ byte_string ⨾ byte_string ⨾ byte_string)
    (λ x. record { key_package = x.0; init = x.1.0; leaf = x.1.1.0; signing = x.1.1.1 })
    (λ v. (v.key_package, (v.init, (v.leaf, v.signing))))
    (λ v. refl) (λ x _. refl)) (mark_nonempty 2 7 (lit< tt))

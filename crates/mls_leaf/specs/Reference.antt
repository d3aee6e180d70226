-- The reference of a KeyPackage (RFC 9420, 5.2).
use Rattle.std.specs.Prelude.{ℕ, List, codes}
use Rattle.mls_kdf.specs.Kdf.{ref_hash}

-- the reference of a KeyPackage, made of the bytes that spell it (RFC 9420, 5.2)
unfoldable pub key_package_reference : List ℕ → List ℕ
key_package_reference bytes = ref_hash (codes "MLS 1.0 KeyPackage Reference") bytes

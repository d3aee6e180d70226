-- What is wrong with a vector is said just where it can't be read.
use Rattle.std.proofs.Common.{◌≡◌, ℕ, List, not, codes, Option, Some, None, is_some, refl}
use Rattle.std.specs.Str.{bytes_eq}
use Rattle.serde_json.specs.Data.{Data}
use Rattle.mls_cli_json.specs.HexText.{hex_at}
use Rattle.mls_cli_json.specs.Json.{◌>>=◌, is_object_of, max_u32, number_at, text_at, whole_at}
use Rattle.mls_cli_vectors.specs.VectorsFile.{claim_in, expand_in, header_in, hex_or_null_at, hkdf_in, hmac_in, kind_in, label_at, message_in, numbers_at, tree_in, treemath_in}
use Rattle.mls_cli_json_place.specs.declared.key.Key.TheVariants as key
use Rattle.mls_cli_json_place.specs.VectorsFile.{expand_wrong, header_wrong, hkdf_wrong, hmac_wrong, kind_wrong, message_wrong, tree_wrong, treemath_wrong, vector_wrong, wrong_of_kind}
use Rattle.mls_cli_json_place.proofs.Tables.{by_name, last, row, table}

header_told : (d : Data) → is_some (header_wrong d) ≡ not (is_some (header_in d))
unfolding header_wrong
header_told d = table _ _ (is_object_of 3 d) (row key.Length (whole_at max_u32 (codes "length") d) _ _ (λ x0. row key.Bytes (hex_or_null_at (codes "bytes") d) _ _ (λ x1. last _)))

hmac_told : (d : Data) → is_some (hmac_wrong d) ≡ not (is_some (hmac_in d))
unfolding hmac_wrong
hmac_told d = table _ _ (is_object_of 4 d) (row key.HmacKey (hex_at (codes "key") d) _ _ (λ x0. row key.Data (hex_at (codes "data") d) _ _ (λ x1. row key.Out (hex_at (codes "out") d) _ _ (λ x2. last _))))

hkdf_told : (d : Data) → is_some (hkdf_wrong d) ≡ not (is_some (hkdf_in d))
unfolding hkdf_wrong
hkdf_told d = table _ _ (is_object_of 6 d) (row key.Salt (hex_at (codes "salt") d) _ _ (λ x0. row key.Ikm (hex_at (codes "ikm") d) _ _ (λ x1. row key.Info (hex_at (codes "info") d) _ _ (λ x2. row key.Prk (hex_at (codes "prk") d) _ _ (λ x3. row key.Okm (hex_at (codes "okm") d) _ _ (λ x4. last _))))))

expand_told : (d : Data) → is_some (expand_wrong d) ≡ not (is_some (expand_in d))
unfolding expand_wrong
expand_told d = table _ _ (is_object_of 5 d) (row key.Label (label_at (codes "label") d) _ _ (λ x0. row key.Secret (hex_at (codes "secret") d) _ _ (λ x1. row key.Context (hex_at (codes "context") d) _ _ (λ x2. row key.Out (hex_at (codes "out") d) _ _ (λ x3. last _)))))

treemath_told : (d : Data) → is_some (treemath_wrong d) ≡ not (is_some (treemath_in d))
unfolding treemath_wrong
treemath_told d = table _ _ (is_object_of 5 d) (row key.Leaves (whole_at max_u32 (codes "leaves") d) _ _ (λ x0. row key.Node (whole_at max_u32 (codes "node") d) _ _ (λ x1. row key.DirectPath (numbers_at (codes "direct_path") d) _ _ (λ x2. row key.Copath (numbers_at (codes "copath") d) _ _ (λ x3. last _)))))

message_told : (d : Data) → is_some (message_wrong d) ≡ not (is_some (message_in d))
unfolding message_wrong
message_told d = table _ _ (is_object_of 3 d) (row key.Refused (number_at (codes "refused") d) _ _ (λ x0. row key.Bytes (hex_at (codes "bytes") d) _ _ (λ x1. last _)))

tree_told : (d : Data) → is_some (tree_wrong d) ≡ not (is_some (tree_in d))
unfolding tree_wrong
tree_told d = table _ _ (is_object_of 3 d) (row key.Bytes (hex_at (codes "bytes") d) _ _ (λ x0. row key.TreeHash (hex_at (codes "tree_hash") d) _ _ (λ x1. last _)))

kind_told : (kind : List ℕ) (d : Data) → is_some (kind_wrong kind d) ≡ not (is_some (kind_in kind d))
unfolding kind_wrong
kind_told kind d =
    by_name (bytes_eq kind (codes "header")) _ _ _ _ (header_told d) (by_name (bytes_eq kind (codes "hmac")) _ _ _ _ (hmac_told d) (by_name (bytes_eq kind (codes "hkdf")) _ _ _ _ (hkdf_told d) (by_name (bytes_eq kind (codes "expand")) _ _ _ _ (expand_told d) (by_name (bytes_eq kind (codes "treemath")) _ _ _ _ (treemath_told d) (by_name (bytes_eq kind (codes "message")) _ _ _ _ (message_told d) (by_name (bytes_eq kind (codes "tree")) _ _ _ _ (tree_told d) (refl)))))))

by_kind : (kind : Option (List ℕ)) (d : Data) → is_some (wrong_of_kind kind d) ≡ not (is_some (kind >>= λ kind. kind_in kind d))
by_kind None d = refl
by_kind (Some kind) d = kind_told kind d

pub vector_told : (d : Data) → is_some (vector_wrong d) ≡ not (is_some (claim_in d))
vector_told d = by_kind (text_at (codes "kind") d) d

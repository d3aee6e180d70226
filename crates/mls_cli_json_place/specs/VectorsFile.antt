-- Where a vector file has the fault that it is refused with as `BadJson` (9).
use Rattle.std.specs.Prelude.{ℕ, List, codes, if◌then◌else◌, Option, Some, None, option_map, is_some}
use Rattle.std.specs.Str.{bytes_eq}
use Rattle.serde_json.specs.Data.{Data, Items}
use Rattle.serde_json.specs.Find.{as_array}
use Rattle.mls_cli_json.specs.HexText.{hex_at}
use Rattle.mls_cli_json.specs.Json.{data_in, is_object_of, max_u32, number_at, text_at, whole_at}
use Rattle.mls_cli_vectors.specs.VectorsFile.{hex_or_null_at, label_at, numbers_at}
use Rattle.mls_cli_json_place.specs.declared.key.Key.TheVariants as key
use Rattle.mls_cli_json_place.specs.declared.place.Wrong.{Wrong}
use Rattle.mls_cli_json_place.specs.declared.place.Wrong.TheVariants.{At}
use Rattle.mls_cli_json_place.specs.Faults.{Spot, at_key, in_vector, no_array, no_more, spot_by}
use Rattle.mls_cli_json_place.specs.Lists.{first_wrong}

-- ---- the tables

unfoldable pub header_wrong : Data → Option Wrong
header_wrong d =
    at_key key.Length (is_some (whole_at max_u32 (codes "length") d))
    (at_key key.Bytes (is_some (hex_or_null_at (codes "bytes") d))
    (no_more (is_object_of 3 d)))

unfoldable pub hmac_wrong : Data → Option Wrong
hmac_wrong d =
    at_key key.HmacKey (is_some (hex_at (codes "key") d))
    (at_key key.Data (is_some (hex_at (codes "data") d))
    (at_key key.Out (is_some (hex_at (codes "out") d))
    (no_more (is_object_of 4 d))))

unfoldable pub hkdf_wrong : Data → Option Wrong
hkdf_wrong d =
    at_key key.Salt (is_some (hex_at (codes "salt") d))
    (at_key key.Ikm (is_some (hex_at (codes "ikm") d))
    (at_key key.Info (is_some (hex_at (codes "info") d))
    (at_key key.Prk (is_some (hex_at (codes "prk") d))
    (at_key key.Okm (is_some (hex_at (codes "okm") d))
    (no_more (is_object_of 6 d))))))

unfoldable pub expand_wrong : Data → Option Wrong
expand_wrong d =
    at_key key.Label (is_some (label_at (codes "label") d))
    (at_key key.Secret (is_some (hex_at (codes "secret") d))
    (at_key key.Context (is_some (hex_at (codes "context") d))
    (at_key key.Out (is_some (hex_at (codes "out") d))
    (no_more (is_object_of 5 d)))))

unfoldable pub treemath_wrong : Data → Option Wrong
treemath_wrong d =
    at_key key.Leaves (is_some (whole_at max_u32 (codes "leaves") d))
    (at_key key.Node (is_some (whole_at max_u32 (codes "node") d))
    (at_key key.DirectPath (is_some (numbers_at (codes "direct_path") d))
    (at_key key.Copath (is_some (numbers_at (codes "copath") d))
    (no_more (is_object_of 5 d)))))

unfoldable pub message_wrong : Data → Option Wrong
message_wrong d =
    at_key key.Refused (is_some (number_at (codes "refused") d))
    (at_key key.Bytes (is_some (hex_at (codes "bytes") d))
    (no_more (is_object_of 3 d)))

unfoldable pub tree_wrong : Data → Option Wrong
tree_wrong d =
    at_key key.Bytes (is_some (hex_at (codes "bytes") d))
    (at_key key.TreeHash (is_some (hex_at (codes "tree_hash") d))
    (no_more (is_object_of 3 d)))

-- ---- by the kind

-- a kind that isn't listed is itself wrong
unfoldable pub kind_wrong : List ℕ → Data → Option Wrong
kind_wrong kind d =
    if bytes_eq kind (codes "header") then header_wrong d
    else if bytes_eq kind (codes "hmac") then hmac_wrong d
    else if bytes_eq kind (codes "hkdf") then hkdf_wrong d
    else if bytes_eq kind (codes "expand") then expand_wrong d
    else if bytes_eq kind (codes "treemath") then treemath_wrong d
    else if bytes_eq kind (codes "message") then message_wrong d
    else if bytes_eq kind (codes "tree") then tree_wrong d
    else Some (At key.Kind)

abbrev pub wrong_of_kind : Option (List ℕ) → Data → Option Wrong
wrong_of_kind None d = Some (At key.Kind)
wrong_of_kind (Some kind) d = kind_wrong kind d

abbrev pub vector_wrong : Data → Option Wrong
vector_wrong d = wrong_of_kind (text_at (codes "kind") d) d

-- ---- all of a file

abbrev pub vector_spot : ℕ × Wrong → Spot
vector_spot found = in_vector found.0 found.1

abbrev pub array_spot : Option Items → Option Spot
array_spot None = Some no_array
array_spot (Some ds) = option_map vector_spot (first_wrong vector_wrong 0 ds)

abbrev pub vectors_spot : List ℕ → Option Spot
vectors_spot text = spot_by (λ d. array_spot (as_array d)) (data_in text)

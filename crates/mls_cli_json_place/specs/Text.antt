-- Places in JSON files as texts.
use Rattle.std.specs.Prelude.{ℕ, List, ◌++◌, codes}
use Rattle.std.specs.Fmt.{decimal}
use Rattle.mls_cli_json_place.specs.declared.key.Key.{Key}
use Rattle.mls_cli_json_place.specs.declared.key.Key.TheVariants as key
use Rattle.mls_cli_json_place.specs.declared.place.JsonPlace.{JsonPlace}
use Rattle.mls_cli_json_place.specs.declared.place.JsonPlace.TheVariants as place
use Rattle.mls_cli_json_place.specs.declared.place.Wrong.{Wrong}
use Rattle.mls_cli_json_place.specs.declared.place.Wrong.TheVariants.{At, Extra}

-- the keys as files have them
unfoldable pub key_name : Key → List ℕ
key_name key.Bytes = codes "bytes"
key_name key.Candidate = codes "candidate"
key_name key.Context = codes "context"
key_name key.Copath = codes "copath"
key_name key.Data = codes "data"
key_name key.DirectPath = codes "direct_path"
key_name key.Events = codes "events"
key_name key.Expect = codes "expect"
key_name key.Extensions = codes "extensions"
key_name key.Final = codes "final"
key_name key.Group = codes "group"
key_name key.HmacKey = codes "key"
key_name key.Identity = codes "identity"
key_name key.Ikm = codes "ikm"
key_name key.Info = codes "info"
key_name key.Items = codes "items"
key_name key.KeyPackage = codes "key_package"
key_name key.Kind = codes "kind"
key_name key.Label = codes "label"
key_name key.Leaf = codes "leaf"
key_name key.Leaves = codes "leaves"
key_name key.Length = codes "length"
key_name key.Member = codes "member"
key_name key.Node = codes "node"
key_name key.Okm = codes "okm"
key_name key.Op = codes "op"
key_name key.Out = codes "out"
key_name key.Path = codes "path"
key_name key.Prk = codes "prk"
key_name key.Refused = codes "refused"
key_name key.Salt = codes "salt"
key_name key.Secret = codes "secret"
key_name key.Seed = codes "seed"
key_name key.Suite = codes "suite"
key_name key.TreeHash = codes "tree_hash"
key_name key.Version = codes "version"

-- a line of a name and a number
abbrev pub number_line : List ℕ → ℕ → List ℕ
number_line name n = name ++ codes ": " ++ decimal n ++ codes "\n"

-- a line of the key, or of there being too many
abbrev pub wrong_text : Wrong → List ℕ
wrong_text (At key) = codes "key: " ++ key_name key ++ codes "\n"
wrong_text Extra = codes "keys: too many\n"

abbrev pub json_place_text : JsonPlace → List ℕ
json_place_text (place.Text line column) = number_line (codes "line") line ++ number_line (codes "column") column
json_place_text place.NoArray = codes "file: no array\n"
json_place_text (place.File wrong) = wrong_text wrong
json_place_text (place.Event index wrong) = number_line (codes "event") index ++ wrong_text wrong
json_place_text (place.Vector index wrong) = number_line (codes "vector") index ++ wrong_text wrong

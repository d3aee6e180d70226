-- The vectors of a file. Its shape is a fault before a text that isn't hex: such a text is kept, and a vector with one is
-- nothing, where the shape is right.
use Rattle.std.specs.Prelude.{◌≡◌, ℕ, nat_le, List, [], ◌∷◌, length, codes, if◌then◌else◌, map, Option, Some, None, option_map, option_and_then, Result, Ok, Err}
use Rattle.std.specs.Str.{bytes_eq}
use Rattle.std.specs.Global.{Vec}
use Rattle.serde_json.specs.Data.{Data, Items, no_items, item}
use Rattle.serde_json.specs.Find.{get, as_str, as_null, as_array}
use Rattle.mls_cli_json.specs.HexText.{bytes_of, hex_at}
use Rattle.mls_cli_json.specs.Lists.{each_of, value_or_number}
use Rattle.mls_cli_json.specs.Json.{◌>>=◌, data_in, require, is_object_of, text_at, number_at, max_u32, whole, whole_at, items_at}
use Rattle.mls_cli_json.specs.declared.error.JsonError.{JsonError}
use Rattle.mls_cli_json.specs.declared.error.JsonError.TheVariants as error
use Rattle.mls_cli_vectors.specs.Vectors.{Claim, header, hmac, hkdf, expand, treemath, message, tree, seen, vector_view}
use Rattle.mls_cli_vectors.specs.declared.reading.Vector.{Vector}

-- ---- vectors of each kind

-- a text, or null
abbrev pub hex_or_null : Data → Option (Option (Option (List ℕ)))
hex_or_null d = if_null (as_null d) (as_str d)
  where
    if_null : {A : Type 0} → Option A → Option (List ℕ) → Option (Option (Option (List ℕ)))
    if_null (Some x) text = Some (Some None)
    if_null None text = option_map (λ t. option_map Some (bytes_of t)) text

-- the text at a key, or null
abbrev pub hex_or_null_at : List ℕ → Data → Option (Option (Option (List ℕ)))
hex_or_null_at key d = option_and_then hex_or_null (get key d)

abbrev pub header_of : ℕ → Option (Option (List ℕ)) → Option Claim
header_of length bytes = do
  bytes ← bytes
  Some (header length bytes)

abbrev pub header_in : Data → Option (Option Claim)
header_in d = require (is_object_of 3 d) (do
  length ← whole_at max_u32 (codes "length") d
  bytes ← hex_or_null_at (codes "bytes") d
  Some (header_of length bytes))

abbrev pub hmac_of : Option (List ℕ) → Option (List ℕ) → Option (List ℕ) → Option Claim
hmac_of key text out = do
  key ← key
  text ← text
  out ← out
  Some (hmac key text out)

abbrev pub hmac_in : Data → Option (Option Claim)
hmac_in d = require (is_object_of 4 d) (do
  key ← hex_at (codes "key") d
  text ← hex_at (codes "data") d
  out ← hex_at (codes "out") d
  Some (hmac_of key text out))

abbrev pub hkdf_of : Option (List ℕ) → Option (List ℕ) → Option (List ℕ) → Option (List ℕ) → Option (List ℕ) → Option Claim
hkdf_of salt ikm info prk okm = do
  salt ← salt
  ikm ← ikm
  info ← info
  prk ← prk
  okm ← okm
  Some (hkdf salt ikm info prk okm)

abbrev pub hkdf_in : Data → Option (Option Claim)
hkdf_in d = require (is_object_of 6 d) (do
  salt ← hex_at (codes "salt") d
  ikm ← hex_at (codes "ikm") d
  info ← hex_at (codes "info") d
  prk ← hex_at (codes "prk") d
  okm ← hex_at (codes "okm") d
  Some (hkdf_of salt ikm info prk okm))

-- a label has at most 200 bytes
abbrev pub label_at : List ℕ → Data → Option (List ℕ)
label_at key d = do
  label ← text_at key d
  require (nat_le (length label) 200) (Some label)

abbrev pub expand_of : Option (List ℕ) → List ℕ → Option (List ℕ) → Option (List ℕ) → Option Claim
expand_of secret label context out = do
  secret ← secret
  context ← context
  out ← out
  Some (expand secret label context out)

abbrev pub expand_in : Data → Option (Option Claim)
expand_in d = require (is_object_of 5 d) (do
  label ← label_at (codes "label") d
  secret ← hex_at (codes "secret") d
  context ← hex_at (codes "context") d
  out ← hex_at (codes "out") d
  Some (expand_of secret label context out))

abbrev pub message_of : Option (List ℕ) → ℕ → Option Claim
message_of bytes refused = do
  bytes ← bytes
  Some (message bytes refused)

abbrev pub message_in : Data → Option (Option Claim)
message_in d = require (is_object_of 3 d) (do
  refused ← number_at (codes "refused") d
  bytes ← hex_at (codes "bytes") d
  Some (message_of bytes refused))

abbrev pub tree_of : Option (List ℕ) → Option (List ℕ) → Option Claim
tree_of bytes tree_hash = do
  bytes ← bytes
  tree_hash ← tree_hash
  Some (tree bytes tree_hash)

abbrev pub tree_in : Data → Option (Option Claim)
tree_in d = require (is_object_of 3 d) (do
  bytes ← hex_at (codes "bytes") d
  tree_hash ← hex_at (codes "tree_hash") d
  Some (tree_of bytes tree_hash))

unfoldable pub numbers_of : Items → Option (List ℕ)
numbers_of no_items = Some []
numbers_of (item d ds) = do
  n ← whole max_u32 d
  ns ← numbers_of ds
  Some (n ∷ ns)

abbrev pub numbers_at : List ℕ → Data → Option (List ℕ)
numbers_at key d = items_at key d >>= numbers_of

abbrev pub treemath_in : Data → Option (Option Claim)
treemath_in d = require (is_object_of 5 d) (do
  leaves ← whole_at max_u32 (codes "leaves") d
  node ← whole_at max_u32 (codes "node") d
  direct_path ← numbers_at (codes "direct_path") d
  copath ← numbers_at (codes "copath") d
  Some (Some (treemath leaves node direct_path copath)))

abbrev pub kind_in : List ℕ → Data → Option (Option Claim)
kind_in kind d =
    if bytes_eq kind (codes "header") then header_in d
    else if bytes_eq kind (codes "hmac") then hmac_in d
    else if bytes_eq kind (codes "hkdf") then hkdf_in d
    else if bytes_eq kind (codes "expand") then expand_in d
    else if bytes_eq kind (codes "treemath") then treemath_in d
    else if bytes_eq kind (codes "message") then message_in d
    else if bytes_eq kind (codes "tree") then tree_in d
    else None

abbrev pub claim_in : Data → Option (Option Claim)
claim_in d = do
  kind ← text_at (codes "kind") d
  kind_in kind d

-- ---- all of a file

-- The claims of a file, which is an array of vectors, or the number of its refusal.
unfoldable pub claims_in : List ℕ → Result (List Claim) ℕ
claims_in file = value_or_number ((data_in file >>= as_array) >>= each_of claim_in)

-- ---- of the code's values

-- the claim of a vector that was read, where all of its texts are hex; the first argument is what a label's text is
abbrev pub expand_seen : {L : Type 0} → (L → List ℕ) → Option (Vec ℕ) → L → Option (Vec ℕ) → Option (Vec ℕ) → Option Claim
expand_seen text secret label context out = expand_of (seen secret) (text label) (seen context) (seen out)

-- The vectors are those of the file, or the error is want of memory or has the number of the file's refusal.
abbrev pub Reads : Result (Vec Vector) JsonError → Result (List Claim) ℕ → Type 0
Reads (Ok vectors) read = read ≡ Ok (map vector_view vectors.items)
Reads (Err error.OutOfMemory) read = Unit {0}
Reads (Err error.NotHex) read = read ≡ Err 8
Reads (Err error.BadJson) read = read ≡ Err 9

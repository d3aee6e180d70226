-- What a test vector claims.
use Rattle.std.specs.Prelude.{ℕ, List, Option, option_map, string_bytes}
use Rattle.std.specs.Global.{Vec}
use Rattle.mls_cli_vectors.specs.declared.reading.Vector.{Vector}
use Rattle.mls_cli_vectors.specs.declared.reading.Vector.TheVariants as vector

pub data Claim : Type 0 where
  -- a length, and its header, if it has one
  header : ℕ → Option (List ℕ) → Claim
  -- a key, a text and the tag
  hmac : List ℕ → List ℕ → List ℕ → Claim
  -- a salt, input key material, an info, the key extracted and the key expanded
  hkdf : List ℕ → List ℕ → List ℕ → List ℕ → List ℕ → Claim
  -- a secret, a label, which is a text, a context and the key expanded
  expand : List ℕ → List ℕ → List ℕ → List ℕ → Claim
  -- a number of leaves, a node, its direct path and its copath
  treemath : ℕ → ℕ → List ℕ → List ℕ → Claim
  -- bytes, and the number that decoding gives
  message : List ℕ → ℕ → Claim
  -- bytes, and the tree hash
  tree : List ℕ → List ℕ → Claim

-- ---- of the code's values

-- the bytes of a text that was read, where it is hex
abbrev pub seen : Option (Vec ℕ) → Option (List ℕ)
seen bytes = option_map (λ (v : Vec ℕ). v.items) bytes

-- what a vector claims
abbrev pub vector_view : Vector → Claim
vector_view (vector.Header length bytes) = header length (seen bytes)
vector_view (vector.Hmac key text out) = hmac key.items text.items out.items
vector_view (vector.Hkdf salt ikm info prk okm) = hkdf salt.items ikm.items info.items prk.items okm.items
vector_view (vector.Expand secret label context out) = expand secret.items (string_bytes label) context.items out.items
vector_view (vector.Treemath leaves node direct_path copath) = treemath leaves node direct_path.items copath.items
vector_view (vector.Message bytes refused) = message bytes.items refused
vector_view (vector.Tree bytes tree_hash) = tree bytes.items tree_hash.items

-- what a vector claims that was read, where all of its texts are hex
abbrev pub claim_of : Option Vector → Option Claim
claim_of found = option_map vector_view found

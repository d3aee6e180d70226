-- Which vectors pass.
use Rattle.std.specs.Prelude.{◌==◌, ◌&&◌, ◌^◌, nat_le, nat_lt, ℕ, Bool, false, List, length, Option, Some, None, Result, Ok, Err}
use Rattle.std.specs.Str.{bytes_eq}
use Rattle.mls_wire.specs.Reading as wire
use Rattle.mls_wire.specs.Whole.{whole}
use Rattle.mls_kdf.specs.Kdf as kdf
use Rattle.mls_treemath.specs.Steps.{ancestors_of, copath_of}
use Rattle.mls_leaf.specs.Limits.{input_limit}
use Rattle.mls_types.specs.Message.{mls_message}
use Rattle.mls_types.specs.declared.message.MlsMessage.{MlsMessage}
use Rattle.mls_tree_model.specs.Term.{Term}
use Rattle.mls_tree_model.specs.Hashes.{tree_hash as hash_of}
use Rattle.mls_cli_check.specs.Check.{tree_in}
use Rattle.mls_cli_vectors.specs.Vectors.{Claim, header, hmac, hkdf, expand, treemath, message, tree}

-- RFC 9420, section 2.1.2: the bytes are the header of a length, of which there is none from 2^30 on
abbrev pub header_passes : ℕ → Option (List ℕ) → Bool
header_passes n None = nat_le (2 ^ 30) n
header_passes n (Some bytes) = nat_lt n (2 ^ 30) && bytes_eq (wire.header n) bytes

-- RFC 2104: the tag of a text under a key
abbrev pub hmac_passes : List ℕ → List ℕ → List ℕ → Bool
hmac_passes key text out = bytes_eq (kdf.hmac key text) out

-- RFC 5869, section 2.3: a key of at most 8,160 bytes, expanded from prk
abbrev pub expand_passes : List ℕ → List ℕ → List ℕ → Bool
expand_passes prk info okm = nat_le (length okm) 8160 && bytes_eq (kdf.expand prk info (length okm)) okm

-- RFC 5869, section 2: both keys
abbrev pub hkdf_passes : List ℕ → List ℕ → List ℕ → List ℕ → List ℕ → Bool
hkdf_passes salt ikm info prk okm = bytes_eq (kdf.extract salt ikm) prk && expand_passes prk info okm

-- a label and a context that have headers
abbrev pub is_labelled : List ℕ → List ℕ → Bool
is_labelled label context = nat_le (length label) 200 && nat_lt (length context) (2 ^ 30)

-- RFC 9420, section 8: a key of at most 8,160 bytes, expanded under a label and a context
abbrev pub labelled_passes : List ℕ → List ℕ → List ℕ → List ℕ → Bool
labelled_passes secret label context out =
    is_labelled label context && (nat_le (length out) 8160 && bytes_eq (kdf.expand_with_label secret label context (length out)) out)

-- RFC 9420, section 4.1.2 and appendix C: both walks from a node
abbrev pub treemath_passes : ℕ → ℕ → List ℕ → List ℕ → Bool
treemath_passes leaves node direct_path copath =
    bytes_eq (ancestors_of leaves node) direct_path && bytes_eq (copath_of leaves node) copath

-- the number that decoding gives, 0 where there is a value
abbrev pub decoding_number : Result MlsMessage ℕ → ℕ
decoding_number (Ok m) = 0
decoding_number (Err n) = n

-- RFC 9420, section 6: the bytes are an MLSMessage, or decoding refuses them so
abbrev pub message_passes : List ℕ → ℕ → Bool
message_passes bytes refused = decoding_number (whole mls_message input_limit bytes) == refused

-- there is a tree, and it has that tree hash; its first leaf is leaf 0
abbrev pub has_hash : Result Term ℕ → List ℕ → Bool
has_hash (Ok t) tree_hash = bytes_eq (hash_of 0 t) tree_hash
has_hash (Err n) tree_hash = false

-- RFC 9420, section 12.4.3.3 and 7.8: the bytes are the nodes of a tree with that tree hash
abbrev pub tree_passes : List ℕ → List ℕ → Bool
tree_passes bytes tree_hash = has_hash (tree_in bytes) tree_hash

-- the claim holds
unfoldable pub passes : Claim → Bool
passes (header length bytes) = header_passes length bytes
passes (hmac key text out) = hmac_passes key text out
passes (hkdf salt ikm info prk okm) = hkdf_passes salt ikm info prk okm
passes (expand secret label context out) = labelled_passes secret label context out
passes (treemath leaves node direct_path copath) = treemath_passes leaves node direct_path copath
passes (message bytes refused) = message_passes bytes refused
passes (tree bytes tree_hash) = tree_passes bytes tree_hash

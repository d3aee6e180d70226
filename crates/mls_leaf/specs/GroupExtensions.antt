-- The extensions that a group carries (RFC 9420, 8.1 and 13.4): of types for private use alone, which is this project's
-- profile, and each type at most once.
use Rattle.std.specs.Prelude.{◌≡◌, ℕ, ◌==◌, nat_le, nat_lt, Bool, true, false, not, ◌&&◌, ◌||◌, List, [], ◌∷◌, length, Result, refl}
use Rattle.mls_wire.specs.Format.{Format}
use Rattle.mls_wire.specs.ReadFaults.{HasFaults, pair_faults, seen_answered, guarded_faults, vector_from_faults, byte_string_faults, uint16_faults}
use Rattle.mls_wire.specs.Combine.{◌⨾◌, image, with_test, byte_string, uint16}
use Rattle.mls_wire.specs.Stateful.{vector_from}
use Rattle.mls_wire.specs.CombineReads.{IsNonempty}
use Rattle.mls_wire.specs.StatefulReads.{Rule, run_at}
use Rattle.mls_leaf.specs.Limits.{input_limit}
use Rattle.mls_leaf.specs.Nonempty.{uint16_nonempty, first_nonempty, vector_from_nonempty}
use Rattle.mls_leaf.specs.declared.extension.Extension.{Extension}

-- Whether a type is for private use: f000 to ffff (RFC 9420, section 17.3).
abbrev pub is_private : ℕ → Bool
is_private kind = nat_le 61440 kind && nat_lt kind 65536

-- Whether a type is one of some.
unfoldable pub is_among : List ℕ → ℕ → Bool
is_among [] kind = false
is_among (x ∷ xs) kind = (x == kind) || is_among xs kind

-- Whether an extension of this type may stand behind some of other types: it is for private use, and none of these.
abbrev pub is_new : List ℕ → ℕ → Bool
is_new types kind = is_private kind && not (is_among types kind)

-- Whether extensions may stand behind others of these types.
unfoldable pub are_new : List ℕ → List Extension → Bool
are_new types [] = true
are_new types (v ∷ vs) = is_new types v.kind && are_new (v.kind ∷ types) vs

-- Whether a group may carry these extensions (RFC 9420, 12.1.7): each type is for private use, and stands once.
abbrev pub are_allowed : List Extension → Bool
are_allowed vs = are_new [] vs

-- The extensions are allowed, and the value is this list of them.
abbrev pub AreAllowed : List Extension → List Extension → Type 0
AreAllowed vs value = (value ≡ vs) × (are_allowed vs ≡ true)

-- ---- (RFC 9420, sections 7.2 and 13.4) uint16 type, data<V>

-- Extension (RFC 9420, 7.2): its type passes a test, else `ExtensionNotAllowed` (14), before its data are read
abbrev pub extension_where : (ℕ → Bool) → Format Extension
extension_where allowed = image (with_test uint16 allowed 14 ⨾ byte_string)
    (λ x. record { kind = x.0; content = x.1 })
    (λ v. (v.kind, v.content))
    (λ v. refl) (λ x _. refl)

pub extension_where_nonempty : (allowed : ℕ → Bool) → IsNonempty (extension_where allowed)
extension_where_nonempty allowed v fits = first_nonempty (with_test uint16 allowed 14) byte_string (λ n h. uint16_nonempty n h.0) (v.kind, v.content) fits

-- behind an extension none of its type may stand
abbrev pub each_once : Rule (List ℕ) Extension
each_once = record {
  item = λ types. extension_where (is_new types);
  next = λ types v. v.kind ∷ types;
  nonempty = λ types. extension_where_nonempty (is_new types);
}

-- the extensions that all of the bytes spell, which a group may carry
abbrev pub allowed_extensions : List ℕ → Result (List Extension) ℕ
allowed_extensions bytes = run_at each_once (length bytes) [] bytes

-- ---- (RFC 9420, sections 8.1 and 12.1.7) Extension<V>, of types for private use, each at most once

-- Extension<V> of a group: of another type, or of a type that stands before it, an entry is `ExtensionNotAllowed` (14)
unfoldable pub group_extensions : Format (List Extension)
group_extensions = vector_from each_once []

pub group_extensions_nonempty : IsNonempty group_extensions
unfolding group_extensions
group_extensions_nonempty = vector_from_nonempty each_once []

extension_where_faults : (allowed : ℕ → Bool) → HasFaults (extension_where allowed)
extension_where_faults allowed = record { answers = seen_answered _ (pair_faults (guarded_faults allowed 14 refl uint16_faults) byte_string_faults) }

pub group_extensions_faults : HasFaults group_extensions
unfolding group_extensions
group_extensions_faults = vector_from_faults each_once [] (λ types. extension_where_faults (is_new types))

-- Whether the list of these extensions fits into an input.
abbrev pub is_short : List Extension → Bool
is_short vs = nat_le (length (group_extensions.spell vs)) input_limit

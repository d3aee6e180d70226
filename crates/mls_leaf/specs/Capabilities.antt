-- Capabilities as the bytes that spell them (RFC 9420, 7.2), and what the calls on them promise.
use Rattle.std.specs.Prelude.{◌≡◌, ℕ, ◌==◌, Bool, ◌&&◌, List, [], Result, Ok, Err}
use Rattle.std.specs.List.{AllByRecursion, flat_map, list_any}
use Rattle.mls_wire.specs.Format.{Format}
use Rattle.mls_wire.specs.Combine.{uint16}
use Rattle.mls_leaf.specs.Faults.{Refuses}
use Rattle.mls_leaf.specs.Leaf.{capabilities}
use Rattle.mls_leaf.specs.declared.error.LeafError.{LeafError}
use Rattle.mls_leaf.specs.declared.leaf.Capabilities.{Capabilities}

-- the lists that were read, or empty ones where there was a fault
abbrev pub lists_or_none : Result (Capabilities × List ℕ) ℕ → Capabilities
lists_or_none (Ok x) = x.0
lists_or_none (Err e) = record { versions = []; cipher_suites = []; extensions = []; proposals = []; credentials = [] }

-- the lists that the bytes spell
unfoldable pub capabilities_in : List ℕ → Capabilities
capabilities_in bytes = lists_or_none (capabilities.read bytes)

-- whether the number is one of these
abbrev pub is_listed : List ℕ → ℕ → Bool
is_listed numbers number = list_any (λ n. n == number) numbers

-- whether the version, the cipher suite and the type of credential are among those listed
abbrev pub are_listed : Capabilities → ℕ → ℕ → ℕ → Bool
are_listed v version suite credential =
    is_listed v.versions version && is_listed v.cipher_suites suite && is_listed v.credentials credential

-- the bytes are the spellings of these numbers, one after the other
pub record SpellNumbers (numbers bytes : List ℕ) : Type 0 where
  pub fit : AllByRecursion uint16.Fits numbers
  pub spelled : bytes ≡ flat_map uint16.spell numbers

-- What a call returned is the value, which has a spelling. The error is want of memory, or a vector in it is too long.
abbrev pub Makes : {V : Type 0} → Format V → V → Result V LeafError → Type 0
Makes format v (Ok w) = format.Fits v × (w ≡ v)
Makes format v (Err e) = Refuses (format.Fits v) e

-- Ciphertexts one after the other, as the bytes that spell them (RFC 9420, 7.6).
use Rattle.std.specs.Prelude.{◌≡◌, ℕ, List, [], length, Result, Ok, Err}
use Rattle.std.specs.List.{flat_map, AllByRecursion}
use Rattle.mls_leaf.specs.declared.error.LeafError.{LeafError}
use Rattle.mls_leaf.specs.Faults.{items_in, number_of}
use Rattle.mls_types.specs.declared.update_path.HpkeCiphertext.{HpkeCiphertext}
use Rattle.mls_types.specs.declared.ciphertexts.CiphertextRef.{CiphertextRef}
use Rattle.mls_types.specs.UpdatePath.{hpke_ciphertext}

-- the ciphertext that is lent
abbrev pub ciphertext_lent : CiphertextRef → HpkeCiphertext
ciphertext_lent r = record { kem_output = r.kem_output.now; ciphertext = r.ciphertext.now }

-- the items that were read, or none where there was a fault
abbrev pub items_or_none : {A : Type 0} → Result (List A) ℕ → List A
items_or_none (Ok xs) = xs
items_or_none (Err e) = []

-- the ciphertexts that all of the bytes spell, one after the other
unfoldable pub ciphertexts_in : List ℕ → List HpkeCiphertext
ciphertexts_in bytes = items_or_none (items_in hpke_ciphertext bytes)

-- the bytes are the spellings of ciphertexts, one after the other
pub record AreSpelled (bytes : List ℕ) : Type 0 where
  pub fit : AllByRecursion hpke_ciphertext.Fits (ciphertexts_in bytes)
  pub spelled : bytes ≡ flat_map hpke_ciphertext.spell (ciphertexts_in bytes)

-- A call on a reader lends the ciphertext at the front, or answers the first fault.
abbrev pub LendsCiphertext : List ℕ → Result CiphertextRef LeafError → List ℕ → Type 0
LendsCiphertext old (Ok r) new = hpke_ciphertext.read old ≡ Ok (ciphertext_lent r, new)
LendsCiphertext old (Err e) new = hpke_ciphertext.read old ≡ Err (number_of e)

-- all of the bytes spell so many ciphertexts, one after the other
pub record SpellSoMany (bytes : List ℕ) (n : ℕ) : Type 0 where
  pub are_read : items_in hpke_ciphertext bytes ≡ Ok (ciphertexts_in bytes)
  pub are_spelled : AreSpelled bytes
  pub counted : n ≡ length (ciphertexts_in bytes)

-- A call answers how many ciphertexts all of the bytes spell, or the first fault.
abbrev pub CountsCiphertexts : List ℕ → Result ℕ LeafError → Type 0
CountsCiphertexts bytes (Ok n) = SpellSoMany bytes n
CountsCiphertexts bytes (Err e) = items_in hpke_ciphertext bytes ≡ Err (number_of e)

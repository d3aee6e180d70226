-- The seals of a Welcome by their numbers: one for each place among its entries, behind those of the path.
use Rattle.std.specs.Prelude.{◌≡◌, ℕ, ◌+◌, List, length, Some, Ok, slice_get}
use Rattle.mls_leaf.specs.declared.key_package.KeyPackage.{KeyPackage}
use Rattle.mls_types.specs.declared.welcome.EncryptedGroupSecrets.{EncryptedGroupSecrets}
use Rattle.mls_suite.specs.Crypto.{Crypto}
use Rattle.mls_model.specs.Welcome.{entry_for, entries_for}

-- an entry of a Welcome is sealed for some KeyPackage with the randomness of this number (RFC 9420, 12.4.3.1)
pub record IsEntryUnder (c : Crypto) (encrypted_info : List ℕ) (rnd : ℕ → List ℕ) (number : ℕ)
    (entry : EncryptedGroupSecrets) : Type 0 where
  pub offered : KeyPackage
  pub sealed : List ℕ
  pub is : entry_for c encrypted_info offered sealed (rnd number) ≡ Ok entry

-- the number of an entry's seal is its place behind the first number
abbrev pub EntriesByNumber : Type 0
EntriesByNumber = (c : Crypto) (encrypted_info : List ℕ) (secrets : ℕ → List ℕ) (rnd : ℕ → List ℕ) (n : ℕ)
    (joiners : List (KeyPackage × ℕ)) (entries : List EncryptedGroupSecrets) →
    entries_for c encrypted_info secrets rnd n joiners ≡ Ok entries → (k : ℕ) (entry : EncryptedGroupSecrets) →
    slice_get entries k ≡ Some entry → IsEntryUnder c encrypted_info rnd (n + k) entry

-- a Welcome has an entry for each of those who join
abbrev pub EntriesAreCounted : Type 0
EntriesAreCounted = (c : Crypto) (encrypted_info : List ℕ) (secrets : ℕ → List ℕ) (rnd : ℕ → List ℕ) (n : ℕ)
    (joiners : List (KeyPackage × ℕ)) (entries : List EncryptedGroupSecrets) →
    entries_for c encrypted_info secrets rnd n joiners ≡ Ok entries → length entries ≡ length joiners

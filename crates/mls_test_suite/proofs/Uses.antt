-- What is read and what verifies, by the laws of any suite.
use Rattle.std.proofs.Common.{◌≡◌, ℕ, List, Option, Some, None, Bool, true, refl, sym, ◌∙◌}
use Rattle.std.specs.Prelude.{is_some}
use Rattle.mls_suite.specs.Crypto.{Crypto, Lawful, Sealing}
use Rattle.mls_suite.specs.Labels.{encrypt_with_label, decrypt_with_label, sign_with_label, verify_with_label}
use Rattle.mls_suite.proofs.LabelLaws.{verifies_signed, opens_sealed, seals_where_fit}

-- a seal to a public key is made
pub made : (c : Crypto) (laws : Lawful c) (sk pk label context pt rnd : List ℕ) (s : Option Sealing)
    → pk ≡ c.public sk → s ≡ encrypt_with_label c pk label context pt rnd → is_some s ≡ true
made c laws sk pk label context pt rnd s p e = rw (e, p) ((seals_where_fit c laws).public sk label context pt rnd)

-- what is read is what was sealed
pub reads : (c : Crypto) (laws : Lawful c) (sk pk label context pt rnd : List ℕ) (s : Sealing) (read : Option (List ℕ))
    → pk ≡ c.public sk → Some s ≡ encrypt_with_label c pk label context pt rnd
    → read ≡ decrypt_with_label c sk label context s.kem s.ct → read ≡ Some pt
reads c laws sk pk label context pt rnd s read p e opened =
    opened ∙ opens_sealed c laws sk label context pt rnd s (let h = rw p at e in sym h)

-- a signature that was made verifies
pub verified : (c : Crypto) (laws : Lawful c) (sk pk label content signature : List ℕ) (good : Bool)
    → pk ≡ c.sig_public sk → signature ≡ sign_with_label c sk label content
    → good ≡ verify_with_label c pk label content signature → good ≡ true
verified c laws sk pk label content signature good p s v = v ∙ rw (p, s) (verifies_signed c laws sk label content)

unmade : (s : Option Sealing) → is_some s ≡ true → s ≡ None → ⊥
unmade None h e = absurd cc
unmade (Some x) h e = absurd cc

-- no seal to a public key is refused
pub never_unmade : (c : Crypto) (laws : Lawful c) (sk pk label context pt rnd : List ℕ)
    → pk ≡ c.public sk → None ≡ encrypt_with_label c pk label context pt rnd → ⊥
never_unmade c laws sk pk label context pt rnd p e = unmade None (made c laws sk pk label context pt rnd None p e) refl

unread : (read : Option (List ℕ)) (text : List ℕ) → read ≡ None → read ≡ Some text → ⊥
unread read text none some = (let no : None ≡ Some text = sym none ∙ some in absurd cc)

-- what was sealed is not shut
pub never_shut : (c : Crypto) (laws : Lawful c) (sk pk label context pt rnd : List ℕ) (s : Sealing)
    → pk ≡ c.public sk → Some s ≡ encrypt_with_label c pk label context pt rnd
    → None ≡ decrypt_with_label c sk label context s.kem s.ct → ⊥
never_shut c laws sk pk label context pt rnd s p e shut = unread None pt refl (reads c laws sk pk label context pt rnd s None p e shut)

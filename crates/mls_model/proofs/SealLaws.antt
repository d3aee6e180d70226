-- The seals of a Welcome by their numbers: one for each place among its entries, behind those of the path.
use Rattle.std.proofs.Common.{◌≡◌, ℕ, zero, suc, ◌+◌, List, [], ◌∷◌, length, Some, ap, sym, ◌∙◌, subst, arith, slice_get}
use Rattle.mls_wire.specs.Laws.{bind_ok, ok_is}
use Rattle.mls_types.specs.declared.welcome.EncryptedGroupSecrets.{EncryptedGroupSecrets}
use Rattle.mls_model.specs.Welcome.{entry_for, entries_for}
use Rattle.mls_model.specs.SealLaws.{IsEntryUnder, EntriesByNumber, EntriesAreCounted}

no_entry : (k : ℕ) (xs : List EncryptedGroupSecrets) (x : EncryptedGroupSecrets) → [] ≡ xs → slice_get xs k ≡ Some x → ⊥
no_entry k [] x e g = absurd cc
no_entry k (y ∷ xs) x e g = absurd cc

first_entry : (x y : EncryptedGroupSecrets) (xs zs : List EncryptedGroupSecrets) → x ∷ xs ≡ zs → slice_get zs 0 ≡ Some y → x ≡ y
first_entry x y xs [] e g = absurd cc
first_entry x y xs (z ∷ zs) e g = cc

later_entry : (k : ℕ) (x y : EncryptedGroupSecrets) (xs zs : List EncryptedGroupSecrets) → x ∷ xs ≡ zs → slice_get zs (suc k) ≡ Some y → slice_get xs k ≡ Some y
later_entry k x y xs zs e g = subst (λ (l : List EncryptedGroupSecrets). slice_get l (suc k) ≡ Some y) (sym e) g

pub entries_by_number : EntriesByNumber
unfolding entries_for
entries_by_number c encrypted_info secrets rnd n [] entries h k entry g = absurd (no_entry k entries entry (ok_is [] entries h) g)
entries_by_number c encrypted_info secrets rnd n (x ∷ xs) entries h zero entry g =
    let s = bind_ok (entry_for c encrypted_info x.0 (secrets x.1) (rnd n)) _ entries h in
    let t = bind_ok (entries_for c encrypted_info secrets rnd (suc n) xs) _ entries s.2 in
    let same : s.0 ≡ entry = first_entry s.0 entry t.0 entries (ok_is (s.0 ∷ t.0) entries t.2) g in
    let number : n ≡ n + 0 = omega arith in
    subst (λ (m : ℕ). IsEntryUnder c encrypted_info rnd m entry) number
    (subst (λ (z : EncryptedGroupSecrets). IsEntryUnder c encrypted_info rnd n z) same (record { offered = x.0; sealed = secrets x.1; is = s.1 }))
entries_by_number c encrypted_info secrets rnd n (x ∷ xs) entries h (suc k) entry g =
    let s = bind_ok (entry_for c encrypted_info x.0 (secrets x.1) (rnd n)) _ entries h in
    let t = bind_ok (entries_for c encrypted_info secrets rnd (suc n) xs) _ entries s.2 in
    let rest = later_entry k s.0 entry t.0 entries (ok_is (s.0 ∷ t.0) entries t.2) g in
    let number : suc n + k ≡ n + suc k = omega arith in
    subst (λ (m : ℕ). IsEntryUnder c encrypted_info rnd m entry) number (entries_by_number c encrypted_info secrets rnd (suc n) xs t.0 t.1 k entry rest)

pub entries_are_counted : EntriesAreCounted
unfolding entries_for
entries_are_counted c encrypted_info secrets rnd n [] entries h = ap length (sym (ok_is [] entries h))
entries_are_counted c encrypted_info secrets rnd n (x ∷ xs) entries h =
    let s = bind_ok (entry_for c encrypted_info x.0 (secrets x.1) (rnd n)) _ entries h in
    let t = bind_ok (entries_for c encrypted_info secrets rnd (suc n) xs) _ entries s.2 in
    ap length (sym (ok_is (s.0 ∷ t.0) entries t.2)) ∙ ap suc (entries_are_counted c encrypted_info secrets rnd (suc n) xs t.0 t.1)

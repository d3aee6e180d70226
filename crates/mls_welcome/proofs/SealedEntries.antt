-- The entries that code seals.
use Rattle.std.proofs.Common.{◌≡◌, ℕ, zero, suc, ◌+◌, ◌<◌, ◌≤◌, ◌&&◌, Bool, true, false, List, [], ◌∷◌, ◌++◌, length, map, get_or, drop, Option, Some, None, Result, Ok, Err, refl, sym, ap, ap₂, subst, ◌∙◌, arith, append-nil, append_assoc}
use Rattle.std.specs.Prelude.{codes, is_some}
use Rattle.std.specs.List.{AllByRecursion}
use Rattle.std.specs.Option.{option_copied}
use Rattle.std.proofs.lemmas.List.{drop_more, drop_all}
use Rattle.mls_wire.specs.Checks.{require_some}
use Rattle.mls_wire.specs.Reading.{◌>>=◌}
use Rattle.mls_leaf.specs.declared.key_package.KeyPackage.{KeyPackage}
use Rattle.mls_types.specs.declared.welcome.EncryptedGroupSecrets.{EncryptedGroupSecrets}
use Rattle.mls_suite.specs.Crypto.{Crypto, Sealing, Lawful}
use Rattle.mls_suite.specs.Labels.{encrypt_with_label}
use Rattle.mls_suite.proofs.LabelLaws.{seals_where_fit}
use Rattle.mls_suite.specs.Sealings.{sealing_of}
use Rattle.mls_suite.specs.declared.Sealed.{Sealed}
use Rattle.mls_treekem_model.specs.Seal.{ciphertext_of}
use Rattle.mls_model.specs.Proposals.{package_reference}
use Rattle.mls_model.specs.Welcome.{secrets_with, entry_for, entries_for}
use Rattle.mls_welcome.specs.declared.welcome_message.Joiner.{Joiner}
use Rattle.mls_welcome.specs.Joiners.{package_and_leaf_of, AreSecretsOf}
use Rattle.mls_welcome.specs.WelcomeMessage.{have_fit_keys}

-- ---- one entry

abbrev entry_of : KeyPackage → Option Sealing → Result EncryptedGroupSecrets ℕ
entry_of offered o = require_some 36 o >>= λ s. Ok (record { new_member = package_reference offered; encrypted_group_secrets = ciphertext_of s })

module _ (c : Crypto) (encrypted : List ℕ) (offered : KeyPackage) (secrets rnd : List ℕ) where
  entry_is : (o : Option Sealing) → o ≡ encrypt_with_label c offered.init_key (codes "Welcome") encrypted secrets rnd → entry_for c encrypted offered secrets rnd ≡ entry_of offered o
  unfolding entry_for
  entry_is o made = ap (entry_of offered) (sym made)

  module _ (key : List ℕ) (key_is : key ≡ offered.init_key) (s : Option Sealed) (made : sealing_of s ≡ encrypt_with_label c key (codes "Welcome") encrypted secrets rnd) where
    sealed_is : sealing_of s ≡ encrypt_with_label c offered.init_key (codes "Welcome") encrypted secrets rnd
    sealed_is = made ∙ ap (λ k. encrypt_with_label c k (codes "Welcome") encrypted secrets rnd) key_is

    pub one_sealed : (x : Sealed) → s ≡ Some x → (name kem ct : List ℕ) → name ≡ package_reference offered → kem ≡ x.kem.items → ct ≡ x.ct.items →
        entry_for c encrypted offered secrets rnd ≡ Ok (record { new_member = name; encrypted_group_secrets = record { kem_output = kem; ciphertext = ct } })
    one_sealed x is name kem ct a e f =
        entry_is (sealing_of s) sealed_is ∙ ap (λ o. entry_of offered (sealing_of o)) is
        ∙ ap (λ n. Ok (let y : EncryptedGroupSecrets = record { new_member = n; encrypted_group_secrets = record { kem_output = x.kem.items; ciphertext = x.ct.items } } in y)) (sym a)
        ∙ ap₂ (λ k t. Ok (let y : EncryptedGroupSecrets = record { new_member = name; encrypted_group_secrets = record { kem_output = k; ciphertext = t } } in y)) (sym e) (sym f)

    pub one_unfit : s ≡ None → entry_for c encrypted offered secrets rnd ≡ Err 36
    one_unfit is = entry_is (sealing_of s) sealed_is ∙ ap (λ o. entry_of offered (sealing_of o)) is

-- ---- those that are made and those that are left

abbrev pub onto : List EncryptedGroupSecrets → Result (List EncryptedGroupSecrets) ℕ → Result (List EncryptedGroupSecrets) ℕ
onto xs (Ok ys) = Ok (xs ++ ys)
onto xs (Err n) = Err n

abbrev entry_and : Result EncryptedGroupSecrets ℕ → Result (List EncryptedGroupSecrets) ℕ → Result (List EncryptedGroupSecrets) ℕ
entry_and r others = r >>= λ x. others >>= λ xs. Ok (x ∷ xs)

more_onto : (xs : List EncryptedGroupSecrets) (x : EncryptedGroupSecrets) (r : Result (List EncryptedGroupSecrets) ℕ) → onto xs (entry_and (Ok x) r) ≡ onto (xs ++ (x ∷ [])) r
more_onto xs x (Ok ys) = ap Ok (sym (append_assoc xs (x ∷ []) ys))
more_onto xs x (Err n) = refl

-- what is left of the joiners from place i on, one step on and at the end
module _ (js : List Joiner) (i : ℕ) where
  step : (j : Joiner) → i < length js → j ≡ get_or js i j → drop i js ≡ j ∷ drop (i + 1) js
  step j lt is = drop_more js i j lt ∙ ap (λ (y : Joiner). y ∷ drop (i + 1) js) (sym is)

-- what holds of all holds of each
pub holds_at : {X : Type 0} (P : X → Type 0) (xs : List X) (i : ℕ) (x : X) → i < length xs → x ≡ get_or xs i x → AllByRecursion P xs → P x
holds_at P [] i x lt is all = absurd (omega arith)
holds_at P (y ∷ ys) zero x lt is all = subst P (sym is) all.0
holds_at P (y ∷ ys) (suc i) x lt is all = holds_at P ys i x (omega arith) is all.1

-- the entries so far are those of the joiners before place i
abbrev pub EntriesLeft : Crypto → List ℕ → List ℕ → (ℕ → List ℕ) → List Joiner → ℕ → List EncryptedGroupSecrets → ℕ → ℕ → Type 0
EntriesLeft c encrypted joiner rnd js first xs n i =
    (secrets : ℕ → List ℕ) → AreSecretsOf joiner secrets js
    → entries_for c encrypted secrets rnd first (map package_and_leaf_of js) ≡ onto xs (entries_for c encrypted secrets rnd n (map package_and_leaf_of (drop i js)))

abbrev secrets_for : List ℕ → Joiner → List ℕ
secrets_for joiner j = secrets_with joiner (option_copied j.path_secret)

module _ (c : Crypto) (encrypted joiner : List ℕ) (rnd : ℕ → List ℕ) (js : List Joiner) (first : ℕ) (xs : List EncryptedGroupSecrets) (n i : ℕ) (inv : EntriesLeft c encrypted joiner rnd js first xs n i) where
  next_is : (j : Joiner) → i < length js → j ≡ get_or js i j → (secrets : ℕ → List ℕ) → AreSecretsOf joiner secrets js → (r : Result EncryptedGroupSecrets ℕ) → entry_for c encrypted j.key_package.now (secrets_for joiner j) (rnd n) ≡ r
      → entries_for c encrypted secrets rnd first (map package_and_leaf_of js) ≡ onto xs (entry_and r (entries_for c encrypted secrets rnd (suc n) (map package_and_leaf_of (drop (i + 1) js))))
  unfolding entries_for
  next_is j lt is secrets all r made =
      let own : secrets j.leaf ≡ secrets_for joiner j = holds_at (λ (j : Joiner). secrets j.leaf ≡ secrets_for joiner j) js i j lt is all in
      inv secrets all
      ∙ ap (λ l. onto xs (entries_for c encrypted secrets rnd n (map package_and_leaf_of l))) (step js i j lt is)
      ∙ ap (λ r. onto xs (entry_and r (entries_for c encrypted secrets rnd (suc n) (map package_and_leaf_of (drop (i + 1) js))))) (ap (λ s. entry_for c encrypted j.key_package.now s (rnd n)) own ∙ made)

  pub entries_more : (j : Joiner) → i < length js → j ≡ get_or js i j → (x : EncryptedGroupSecrets) → entry_for c encrypted j.key_package.now (secrets_for joiner j) (rnd n) ≡ Ok x
      → (ys : List EncryptedGroupSecrets) → ys ≡ xs ++ (x ∷ []) → (m : ℕ) → m ≡ n + 1 → EntriesLeft c encrypted joiner rnd js first ys m (i + 1)
  entries_more j lt is x made ys pushed m m_is secrets all =
      next_is j lt is secrets all (Ok x) made
      ∙ more_onto xs x (entries_for c encrypted secrets rnd (suc n) (map package_and_leaf_of (drop (i + 1) js)))
      ∙ ap₂ (λ l k. onto l (entries_for c encrypted secrets rnd k (map package_and_leaf_of (drop (i + 1) js)))) (sym pushed) (let e : suc n ≡ m = omega arith in e)

  pub entries_fail : (j : Joiner) → i < length js → j ≡ get_or js i j → (e : ℕ) → entry_for c encrypted j.key_package.now (secrets_for joiner j) (rnd n) ≡ Err e
      → (secrets : ℕ → List ℕ) → AreSecretsOf joiner secrets js → entries_for c encrypted secrets rnd first (map package_and_leaf_of js) ≡ Err e
  entries_fail j lt is e made secrets all = next_is j lt is secrets all (Err e) made

  pub entries_end : length js ≤ i → (secrets : ℕ → List ℕ) → AreSecretsOf joiner secrets js → entries_for c encrypted secrets rnd first (map package_and_leaf_of js) ≡ Ok xs
  unfolding entries_for
  entries_end ge secrets all =
      inv secrets all
      ∙ ap (λ l. onto xs (entries_for c encrypted secrets rnd n (map package_and_leaf_of l))) (drop_all i js ge)
      ∙ ap Ok (append-nil xs)

-- none is made at first
pub entries_start : (c : Crypto) (encrypted joiner : List ℕ) (rnd : ℕ → List ℕ) (js : List Joiner) (first : ℕ) (xs : List EncryptedGroupSecrets) → xs ≡ [] → EntriesLeft c encrypted joiner rnd js first xs first 0
entries_start c encrypted joiner rnd js first xs none secrets all =
    same (entries_for c encrypted secrets rnd first (map package_and_leaf_of js)) ∙ ap (λ l. onto l (entries_for c encrypted secrets rnd first (map package_and_leaf_of js))) (sym none)
  where
    same : (r : Result (List EncryptedGroupSecrets) ℕ) → r ≡ onto [] r
    same (Ok ys) = refl
    same (Err n) = refl

-- ---- init keys

module _ (c : Crypto) (js : List Joiner) (i : ℕ) (inv : have_fit_keys c (map package_and_leaf_of (drop i js)) ≡ have_fit_keys c (map package_and_leaf_of js)) where
  key_next : (j : Joiner) → i < length js → j ≡ get_or js i j → (b : Bool) → c.key_ok j.key_package.now.init_key ≡ b → (b && have_fit_keys c (map package_and_leaf_of (drop (i + 1) js))) ≡ have_fit_keys c (map package_and_leaf_of js)
  key_next j lt is b fit =
      ap (λ b. b && have_fit_keys c (map package_and_leaf_of (drop (i + 1) js))) (sym fit)
      ∙ ap (λ l. have_fit_keys c (map package_and_leaf_of l)) (sym (step js i j lt is))
      ∙ inv

  pub keys_more : (j : Joiner) → i < length js → j ≡ get_or js i j → c.key_ok j.key_package.now.init_key ≡ true → have_fit_keys c (map package_and_leaf_of (drop (i + 1) js)) ≡ have_fit_keys c (map package_and_leaf_of js)
  keys_more j lt is fit = key_next j lt is true fit

  pub keys_fail : (j : Joiner) → i < length js → j ≡ get_or js i j → c.key_ok j.key_package.now.init_key ≡ false → false ≡ have_fit_keys c (map package_and_leaf_of js)
  keys_fail j lt is fit = key_next j lt is false fit

  pub keys_end : length js ≤ i → true ≡ have_fit_keys c (map package_and_leaf_of js)
  keys_end ge = ap (λ l. have_fit_keys c (map package_and_leaf_of l)) (sym (drop_all i js ge)) ∙ inv

module _ (c : Crypto) (laws : Lawful c) (encrypted : List ℕ) (secrets rnd : ℕ → List ℕ) where
  abbrev Made : Result (List EncryptedGroupSecrets) ℕ → Type 0
  Made r = (xs : List EncryptedGroupSecrets) × (r ≡ Ok xs)

  fit_of : (offered : KeyPackage) (o : Option Sealing) → is_some o ≡ true → (x : EncryptedGroupSecrets) × (entry_of offered o ≡ Ok x)
  fit_of offered (Some s) e = (_, refl)
  fit_of offered None e = absurd cc

  unfit_of : (offered : KeyPackage) (o : Option Sealing) → is_some o ≡ false → entry_of offered o ≡ Err 36
  unfit_of offered (Some s) e = absurd cc
  unfit_of offered None e = refl

  fits_is : (offered : KeyPackage) (text r : List ℕ) → is_some (encrypt_with_label c offered.init_key (codes "Welcome") encrypted text r) ≡ c.key_ok offered.init_key
  fits_is offered text r = (seals_where_fit c laws).exactly offered.init_key (codes "Welcome") encrypted text r

  -- with fit keys there is an entry for each
  pub entries_fit : (n : ℕ) (js : List (KeyPackage × ℕ)) → have_fit_keys c js ≡ true → Made (entries_for c encrypted secrets rnd n js)
  unfolding entries_for
  entries_fit n [] fit = ([], refl)
  entries_fit n (j ∷ js) fit =
      first (c.key_ok j.0.init_key) (have_fit_keys c js) fit
      (λ e. let x = fit_of j.0 _ (fits_is j.0 (secrets j.1) (rnd n) ∙ e) in (x.0, entry_is c encrypted j.0 (secrets j.1) (rnd n) _ refl ∙ x.1))
      (λ e. entries_fit (suc n) js e)
    where
      both : (r : Result EncryptedGroupSecrets ℕ) (s : Result (List EncryptedGroupSecrets) ℕ) → (x : EncryptedGroupSecrets) × (r ≡ Ok x) → Made s → Made (entry_and r s)
      both r s x xs = (x.0 ∷ xs.0, ap₂ entry_and x.1 xs.1)

      first : {r : Result EncryptedGroupSecrets ℕ} {s : Result (List EncryptedGroupSecrets) ℕ} (a b : Bool) → (a && b) ≡ true → (a ≡ true → (x : EncryptedGroupSecrets) × (r ≡ Ok x)) → (b ≡ true → Made s) → Made (entry_and r s)
      first {r} {s} true b e x xs = both r s (x refl) (xs e)
      first false b e x xs = absurd cc

  -- and else 36
  pub entries_unfit : (n : ℕ) (js : List (KeyPackage × ℕ)) → have_fit_keys c js ≡ false → entries_for c encrypted secrets rnd n js ≡ Err 36
  unfolding entries_for
  entries_unfit n [] fit = absurd cc
  entries_unfit n (j ∷ js) fit =
      first (c.key_ok j.0.init_key) (have_fit_keys c js) fit
      (λ e. let x = fit_of j.0 _ (fits_is j.0 (secrets j.1) (rnd n) ∙ e) in (x.0, entry_is c encrypted j.0 (secrets j.1) (rnd n) _ refl ∙ x.1))
      (λ e. entry_is c encrypted j.0 (secrets j.1) (rnd n) _ refl ∙ unfit_of j.0 _ (fits_is j.0 (secrets j.1) (rnd n) ∙ e))
      (λ e. entries_unfit (suc n) js e)
    where
      first : {r : Result EncryptedGroupSecrets ℕ} {s : Result (List EncryptedGroupSecrets) ℕ} (a b : Bool) → (a && b) ≡ false → (a ≡ true → (x : EncryptedGroupSecrets) × (r ≡ Ok x)) → (a ≡ false → r ≡ Err 36) → (b ≡ false → s ≡ Err 36) → entry_and r s ≡ Err 36
      first true b e x unfit others = ap₂ entry_and (x refl).1 (others e)
      first {r} {s} false b e x unfit others = ap (λ r. entry_and r s) (unfit refl)

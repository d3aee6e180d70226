-- The entry of a made Welcome that a candidate finds first is the one that was made for it.
use Rattle.std.proofs.Common.{◌≡◌, ℕ, suc, Bool, true, false, cond, ◌||◌, List, [], ◌∷◌, length, map, Some, Ok, refl, sym, ap, subst, ◌∙◌, inl, inr, arith}
use Rattle.std.specs.Prelude.{find}
use Rattle.std.specs.List.{list_any, zip}
use Rattle.std.specs.Str.{bytes_eq}
use Rattle.std.proofs.lemmas.Bool.{true≢false}
use Rattle.std.proofs.lemmas.Slice.Eq.{bytes_eq-Decides}
use Rattle.mls_wire.specs.Laws.{ok_is}
use Rattle.mls_leaf.specs.KeyPackage.{key_package}
use Rattle.mls_leaf.specs.Reference.{key_package_reference}
use Rattle.mls_leaf.specs.declared.key_package.KeyPackage.{KeyPackage}
use Rattle.mls_types.specs.declared.welcome.EncryptedGroupSecrets.{EncryptedGroupSecrets}
use Rattle.mls_suite.specs.Crypto.{Crypto}
use Rattle.mls_tree_model.specs.Sets.{same_bytes, is_distinct}
use Rattle.mls_model.specs.Proposals.{package_reference}
use Rattle.mls_model.specs.Welcome.{entry_for, entries_for}
use Rattle.mls_theorems.proofs.Clients.{no_other, distinct_rest}
use Rattle.mls_theorems.proofs.One.{IsOneOf}
use Rattle.mls_wire.proofs.CheckLaws.{bind_ok}
use Rattle.mls_theorems.proofs.Welcomed.{entry_did}

-- whether a KeyPackage, as it is spelled, is one of these
abbrev pub is_among : KeyPackage → List KeyPackage → Bool
is_among k xs = list_any (bytes_eq (key_package.spell k)) (map (λ (x : KeyPackage). key_package.spell x) xs)

-- the test for its entry
abbrev pub is_for : KeyPackage → EncryptedGroupSecrets → Bool
is_for k e = bytes_eq e.new_member (package_reference k)

-- the first entry for a KeyPackage, with what it was made of
pub record HasEntry (c : Crypto) (context : List ℕ) (secrets : ℕ → List ℕ) (joiners : List (KeyPackage × ℕ)) (entries : List EncryptedGroupSecrets) (k : KeyPackage) : Type 0 where
  pub offered : KeyPackage
  pub leaf : ℕ
  pub seed : List ℕ
  pub entry : EncryptedGroupSecrets
  pub is_made : entry_for c context offered (secrets leaf) seed ≡ Ok entry
  pub is_found : find (is_for k) entries ≡ Some entry
  pub spelled : key_package.spell k ≡ key_package.spell offered
  pub joins : IsOneOf (offered, leaf) joiners

-- one that is spelled alike is there
any_one : (k : KeyPackage) (xs : List KeyPackage) → is_among k xs ≡ true → (x : KeyPackage) × IsOneOf x xs × (key_package.spell k ≡ key_package.spell x)
unfolding IsOneOf
any_one k [] some = absurd (true≢false (sym some))
any_one k (x ∷ xs) some = by_test (bytes_eq (key_package.spell k) (key_package.spell x)) refl some (any_one k xs)
  where
    by_test : (b : Bool) → bytes_eq (key_package.spell k) (key_package.spell x) ≡ b → (b || is_among k xs) ≡ true → (is_among k xs ≡ true → (y : KeyPackage) × IsOneOf y xs × (key_package.spell k ≡ key_package.spell y)) →
        (y : KeyPackage) × IsOneOf y (x ∷ xs) × (key_package.spell k ≡ key_package.spell y)
    by_test true e any rest = (x, inl refl, (bytes_eq-Decides _ _).0 e)
    by_test false e any rest = let r = rest any in (r.0, inr r.1, r.2)

-- the entries, one after the other
record MadeFirst (c : Crypto) (context : List ℕ) (secrets rnd : ℕ → List ℕ) (n : ℕ) (x : KeyPackage) (j : ℕ) (joiners : List (KeyPackage × ℕ)) (entries : List EncryptedGroupSecrets) : Type 0 where
  first : EncryptedGroupSecrets
  is_first : entry_for c context x (secrets j) (rnd n) ≡ Ok first
  others : List EncryptedGroupSecrets
  are_others : entries_for c context secrets rnd (suc n) joiners ≡ Ok others
  all : first ∷ others ≡ entries

made_first : (c : Crypto) (context : List ℕ) (secrets rnd : ℕ → List ℕ) (n : ℕ) (x : KeyPackage) (j : ℕ) (joiners : List (KeyPackage × ℕ)) (entries : List EncryptedGroupSecrets) →
    entries_for c context secrets rnd n ((x, j) ∷ joiners) ≡ Ok entries → MadeFirst c context secrets rnd n x j joiners entries
unfolding entries_for
made_first c context secrets rnd n x j joiners entries h =
    let s = bind_ok _ _ _ h in
    let t = bind_ok _ _ _ s.2 in
    record { first = s.0; is_first = s.1; others = t.0; are_others = t.1; all = ok_is _ _ t.2 }

found_here : (k : KeyPackage) (e : EncryptedGroupSecrets) (es : List EncryptedGroupSecrets) (b : Bool) → is_for k e ≡ b → cond b (Some e) (find (is_for k) es) ≡ find (is_for k) (e ∷ es)
found_here k e es b h = rw h refl

-- whoever was added finds its own
pub first_entry : (c : Crypto) (context : List ℕ) (secrets rnd : ℕ → List ℕ) (n : ℕ) (xs : List KeyPackage) (js : List ℕ) (entries : List EncryptedGroupSecrets) (k : KeyPackage) → length js ≡ length xs →
    is_distinct same_bytes (map package_reference xs) ≡ true → is_among k xs ≡ true → entries_for c context secrets rnd n (zip xs js) ≡ Ok entries → HasEntry c context secrets (zip xs js) entries k
unfolding IsOneOf
first_entry c context secrets rnd n [] js entries k size apart some made = absurd (true≢false (sym some))
first_entry c context secrets rnd n (x ∷ xs) [] entries k size apart some made = absurd (omega (arith, size))
first_entry c context secrets rnd n (x ∷ xs) (j ∷ js) entries k size apart some made =
    let m = made_first c context secrets rnd n x j (zip xs js) entries made in
    let d = entry_did c context x (secrets j) (rnd n) m.first m.is_first in
    let named : package_reference x ≡ m.first.new_member = ap (λ (e : EncryptedGroupSecrets). e.new_member) d.is in
    subst (λ (es : List EncryptedGroupSecrets). HasEntry c context secrets ((x, j) ∷ zip xs js) es k) m.all
    (by_test m.first m.is_first named m.others (bytes_eq (key_package.spell k) (key_package.spell x)) refl some
    (λ rest. first_entry c context secrets rnd (suc n) xs js m.others k (omega (arith, size)) (distinct_rest package_reference x xs apart) rest m.are_others))
  where
    by_test : (first : EncryptedGroupSecrets) → entry_for c context x (secrets j) (rnd n) ≡ Ok first → package_reference x ≡ first.new_member → (others : List EncryptedGroupSecrets) →
        (b : Bool) → bytes_eq (key_package.spell k) (key_package.spell x) ≡ b → (b || is_among k xs) ≡ true → (is_among k xs ≡ true → HasEntry c context secrets (zip xs js) others k) →
        HasEntry c context secrets ((x, j) ∷ zip xs js) (first ∷ others) k
    by_test first is_first named others true e any rest =
        let same : key_package.spell k ≡ key_package.spell x = (bytes_eq-Decides _ _).0 e in
        let yes : is_for k first ≡ true = (bytes_eq-Decides _ _).1 (sym named ∙ ap key_package_reference (sym same)) in
        record { offered = x; leaf = j; seed = rnd n; entry = first; is_made = is_first; is_found = rw yes refl; spelled = same; joins = inl refl }
    by_test first is_first named others false e any rest =
        let r = rest any in
        let o = any_one k xs any in
        let no : is_for k first ≡ false = not_for (is_for k first) refl (λ same. no_other package_reference x xs o.0 apart o.1 (ap key_package_reference (sym o.2) ∙ sym same ∙ sym named)) in
        record { offered = r.offered; leaf = r.leaf; seed = r.seed; entry = r.entry; is_made = r.is_made; is_found = rw no r.is_found; spelled = r.spelled; joins = inr r.joins }
      where
        not_for : (b : Bool) → is_for k first ≡ b → (first.new_member ≡ package_reference k → ⊥) → b ≡ false
        not_for true h ne = absurd (ne ((bytes_eq-Decides _ _).0 h))
        not_for false h ne = refl

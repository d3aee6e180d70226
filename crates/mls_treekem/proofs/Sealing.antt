-- A path that code seals.
use Rattle.std.proofs.Common.{◌≡◌, ◌≢◌, ℕ, suc, ◌+◌, ◌%◌, ◌^◌, ◌<◌, ◌≤◌, ◌==◌, not, if◌then◌else◌, Bool, true, false, List, [], ◌∷◌, ◌++◌, length, map, reverse, get_or, drop, Option, Some, None, Result, Ok, Err, Bor, refl, sym, subst, ◌∙◌, ap, ap₂, arith, eq-eqb, ne_eqb, append-nil, append_assoc}
use Rattle.std.specs.Prelude.{codes}
use Rattle.std.specs.List.{slice_get}
use Rattle.std.specs.Option.{option_map, option_copied}
use Rattle.std.proofs.lemmas.List.{drop_more, drop_all, reverse-append}
use Rattle.mls_wire.specs.Checks.{require_some}
use Rattle.mls_types.specs.declared.update_path.HpkeCiphertext.{HpkeCiphertext}
use Rattle.mls_types.specs.declared.update_path.UpdatePathNode.{UpdatePathNode}
use Rattle.mls_suite.specs.Crypto.{Crypto}
use Rattle.mls_suite.specs.Labels.{encrypt_with_label}
use Rattle.mls_suite.specs.Sealings.{sealing_of}
use Rattle.mls_suite.specs.declared.Sealed.{Sealed}
use Rattle.mls_tree_model.specs.Sets.{has, leaf_numbers, less}
use Rattle.mls_tree_model.specs.Term.{Term}
use Rattle.mls_tree_model.specs.Places.{key_at, resolution_at}
use Rattle.mls_tree_model.specs.Resolution.{resolution, is_empty}
use Rattle.mls_tree_model.specs.Way.{Step, way, is_filtered, path_length}
use Rattle.mls_treekem.specs.declared.error.TreeKemError.{TreeKemError}
use Rattle.mls_treekem.specs.declared.error.TreeKemError.TheVariants as error
use Rattle.mls_treekem.specs.Faults.{number_of, IsMemoryOrKey}
use Rattle.mls_treekem.specs.Secrets.{AreOfChain, public_keys}
use Rattle.mls_treekem.specs.Sealing.{sealed_along}
use Rattle.mls_treekem_model.specs.Make.{one_if, filtered_count}
use Rattle.mls_treekem_model.specs.Seal.{targets, seal_count, ciphertext_of, seal_secret, seal_to, cons_both, seal_all, with_ciphertexts, path_past, sealed_path}
use Rattle.mls_treekem_model.specs.Seeds.{seal_seed, seal_count_of}
use Rattle.mls_treekem.specs.Place.{subtree_at, step_of, IsPlaced, ArePlaced, IsWay}
use Rattle.mls_treekem.specs.declared.places.Place.{Place}
use Rattle.mls_treekem.specs.declared.secrets.PathSecrets.{PathSecrets}
use Rattle.mls_treekem_model.proofs.SeedLaws.{seed_low}
use Rattle.mls_treekem_model.proofs.SecretLaws.{sealed_of_chain}
use Rattle.mls_treekem_model.specs.GivenSecrets.{node_with, seal_path_with, sealed_path_with}

-- ---- seals by the low bits of their number

module _ (c : Crypto) (context secret : List ℕ) (b : ℕ) (t : Term) (seed : List ℕ) where
  pub sealed_low : (i j : ℕ) (ds : List ℕ) → i % 2 ^ 32 ≡ j % 2 ^ 32 → seal_all c context secret b t (seal_seed seed) i ds ≡ seal_all c context secret b t (seal_seed seed) j ds
  unfolding seal_all
  sealed_low i j [] e = refl
  sealed_low i j (d ∷ ds) e =
      ap₂ cons_both (ap (seal_to c context secret (key_at b t d)) (seed_low seed i j e)) (sealed_low (suc i) (suc j) ds (omega arith))

  pub length-sealed : (i : ℕ) (ds : List ℕ) (xs : List HpkeCiphertext) → seal_all c context secret b t (seal_seed seed) i ds ≡ Some xs → length xs ≡ length ds
  unfolding seal_all
  length-sealed i [] [] e = refl
  length-sealed i [] (x ∷ xs) e = cc
  length-sealed i (d ∷ ds) xs e = by_parts (seal_to c context secret (key_at b t d) (seal_seed seed i)) (seal_all c context secret b t (seal_seed seed) (suc i) ds) xs e (length-sealed (suc i) ds)
    where
      by_parts : (o : Option HpkeCiphertext) (os : Option (List HpkeCiphertext)) (xs : List HpkeCiphertext) → cons_both o os ≡ Some xs → ((ys : List HpkeCiphertext) → os ≡ Some ys → length ys ≡ length ds) → length xs ≡ suc (length ds)
      by_parts (Some x) (Some ys) xs e rec = let whole : x ∷ ys ≡ xs = cc in ap length (sym whole) ∙ ap suc (rec ys refl)
      by_parts (Some x) None xs e rec = cc
      by_parts None os xs e rec = cc

-- ---- answers with the number of a missing key

pub given_some : {A : Type 0} (o : Option A) (x : A) → require_some 36 o ≡ Ok x → o ≡ Some x
given_some (Some y) x e = cc
given_some None x e = cc

pub given_none : {A : Type 0} (o : Option A) (n : ℕ) → require_some 36 o ≡ Err n → (o ≡ None) × (n ≡ 36)
given_none (Some y) n e = cc
given_none None n e = (refl, cc)

-- a refusal for want of a key is no other
pub of_keys : {A : Type 0} (o : Option A) (e : TreeKemError) → (number_of e ≢ 1 → require_some 36 o ≡ Err (number_of e)) → IsMemoryOrKey e
of_keys o error.OutOfMemory h = tt
of_keys o error.BadKey h = tt
of_keys o error.OpenFailed h = let n : 32 ≡ 36 = (given_none o 32 (h (λ x. absurd (omega (arith, x))))).1 in absurd (omega (arith, n))
of_keys o error.SecretLength h = let n : 33 ≡ 36 = (given_none o 33 (h (λ x. absurd (omega (arith, x))))).1 in absurd (omega (arith, n))
of_keys o error.PathKeyMismatch h = let n : 34 ≡ 36 = (given_none o 34 (h (λ x. absurd (omega (arith, x))))).1 in absurd (omega (arith, n))
of_keys o error.KeyMissing h = let n : 35 ≡ 36 = (given_none o 35 (h (λ x. absurd (omega (arith, x))))).1 in absurd (omega (arith, n))

pub none_given : {A B : Type 0} (o : Option A) (p : Option B) (n : ℕ) → require_some 36 o ≡ Err n → (o ≡ None → p ≡ None) → require_some 36 p ≡ Err n
none_given o p n e f = let g = given_none o n e in ap (require_some 36) (f g.0) ∙ ap Err (sym g.1)

-- ---- one seal

module _ (c : Crypto) (context secret rnd : List ℕ) (key : Option (Bor (List ℕ))) (pk : Bor (List ℕ)) (key_is : key ≡ Some pk) (s : Option Sealed) (made : sealing_of s ≡ encrypt_with_label c pk.now (codes "UpdatePathNode") context secret rnd) where
  seal_is : seal_to c context secret (option_copied key) rnd ≡ option_map ciphertext_of (sealing_of s)
  unfolding seal_secret
  seal_is = ap (λ k. seal_to c context secret (option_copied k) rnd) key_is ∙ ap (option_map ciphertext_of) (sym made)

  pub one_sealed : (x : Sealed) → s ≡ Some x → (k ct : List ℕ) → k ≡ x.kem.items → ct ≡ x.ct.items → require_some 36 (seal_to c context secret (option_copied key) rnd) ≡ Ok (record { kem_output = k; ciphertext = ct })
  one_sealed x is k ct e f =
      ap (require_some 36) (seal_is ∙ ap (λ o. option_map ciphertext_of (sealing_of o)) is)
      ∙ ap₂ (λ k ct. Ok (let y : HpkeCiphertext = record { kem_output = k; ciphertext = ct } in y)) (sym e) (sym f)

  pub one_unfit : s ≡ None → require_some 36 (seal_to c context secret (option_copied key) rnd) ≡ Err 36
  one_unfit is = ap (require_some 36) (seal_is ∙ ap (λ o. option_map ciphertext_of (sealing_of o)) is)

-- ---- what is left of a list to be sealed to

abbrev pub onto : List HpkeCiphertext → Option (List HpkeCiphertext) → Option (List HpkeCiphertext)
onto xs o = option_map (λ ys. xs ++ ys) o

more_onto : (xs : List HpkeCiphertext) (x : HpkeCiphertext) (o : Option (List HpkeCiphertext)) → onto xs (cons_both (Some x) o) ≡ onto (xs ++ (x ∷ [])) o
more_onto xs x None = refl
more_onto xs x (Some ys) = ap Some (sym (append_assoc xs (x ∷ []) ys))

-- what is left from place k on
abbrev pub left_from : List ℕ → List ℕ → ℕ → List ℕ
left_from us xs k = less (leaf_numbers us) (drop k xs)

module _ (us xs : List ℕ) (k : ℕ) (lt : k < length xs) where
  left_kept : has (leaf_numbers us) (get_or xs k 0) ≡ false → left_from us xs k ≡ get_or xs k 0 ∷ left_from us xs (k + 1)
  left_kept is = ap (less (leaf_numbers us)) (drop_more xs k 0 lt) ∙ rw is refl

-- the seals that are made and those that are left are all
abbrev pub SealsLeft : Crypto → List ℕ → List ℕ → ℕ → Term → List ℕ → List ℕ → List ℕ → ℕ → List HpkeCiphertext → ℕ → ℕ → Type 0
SealsLeft c context secret b t seed us xs first ys i k =
    seal_all c context secret b t (seal_seed seed) first (less (leaf_numbers us) xs) ≡ onto ys (seal_all c context secret b t (seal_seed seed) i (left_from us xs k))

module _ (c : Crypto) (context secret : List ℕ) (b : ℕ) (t : Term) (seed us xs : List ℕ) (first : ℕ) where
  module _ (k : ℕ) (ys : List HpkeCiphertext) (i : ℕ) (inv : SealsLeft c context secret b t seed us xs first ys i k) where
    first_left : k < length xs → has (leaf_numbers us) (get_or xs k 0) ≡ false → (o : Option HpkeCiphertext) → seal_to c context secret (key_at b t (get_or xs k 0)) (seal_seed seed i) ≡ o → seal_all c context secret b t (seal_seed seed) first (less (leaf_numbers us) xs) ≡ onto ys (cons_both o (seal_all c context secret b t (seal_seed seed) (suc i) (left_from us xs (k + 1))))
    unfolding seal_all
    first_left lt is o e =
        inv ∙ ap (λ ds. onto ys (seal_all c context secret b t (seal_seed seed) i ds)) (left_kept us xs k lt is)
        ∙ ap (λ x. onto ys (cons_both x (seal_all c context secret b t (seal_seed seed) (suc i) (left_from us xs (k + 1))))) e

    -- the seal that code makes, of the next node that isn't left out
    module _ (lt : k < length xs) (found : Bool) (found_is : found ≡ has (leaf_numbers us) (get_or xs k 0)) (stays : found ≡ false) (key : Option (List ℕ)) (key_is : key ≡ key_at b t (get_or xs k 0)) (r : List ℕ) (r_is : r ≡ seal_seed seed i) where
      same : seal_to c context secret (key_at b t (get_or xs k 0)) (seal_seed seed i) ≡ seal_to c context secret key r
      same = ap₂ (seal_to c context secret) (sym key_is) (sym r_is)

      pub seals_more : (x : HpkeCiphertext) → require_some 36 (seal_to c context secret key r) ≡ Ok x → (zs : List HpkeCiphertext) → zs ≡ ys ++ (x ∷ []) → (j : ℕ) → j ≡ (i + 1) % 2 ^ 32 → SealsLeft c context secret b t seed us xs first zs j (k + 1)
      seals_more x e zs pushed j next =
          first_left lt (sym found_is ∙ stays) (Some x) (same ∙ given_some (seal_to c context secret key r) x e)
          ∙ more_onto ys x (seal_all c context secret b t (seal_seed seed) (suc i) (left_from us xs (k + 1)))
          ∙ ap₂ onto (sym pushed) (sealed_low c context secret b t seed (suc i) j (left_from us xs (k + 1)) (omega (arith, next)))

      pub seals_fail : (n : ℕ) → require_some 36 (seal_to c context secret key r) ≡ Err n → require_some 36 (seal_all c context secret b t (seal_seed seed) first (less (leaf_numbers us) xs)) ≡ Err n
      seals_fail n e =
          none_given (seal_to c context secret key r) (seal_all c context secret b t (seal_seed seed) first (less (leaf_numbers us) xs)) n e
          (λ none. first_left lt (sym found_is ∙ stays) None (same ∙ none))

    pub seals_end : length xs ≤ k → seal_all c context secret b t (seal_seed seed) first (less (leaf_numbers us) xs) ≡ Some ys
    unfolding seal_all
    seals_end ge =
        inv ∙ ap (λ ds. onto ys (seal_all c context secret b t (seal_seed seed) i (less (leaf_numbers us) ds))) (drop_all k xs ge)
        ∙ ap Some (append-nil ys)

-- ---- how many seals there are

seals_pushed : (ns : List UpdatePathNode) (x : UpdatePathNode) → seal_count_of (ns ++ (x ∷ [])) ≡ seal_count_of ns + length x.ciphertexts
unfolding seal_count_of
seals_pushed [] x = omega arith
seals_pushed (n ∷ ns) x = let e = seals_pushed ns x in omega arith

module _ (xs : List UpdatePathNode) (k : ℕ) where
  pub count_next : (x : UpdatePathNode) → k < length xs → x ≡ get_or xs k x → (n m : ℕ) → m ≡ length x.ciphertexts % 2 ^ 32 → (n + seal_count_of (drop k xs)) % 2 ^ 32 ≡ seal_count_of xs % 2 ^ 32 → ((n + m) % 2 ^ 32 + seal_count_of (drop (k + 1) xs)) % 2 ^ 32 ≡ seal_count_of xs % 2 ^ 32
  unfolding seal_count_of
  count_next x lt is n m m_is inv =
      let next : seal_count_of (drop k xs) ≡ length x.ciphertexts + seal_count_of (drop (k + 1) xs) =
      ap seal_count_of (drop_more xs k x lt) ∙ ap (λ (y : UpdatePathNode). length y.ciphertexts + seal_count_of (drop (k + 1) xs)) (sym is) in
      omega arith

  pub count_end : length xs ≤ k → (n : ℕ) → n < 2 ^ 32 → (n + seal_count_of (drop k xs)) % 2 ^ 32 ≡ seal_count_of xs % 2 ^ 32 → n ≡ seal_count_of xs % 2 ^ 32
  unfolding seal_count_of
  count_end ge n fits inv =
      let none : seal_count_of (drop k xs) ≡ 0 = ap seal_count_of (drop_all k xs ge) in
      omega arith

-- ---- the nodes along a way

-- the node of a parent that the filtered direct path takes in
abbrev pub node_for : Crypto → List ℕ → List ℕ → List ℕ → Step → List Step → List (List ℕ) → List (List ℕ) → Option UpdatePathNode
node_for c context added seed s ss secrets keys =
    node_with c context s.first s.other (seal_seed seed) (seal_count added ss) (targets added s) (slice_get secrets (filtered_count ss)) (slice_get keys (filtered_count ss))

-- seals are the same by the low bits of their number
node_low : (c : Crypto) (context : List ℕ) (b : ℕ) (t : Term) (seed : List ℕ) (i j : ℕ) (ds : List ℕ) (o k : Option (List ℕ)) → i % 2 ^ 32 ≡ j % 2 ^ 32 → node_with c context b t (seal_seed seed) i ds o k ≡ node_with c context b t (seal_seed seed) j ds o k
node_low c context b t seed i j ds (Some secret) (Some k) e = ap (with_ciphertexts k) (sealed_low c context secret b t seed i j ds e)
node_low c context b t seed i j ds (Some secret) None e = refl
node_low c context b t seed i j ds None k e = refl

past_none : (b : Bool) (o : Option UpdatePathNode) → path_past b o None ≡ None
past_none true (Some x) = refl
past_none true None = refl
past_none false o = refl

reversed_none : (o : Option (List UpdatePathNode)) → option_map reverse o ≡ None → o ≡ None
reversed_none (Some xs) e = cc
reversed_none None e = refl

pushed : (o : Option UpdatePathNode) (os : Option (List UpdatePathNode)) (x : UpdatePathNode) (ns : List UpdatePathNode) → o ≡ Some x → option_map reverse os ≡ Some ns → option_map reverse (cons_both o os) ≡ Some (ns ++ (x ∷ []))
pushed (Some y) (Some ys) x ns e f =
    let same : y ≡ x = cc in
    let rest : reverse ys ≡ ns = cc in
    ap Some (reverse-append (y ∷ []) ys ∙ ap₂ (λ zs z. zs ++ (z ∷ [])) rest same)
pushed (Some y) None x ns e f = cc
pushed None os x ns e f = cc

module _ (c : Crypto) (context added seed : List ℕ) (s : Step) (ss : List Step) (secrets keys : List (List ℕ)) where
  step_is : (b : Bool) → is_filtered s ≡ b → seal_path_with c context added (seal_seed seed) secrets keys (s ∷ ss) ≡ path_past b (node_for c context added seed s ss secrets keys) (seal_path_with c context added (seal_seed seed) secrets keys ss)
  unfolding seal_path_with
  step_is b e = ap (λ z. path_past z (node_for c context added seed s ss secrets keys) (seal_path_with c context added (seal_seed seed) secrets keys ss)) e

  pub along_out : is_filtered s ≡ false → (ns : List UpdatePathNode) → sealed_along c context added seed secrets keys ss ≡ Ok ns → sealed_along c context added seed secrets keys (s ∷ ss) ≡ Ok ns
  along_out e ns h = ap (λ o. require_some 36 (option_map reverse o)) (step_is false e) ∙ h

  pub along_in : is_filtered s ≡ true → (x : UpdatePathNode) (ns zs : List UpdatePathNode) → require_some 36 (node_for c context added seed s ss secrets keys) ≡ Ok x → sealed_along c context added seed secrets keys ss ≡ Ok ns → zs ≡ ns ++ (x ∷ []) → sealed_along c context added seed secrets keys (s ∷ ss) ≡ Ok zs
  along_in e x ns zs here below more =
      ap (require_some 36)
      (ap (option_map reverse) (step_is true e)
      ∙ pushed (node_for c context added seed s ss secrets keys) (seal_path_with c context added (seal_seed seed) secrets keys ss) x ns (given_some _ x here) (given_some _ ns below))
      ∙ ap Ok (sym more)

  pub refused_below : (n : ℕ) → sealed_along c context added seed secrets keys ss ≡ Err n → sealed_along c context added seed secrets keys (s ∷ ss) ≡ Err n
  refused_below n h =
      none_given (option_map reverse (seal_path_with c context added (seal_seed seed) secrets keys ss)) (option_map reverse (seal_path_with c context added (seal_seed seed) secrets keys (s ∷ ss))) n h
      (λ none.
      ap (option_map reverse)
      (step_is (is_filtered s) refl
      ∙ ap (path_past (is_filtered s) (node_for c context added seed s ss secrets keys)) (reversed_none _ none)
      ∙ past_none (is_filtered s) (node_for c context added seed s ss secrets keys)))

  pub refused_here : is_filtered s ≡ true → (n : ℕ) → require_some 36 (node_for c context added seed s ss secrets keys) ≡ Err n → sealed_along c context added seed secrets keys (s ∷ ss) ≡ Err n
  refused_here e n h =
      none_given (node_for c context added seed s ss secrets keys) (option_map reverse (seal_path_with c context added (seal_seed seed) secrets keys (s ∷ ss))) n h
      (λ none. ap (option_map reverse) (step_is true e ∙ ap (λ o. cons_both o (seal_path_with c context added (seal_seed seed) secrets keys ss)) none))

  -- the node that code makes
  pub node_same : (k i : ℕ) (reached : List ℕ) → k ≡ filtered_count ss → i ≡ seal_count added ss % 2 ^ 32 → reached ≡ resolution s.first s.other → node_with c context s.first s.other (seal_seed seed) i (less (leaf_numbers added) reached) (slice_get secrets k) (slice_get keys k) ≡ node_for c context added seed s ss secrets keys
  unfolding targets
  node_same k i reached e f g =
      ap₂ (λ k xs. node_with c context s.first s.other (seal_seed seed) i (less (leaf_numbers added) xs) (slice_get secrets k) (slice_get keys k)) e g
      ∙ node_low c context s.first s.other seed i (seal_count added ss) (less (leaf_numbers added) (resolution s.first s.other)) (slice_get secrets (filtered_count ss)) (slice_get keys (filtered_count ss)) (omega (arith, f))

module _ (added : List ℕ) (s : Step) (ss : List Step) where
  count_out : is_filtered s ≡ false → filtered_count (s ∷ ss) ≡ filtered_count ss
  unfolding filtered_count
  count_out e = ap (λ b. one_if b (filtered_count ss)) e

  count_in : is_filtered s ≡ true → filtered_count (s ∷ ss) ≡ suc (filtered_count ss)
  unfolding filtered_count
  count_in e = ap (λ b. one_if b (filtered_count ss)) e

  numbers_out : is_filtered s ≡ false → seal_count added (s ∷ ss) ≡ seal_count added ss
  unfolding seal_count
  numbers_out e = ap (λ b. (if b then length (targets added s) else 0) + seal_count added ss) e ∙ (let z : 0 + seal_count added ss ≡ seal_count added ss = omega arith in z)

  numbers_in : is_filtered s ≡ true → seal_count added (s ∷ ss) ≡ length (targets added s) + seal_count added ss
  unfolding seal_count
  numbers_in e = ap (λ b. (if b then length (targets added s) else 0) + seal_count added ss) e

-- ---- the places of a way

module _ (t : Term) (all : List Place) (none : all ≡ []) where
  pub along_none : (c : Crypto) (context added seed : List ℕ) (secrets keys : List (List ℕ)) (ns : List UpdatePathNode) → ns ≡ [] → sealed_along c context added seed secrets keys (map (step_of t) all) ≡ Ok ns
  unfolding seal_path_with
  along_none c context added seed secrets keys ns e = ap (λ ps. sealed_along c context added seed secrets keys (map (step_of t) ps)) none ∙ ap Ok (sym e)

  pub count_none : (ns : List UpdatePathNode) → ns ≡ [] → length ns ≡ filtered_count (map (step_of t) all)
  unfolding filtered_count
  count_none ns e = ap length e ∙ sym (ap (λ ps. filtered_count (map (step_of t) ps)) none)

  pub numbers_none : (added : List ℕ) (ns : List UpdatePathNode) → ns ≡ [] → seal_count_of ns ≡ seal_count added (map (step_of t) all)
  unfolding seal_count seal_count_of
  numbers_none added ns e = ap seal_count_of e ∙ sym (ap (λ ps. seal_count added (map (step_of t) ps)) none)

filtered_by : (xs : List ℕ) (b : Bool) → b ≡ (length xs == 0) → not (is_empty xs) ≡ not b
filtered_by [] b e = ap not (sym (e ∙ eq-eqb 0 0 refl))
filtered_by (x ∷ xs) b e = ap not (sym (e ∙ ne_eqb (suc (length xs)) 0 (λ z. absurd (omega arith))))

module _ (t : Term) (p : Place) (ps all : List Place) (whole : all ≡ p ∷ ps) where
  pub placed_here : ArePlaced t all → (h : ℕ) × IsPlaced t h p
  unfolding ArePlaced
  placed_here at = let both : ArePlaced t (p ∷ ps) = subst (ArePlaced t) whole at in (length ps, both.0)

  pub placed_below : ArePlaced t all → ArePlaced t ps
  unfolding ArePlaced
  placed_below at = let both : ArePlaced t (p ∷ ps) = subst (ArePlaced t) whole at in both.1

  module _ (at : ArePlaced t all) (reached : List ℕ) (reached_is : reached ≡ resolution_at 0 t p.beside) where
    resolved : reached ≡ resolution (step_of t p).first (step_of t p).other
    unfolding step_of
    resolved = let here : (h : ℕ) × IsPlaced t h p = placed_here at in let one : IsPlaced t here.0 p = here.1 in reached_is ∙ one.resolved

    filtered_is : (b : Bool) → b ≡ (length reached == 0) → is_filtered (step_of t p) ≡ not b
    filtered_is b e = ap (λ xs. not (is_empty xs)) (sym resolved) ∙ filtered_by reached b e

    -- where the filtered direct path doesn't take the place in
    module _ (b : Bool) (b_is : b ≡ (length reached == 0)) (out : b ≡ true) where
      left_out : is_filtered (step_of t p) ≡ false
      left_out = filtered_is b b_is ∙ ap not out

      pub along_same : (c : Crypto) (context added seed : List ℕ) (secrets keys : List (List ℕ)) (ns : List UpdatePathNode) → sealed_along c context added seed secrets keys (map (step_of t) ps) ≡ Ok ns → sealed_along c context added seed secrets keys (map (step_of t) all) ≡ Ok ns
      along_same c context added seed secrets keys ns h =
          ap (λ qs. sealed_along c context added seed secrets keys (map (step_of t) qs)) whole ∙ along_out c context added seed (step_of t p) (map (step_of t) ps) secrets keys left_out ns h

      pub count_same : (n : ℕ) → n ≡ filtered_count (map (step_of t) ps) → n ≡ filtered_count (map (step_of t) all)
      count_same n h = h ∙ sym (ap (λ qs. filtered_count (map (step_of t) qs)) whole ∙ count_out [] (step_of t p) (map (step_of t) ps) left_out)

      pub numbers_same : (added : List ℕ) (n : ℕ) → n ≡ seal_count added (map (step_of t) ps) → n ≡ seal_count added (map (step_of t) all)
      numbers_same added n h = h ∙ sym (ap (λ qs. seal_count added (map (step_of t) qs)) whole ∙ numbers_out added (step_of t p) (map (step_of t) ps) left_out)

    -- where it does
    module _ (b : Bool) (b_is : b ≡ (length reached == 0)) (in_path : b ≡ false) where
      taken_in : is_filtered (step_of t p) ≡ true
      taken_in = filtered_is b b_is ∙ ap not in_path

      pub count_one : (n : ℕ) → n ≡ filtered_count (map (step_of t) ps) → suc n ≡ filtered_count (map (step_of t) all)
      count_one n h = ap suc h ∙ sym (ap (λ qs. filtered_count (map (step_of t) qs)) whole ∙ count_in [] (step_of t p) (map (step_of t) ps) taken_in)

      pub numbers_more : (added : List ℕ) (x : UpdatePathNode) (ns zs : List UpdatePathNode) → seal_count_of ns ≡ seal_count added (map (step_of t) ps) → length x.ciphertexts ≡ length (less (leaf_numbers added) reached) → zs ≡ ns ++ (x ∷ []) → seal_count_of zs ≡ seal_count added (map (step_of t) all)
      unfolding targets
      numbers_more added x ns zs below here pushed =
          let all_is : seal_count added (map (step_of t) all) ≡ length (targets added (step_of t p)) + seal_count added (map (step_of t) ps) =
          ap (λ qs. seal_count added (map (step_of t) qs)) whole ∙ numbers_in added (step_of t p) (map (step_of t) ps) taken_in in
          let more : length x.ciphertexts ≡ length (targets added (step_of t p)) = here ∙ ap (λ xs. length (less (leaf_numbers added) xs)) resolved in
          let sum : seal_count_of zs ≡ seal_count_of ns + length x.ciphertexts = ap seal_count_of pushed ∙ seals_pushed ns x in
          omega arith

      module _ (c : Crypto) (context added seed : List ℕ) (secrets keys : List (List ℕ)) (k i : ℕ) (k_is : k ≡ filtered_count (map (step_of t) ps)) (i_is : i ≡ seal_count added (map (step_of t) ps) % 2 ^ 32) (xs : List ℕ) (xs_is : xs ≡ reached) where
        here : Option UpdatePathNode
        here = node_with c context p.first (subtree_at t p.beside) (seal_seed seed) i (less (leaf_numbers added) xs) (slice_get secrets k) (slice_get keys k)

        here_is : here ≡ node_for c context added seed (step_of t p) (map (step_of t) ps) secrets keys
        unfolding here step_of
        here_is = node_same c context added seed (step_of t p) (map (step_of t) ps) secrets keys k i xs k_is i_is (xs_is ∙ resolved)

        pub along_more : (x : UpdatePathNode) (ns zs : List UpdatePathNode) → require_some 36 (node_with c context p.first (subtree_at t p.beside) (seal_seed seed) i (less (leaf_numbers added) xs) (slice_get secrets k) (slice_get keys k)) ≡ Ok x → sealed_along c context added seed secrets keys (map (step_of t) ps) ≡ Ok ns → zs ≡ ns ++ (x ∷ []) → sealed_along c context added seed secrets keys (map (step_of t) all) ≡ Ok zs
        unfolding here
        along_more x ns zs made below pushed =
            ap (λ qs. sealed_along c context added seed secrets keys (map (step_of t) qs)) whole
            ∙ along_in c context added seed (step_of t p) (map (step_of t) ps) secrets keys taken_in x ns zs (ap (require_some 36) (sym here_is) ∙ made) below pushed

        pub along_fails : (n : ℕ) → require_some 36 (node_with c context p.first (subtree_at t p.beside) (seal_seed seed) i (less (leaf_numbers added) xs) (slice_get secrets k) (slice_get keys k)) ≡ Err n → sealed_along c context added seed secrets keys (map (step_of t) all) ≡ Err n
        unfolding here
        along_fails n fails =
            ap (λ qs. sealed_along c context added seed secrets keys (map (step_of t) qs)) whole
            ∙ refused_here c context added seed (step_of t p) (map (step_of t) ps) secrets keys taken_in n (ap (require_some 36) (sym here_is) ∙ fails)

  pub below_fails : (c : Crypto) (context added seed : List ℕ) (secrets keys : List (List ℕ)) (n : ℕ) → sealed_along c context added seed secrets keys (map (step_of t) ps) ≡ Err n → sealed_along c context added seed secrets keys (map (step_of t) all) ≡ Err n
  below_fails c context added seed secrets keys n fails =
      ap (λ qs. sealed_along c context added seed secrets keys (map (step_of t) qs)) whole ∙ refused_below c context added seed (step_of t p) (map (step_of t) ps) secrets keys n fails

-- ---- the whole way

module _ (t : Term) (i : ℕ) (ps qs : List Place) (w : IsWay t i ps) (same : qs ≡ ps) where
  steps_are : map (step_of t) qs ≡ way 0 t i
  steps_are = ap (map (step_of t)) same ∙ w.steps

  pub whole_path : (c : Crypto) (context added seed : List ℕ) (secrets keys : List (List ℕ)) (r : Result (List UpdatePathNode) ℕ) → sealed_along c context added seed secrets keys (map (step_of t) qs) ≡ r → sealed_path_with c context added (seal_seed seed) secrets keys t i ≡ r
  unfolding sealed_path_with
  whole_path c context added seed secrets keys r h = ap (sealed_along c context added seed secrets keys) (sym steps_are) ∙ h

  pub whole_seals : (added : List ℕ) (n : ℕ) → n ≡ seal_count added (map (step_of t) qs) → n ≡ seal_count added (way 0 t i)
  whole_seals added n h = h ∙ ap (seal_count added) steps_are

-- ---- a path whose secrets are a chain's

pub chain_path : (c : Crypto) (context added seed : List ℕ) (t : Term) (i : ℕ) (start : List ℕ) (path : PathSecrets) → AreOfChain c start (path_length 0 t i) path →
    sealed_path c context added (seal_seed seed) t i start ≡ sealed_path_with c context added (seal_seed seed) path.secrets.items (public_keys path) t i
chain_path c context added seed t i start path made =
    sym (sealed_of_chain c context added (seal_seed seed) t i start (path_length 0 t i) (omega arith))
    ∙ sym (ap₂ (λ xs ks. sealed_path_with c context added (seal_seed seed) xs ks t i) made.secrets made.pairs.public)

-- The path that is made is the committer's, and what is sealed is opened.
use Rattle.std.proofs.Common.{◌≡◌, ℕ, suc, Bool, true, false, not, ◌&&◌, ◌||◌, List, [], ◌∷◌, Option, Some, None, is_some, refl, ap, sym, ◌∙◌, subst}
use Rattle.std.specs.Prelude.{codes}
use Rattle.std.specs.Option.{option_map}
use Rattle.mls_types.specs.declared.update_path.HpkeCiphertext.{HpkeCiphertext}
use Rattle.mls_types.specs.declared.update_path.UpdatePathNode.{UpdatePathNode}
use Rattle.mls_suite.specs.Crypto.{Crypto, Lawful, Sealing}
use Rattle.mls_suite.specs.Labels.{encrypt_with_label, decrypt_with_label}
use Rattle.mls_suite.proofs.LabelLaws.{opens_sealed, seals_where_fit}
use Rattle.mls_tree_model.specs.Term.{Term}
use Rattle.mls_tree_model.specs.Places.{key_at}
use Rattle.mls_tree_model.specs.Way.{is_filtered}
use Rattle.mls_treekem_model.specs.Chain.{node_public}
use Rattle.mls_treekem_model.specs.Keys.{rest}
use Rattle.mls_treekem_model.specs.Make.{secret_above}
use Rattle.mls_treekem_model.specs.Seal.{Choose, targets, seal_count, ciphertext_of, seal_secret, IsSealedTo, IsSealedToAll, IsNodeFor, IsPathOf, seal_to, cons_both, seal_all, with_ciphertexts, path_past, seal_along}
use Rattle.mls_treekem_model.specs.Open.{unseal_secret}
use Rattle.mls_treekem_model.specs.Laws.{MadePath, PathMade, has_fit_key, all_fit, targets_fit}

-- what is sealed to a public key is opened by its private key
pub unsealed : (c : Crypto) (l : Lawful c) (context secret k rnd : List ℕ) (x : HpkeCiphertext) → seal_secret c context secret (c.public k) rnd ≡ Some x → unseal_secret c context k x ≡ Some secret
unfolding seal_secret unseal_secret
unsealed c l context secret k rnd x e = by_sealing (encrypt_with_label c (c.public k) (codes "UpdatePathNode") context secret rnd) refl e
  where
    by_sealing : (o : Option Sealing) → encrypt_with_label c (c.public k) (codes "UpdatePathNode") context secret rnd ≡ o → option_map ciphertext_of o ≡ Some x →
        decrypt_with_label c k (codes "UpdatePathNode") context x.kem_output x.ciphertext ≡ Some secret
    by_sealing (Some s) q e =
        let same : ciphertext_of s ≡ x = cc in
        subst (λ (z : HpkeCiphertext). decrypt_with_label c k (codes "UpdatePathNode") context z.kem_output z.ciphertext ≡ Some secret) same (opens_sealed c l k (codes "UpdatePathNode") context secret rnd s q)
    by_sealing None q e = cc

pub cons_is : {A : Type 0} (o : Option A) (os : Option (List A)) (zs : List A) → cons_both o os ≡ Some zs → (x : A) × (xs : List A) × (o ≡ Some x) × (os ≡ Some xs) × (zs ≡ x ∷ xs)
cons_is (Some x) (Some xs) zs h = (x, xs, refl, refl, cc)
cons_is (Some x) None zs h = cc
cons_is None os zs h = cc

sealed_to : (c : Crypto) (context secret : List ℕ) (key : Option (List ℕ)) (rnd : List ℕ) (x : HpkeCiphertext) → seal_to c context secret key rnd ≡ Some x → IsSealedTo c context secret key x
sealed_to c context secret (Some pk) rnd x h = record { pk = pk; rnd = rnd; key_is = refl; seals = h }
sealed_to c context secret None rnd x h = cc

pub sealed_all : (c : Crypto) (context secret : List ℕ) (b : ℕ) (t : Term) (rnd : ℕ → List ℕ) (i : ℕ) (ds : List ℕ) (xs : List HpkeCiphertext) → seal_all c context secret b t rnd i ds ≡ Some xs → IsSealedToAll c context secret b t ds xs
unfolding seal_all IsSealedToAll
sealed_all c context secret b t rnd i [] [] h = tt
sealed_all c context secret b t rnd i [] (x ∷ xs) h = cc
sealed_all c context secret b t rnd i (d ∷ ds) xs h =
    let e = cons_is (seal_to c context secret (key_at b t d) (rnd i)) (seal_all c context secret b t rnd (suc i) ds) xs h in
    subst (λ (zs : List HpkeCiphertext). IsSealedToAll c context secret b t (d ∷ ds) zs) (sym e.4)
    (sealed_to c context secret (key_at b t d) (rnd i) e.0 e.2, sealed_all c context secret b t rnd (suc i) ds e.1 e.3)

pub with_is : (k : List ℕ) (o : Option (List HpkeCiphertext)) (n : UpdatePathNode) → with_ciphertexts k o ≡ Some n → (xs : List HpkeCiphertext) × (o ≡ Some xs) × (n ≡ record { encryption_key = k; ciphertexts = xs })
with_is k (Some xs) n h = let made : UpdatePathNode = record { encryption_key = k; ciphertexts = xs } in let e : made ≡ n = cc in (xs, refl, sym e)
with_is k None n h = cc

pub made_path : MadePath
unfolding seal_along IsPathOf
made_path c context added rnd [] start ns h = cc
made_path c context added rnd (s ∷ ss) start ns h = by_test (is_filtered s) h (made_path c context added rnd ss start)
  where
    secret : List ℕ
    secret = secret_above ss start

    seals : Option (List HpkeCiphertext)
    seals = seal_all c context secret s.first s.other rnd (seal_count added ss) (targets added s)

    node : Option UpdatePathNode
    node = with_ciphertexts (node_public c secret) seals

    by_test : (t : Bool) → path_past t node (seal_along c context added rnd ss start) ≡ Some ns →
        ((ns : List UpdatePathNode) → seal_along c context added rnd ss start ≡ Some ns → IsPathOf c context added ss start ns) →
        Choose t (IsNodeFor c context added s secret ns × IsPathOf c context added ss start (rest ns)) (IsPathOf c context added ss start ns)
    by_test true h rec =
        let e = cons_is node (seal_along c context added rnd ss start) ns h in
        let w = with_is (node_public c secret) seals e.0 e.2 in
        let sealed = sealed_all c context secret s.first s.other rnd (seal_count added ss) (targets added s) w.0 w.1 in
        let made : UpdatePathNode = record { encryption_key = node_public c secret; ciphertexts = w.0 } in
        let whole : ns ≡ made ∷ e.1 = e.4 ∙ ap (λ n. n ∷ e.1) w.2 in
        subst (λ (zs : List UpdatePathNode). IsNodeFor c context added s secret zs × IsPathOf c context added ss start (rest zs)) (sym whole) ((refl, sealed), rec e.1 e.3)
    by_test false h rec = rec ns h

-- ---- a path is made exactly where each key that is sealed to is fit

cons_some : {A : Type 0} (o : Option A) (os : Option (List A)) → is_some (cons_both o os) ≡ (is_some o && is_some os)
cons_some (Some x) (Some xs) = refl
cons_some (Some x) None = refl
cons_some None os = refl

map_some : {A B : Type 0} (f : A → B) (o : Option A) → is_some (option_map f o) ≡ is_some o
map_some f (Some x) = refl
map_some f None = refl

seal_some : (c : Crypto) (l : Lawful c) (context secret : List ℕ) (key : Option (List ℕ)) (rnd : List ℕ) → is_some (seal_to c context secret key rnd) ≡ has_fit_key c key
unfolding seal_secret
seal_some c l context secret (Some pk) rnd =
    map_some ciphertext_of (encrypt_with_label c pk (codes "UpdatePathNode") context secret rnd)
    ∙ (seals_where_fit c l).exactly pk (codes "UpdatePathNode") context secret rnd
seal_some c l context secret None rnd = refl

seals_some : (c : Crypto) (l : Lawful c) (context secret : List ℕ) (b : ℕ) (t : Term) (rnd : ℕ → List ℕ) (i : ℕ) (ds : List ℕ) → is_some (seal_all c context secret b t rnd i ds) ≡ all_fit c b t ds
unfolding seal_all all_fit
seals_some c l context secret b t rnd i [] = refl
seals_some c l context secret b t rnd i (d ∷ ds) =
    cons_some (seal_to c context secret (key_at b t d) (rnd i)) (seal_all c context secret b t rnd (suc i) ds)
    ∙ ap (λ z. z && is_some (seal_all c context secret b t rnd (suc i) ds)) (seal_some c l context secret (key_at b t d) (rnd i))
    ∙ ap (λ z. has_fit_key c (key_at b t d) && z) (seals_some c l context secret b t rnd (suc i) ds)

with_some : (k : List ℕ) (o : Option (List HpkeCiphertext)) → is_some (with_ciphertexts k o) ≡ is_some o
with_some k (Some xs) = refl
with_some k None = refl

pub path_some : PathMade
unfolding seal_along targets_fit
path_some c l context added rnd [] start = refl
path_some c l context added rnd (s ∷ ss) start = by_test (is_filtered s) (path_some c l context added rnd ss start)
  where
    secret : List ℕ
    secret = secret_above ss start

    seals : Option (List HpkeCiphertext)
    seals = seal_all c context secret s.first s.other rnd (seal_count added ss) (targets added s)

    node : Option UpdatePathNode
    node = with_ciphertexts (node_public c secret) seals

    by_test : (t : Bool) → is_some (seal_along c context added rnd ss start) ≡ targets_fit c added ss →
        is_some (path_past t node (seal_along c context added rnd ss start)) ≡ ((not t || all_fit c s.first s.other (targets added s)) && targets_fit c added ss)
    by_test true rec =
        cons_some node (seal_along c context added rnd ss start)
        ∙ ap (λ z. z && is_some (seal_along c context added rnd ss start))
        (with_some (node_public c secret) seals ∙ seals_some c l context secret s.first s.other rnd (seal_count added ss) (targets added s))
        ∙ ap (λ z. all_fit c s.first s.other (targets added s) && z) rec
    by_test false rec = rec

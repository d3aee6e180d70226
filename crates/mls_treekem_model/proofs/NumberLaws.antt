-- The seals of a path by their numbers: one for each place among its ciphertexts.
use Rattle.std.proofs.Common.{◌≡◌, ℕ, zero, suc, ◌+◌, ◌⊎◌, Bool, true, false, if◌then◌else◌, List, [], ◌∷◌, ◌++◌, length, reverse, Option, Some, None, refl, ap, sym, ◌∙◌, subst, inl, inr, arith, slice_get}
use Rattle.std.proofs.lemmas.Grind.{flat_map-append}
use Rattle.std.proofs.lemmas.List.{length-append}
use Rattle.mls_types.specs.declared.update_path.HpkeCiphertext.{HpkeCiphertext}
use Rattle.mls_types.specs.declared.update_path.UpdatePathNode.{UpdatePathNode}
use Rattle.mls_suite.specs.Crypto.{Crypto}
use Rattle.mls_tree_model.specs.Term.{Term}
use Rattle.mls_tree_model.specs.Places.{key_at}
use Rattle.mls_tree_model.specs.Way.{Step, way, is_filtered}
use Rattle.mls_tree_model.proofs.PathLaws.{reverse-cons}
use Rattle.mls_treekem_model.specs.Chain.{node_public}
use Rattle.mls_treekem_model.specs.Make.{secret_above}
use Rattle.mls_treekem_model.specs.Seal.{targets, seal_count, seal_to, seal_all, with_ciphertexts, path_past, seal_along}
use Rattle.mls_treekem_model.proofs.SealLaws.{cons_is, with_is, sealed_all}
use Rattle.mls_treekem_model.specs.Seeds.{seal_count_of}
use Rattle.mls_treekem_model.specs.Whole.{ciphertexts_of, IsSealedUnder, SealedByNumber, SealsAreCounted}
use Rattle.mls_treekem_model.proofs.WholeLaws.{all_sealed, sealed_is}

get_past : {A : Type 0} (xs ys : List A) (k : ℕ) (x : A) → slice_get (xs ++ ys) k ≡ Some x → (slice_get xs k ≡ Some x) ⊎ ((j : ℕ) × (k ≡ length xs + j) × (slice_get ys j ≡ Some x))
get_past [] ys k x h = let e : k ≡ 0 + k = omega arith in inr (k, e, h)
get_past (y ∷ xs) ys zero x h = inl h
get_past (y ∷ xs) ys (suc k) x h = elim (get_past xs ys k x h) [
  | inl e ↦ inl e
  | inr e ↦
      let n : suc k ≡ suc (length xs) + e.0 = omega (arith, e.1) in
      inr (e.0, n, e.2)
]

nil_right : {A : Type 0} (xs : List A) → xs ++ [] ≡ xs
nil_right [] = refl
nil_right (x ∷ xs) = ap (λ zs. x ∷ zs) (nil_right xs)

-- ---- of one node

under : (c : Crypto) (context secret : List ℕ) (key : Option (List ℕ)) (rnd : ℕ → List ℕ) (i : ℕ) (x : HpkeCiphertext) → seal_to c context secret key (rnd i) ≡ Some x → IsSealedUnder c context rnd i x
under c context secret (Some pk) rnd i x h = record { secret = secret; key = pk; seals = h }
under c context secret None rnd i x h = absurd cc

numbered_all : (c : Crypto) (context secret : List ℕ) (b : ℕ) (t : Term) (rnd : ℕ → List ℕ) (i : ℕ) (ds : List ℕ) (xs : List HpkeCiphertext) → seal_all c context secret b t rnd i ds ≡ Some xs →
    (k : ℕ) (x : HpkeCiphertext) → slice_get xs k ≡ Some x → IsSealedUnder c context rnd (i + k) x
unfolding seal_all
numbered_all c context secret b t rnd i [] [] h k x g = absurd cc
numbered_all c context secret b t rnd i [] (y ∷ xs) h k x g = absurd cc
numbered_all c context secret b t rnd i (d ∷ ds) xs h zero x g =
    let e = cons_is (seal_to c context secret (key_at b t d) (rnd i)) (seal_all c context secret b t rnd (suc i) ds) xs h in
    let f : slice_get (e.0 ∷ e.1) 0 ≡ Some x = subst (λ (zs : List HpkeCiphertext). slice_get zs 0 ≡ Some x) e.4 g in
    let same : e.0 ≡ x = cc in
    let n : i ≡ i + 0 = omega arith in
    subst (λ (m : ℕ). IsSealedUnder c context rnd m x) n
    (subst (λ (z : HpkeCiphertext). IsSealedUnder c context rnd i z) same (under c context secret (key_at b t d) rnd i e.0 e.2))
numbered_all c context secret b t rnd i (d ∷ ds) xs h (suc k) x g =
    let e = cons_is (seal_to c context secret (key_at b t d) (rnd i)) (seal_all c context secret b t rnd (suc i) ds) xs h in
    let f : slice_get (e.0 ∷ e.1) (suc k) ≡ Some x = subst (λ (zs : List HpkeCiphertext). slice_get zs (suc k) ≡ Some x) e.4 g in
    let n : suc i + k ≡ i + suc k = omega arith in
    subst (λ (m : ℕ). IsSealedUnder c context rnd m x) n (numbered_all c context secret b t rnd (suc i) ds e.1 e.3 k x f)

-- ---- of a path, the lowest node first

record IsNumbered (c : Crypto) (context added : List ℕ) (rnd : ℕ → List ℕ) (ss : List Step) (ns : List UpdatePathNode) : Type 0 where
  count : length (ciphertexts_of (reverse ns)) ≡ seal_count added ss
  numbers : (k : ℕ) (x : HpkeCiphertext) → slice_get (ciphertexts_of (reverse ns)) k ≡ Some x → IsSealedUnder c context rnd k x

turned : (n : UpdatePathNode) (ns : List UpdatePathNode) → ciphertexts_of (reverse (n ∷ ns)) ≡ ciphertexts_of (reverse ns) ++ n.ciphertexts
turned n ns =
    ap (λ (zs : List UpdatePathNode). ciphertexts_of zs) (reverse-cons n ns)
    ∙ flat_map-append (λ (m : UpdatePathNode). m.ciphertexts) (reverse ns) (n ∷ [])
    ∙ ap (λ (xs : List HpkeCiphertext). ciphertexts_of (reverse ns) ++ xs) (nil_right n.ciphertexts)

numbers_of : (c : Crypto) (context added : List ℕ) (rnd : ℕ → List ℕ) (ss : List Step) (ms : List UpdatePathNode) (xs : List HpkeCiphertext) → IsNumbered c context added rnd ss ms →
    ((j : ℕ) (x : HpkeCiphertext) → slice_get xs j ≡ Some x → IsSealedUnder c context rnd (seal_count added ss + j) x) →
    (k : ℕ) (x : HpkeCiphertext) → slice_get (ciphertexts_of (reverse ms) ++ xs) k ≡ Some x → IsSealedUnder c context rnd k x
numbers_of c context added rnd ss ms xs r seals k x g = elim (get_past (ciphertexts_of (reverse ms)) xs k x g) [
  | inl e ↦ r.numbers k x e
  | inr e ↦
      let n : seal_count added ss + e.0 ≡ k = sym (e.1 ∙ ap (λ (m : ℕ). m + e.0) r.count) in
      subst (λ (m : ℕ). IsSealedUnder c context rnd m x) n (seals e.0 x e.2)
]

numbered_along : (c : Crypto) (context added : List ℕ) (rnd : ℕ → List ℕ) (start : List ℕ) (ss : List Step) (ns : List UpdatePathNode) → seal_along c context added rnd ss start ≡ Some ns → IsNumbered c context added rnd ss ns
unfolding seal_along seal_count
numbered_along c context added rnd start [] [] h = record { count = refl; numbers = λ k x g. absurd cc }
numbered_along c context added rnd start [] (n ∷ ns) h = absurd cc
numbered_along c context added rnd start (s ∷ ss) ns h = by_test (is_filtered s) refl h (numbered_along c context added rnd start ss)
  where
    with_count : (u : Bool) → is_filtered s ≡ u → (ms : List UpdatePathNode) → length (ciphertexts_of (reverse ms)) ≡ (if u then length (targets added s) else 0) + seal_count added ss → length (ciphertexts_of (reverse ms)) ≡ seal_count added (s ∷ ss)
    with_count u e ms q = q ∙ ap (λ (v : Bool). (if v then length (targets added s) else 0) + seal_count added ss) (sym e)

    by_test : (u : Bool) → is_filtered s ≡ u →
        path_past u (with_ciphertexts (node_public c (secret_above ss start)) (seal_all c context (secret_above ss start) s.first s.other rnd (seal_count added ss) (targets added s))) (seal_along c context added rnd ss start) ≡ Some ns →
        ((ms : List UpdatePathNode) → seal_along c context added rnd ss start ≡ Some ms → IsNumbered c context added rnd ss ms) → IsNumbered c context added rnd (s ∷ ss) ns
    by_test true q h rec =
        let seals : Option (List HpkeCiphertext) = seal_all c context (secret_above ss start) s.first s.other rnd (seal_count added ss) (targets added s) in
        let e = cons_is (with_ciphertexts (node_public c (secret_above ss start)) seals) (seal_along c context added rnd ss start) ns h in
        let w = with_is (node_public c (secret_above ss start)) seals e.0 e.2 in
        let made : UpdatePathNode = record { encryption_key = node_public c (secret_above ss start); ciphertexts = w.0 } in
        let whole : made ∷ e.1 ≡ ns = sym (e.4 ∙ ap (λ (n : UpdatePathNode). n ∷ e.1) w.2) in
        let r = rec e.1 e.3 in
        let here : length w.0 ≡ length (targets added s) = all_sealed c context (secret_above ss start) s.first s.other (targets added s) w.0 (sealed_all c context (secret_above ss start) s.first s.other rnd (seal_count added ss) (targets added s) w.0 w.1) in
        let size : length (ciphertexts_of (reverse (made ∷ e.1))) ≡ length (ciphertexts_of (reverse e.1)) + length w.0 = ap (λ (xs : List HpkeCiphertext). length xs) (turned made e.1) ∙ length-append (ciphertexts_of (reverse e.1)) w.0 in
        let all : length (ciphertexts_of (reverse (made ∷ e.1))) ≡ length (targets added s) + seal_count added ss = omega (arith, here, size, r.count) in
        subst (λ (ms : List UpdatePathNode). IsNumbered c context added rnd (s ∷ ss) ms) whole
        (record {
          count = with_count true q (made ∷ e.1) all;
          numbers = λ k x g. numbers_of c context added rnd ss e.1 w.0 r (numbered_all c context (secret_above ss start) s.first s.other rnd (seal_count added ss) (targets added s) w.0 w.1) k x
              (subst (λ (xs : List HpkeCiphertext). slice_get xs k ≡ Some x) (turned made e.1) g);
        })
    by_test false q h rec =
        let r = rec ns h in
        let all : length (ciphertexts_of (reverse ns)) ≡ 0 + seal_count added ss = omega (arith, r.count) in
        record { count = with_count false q ns all; numbers = r.numbers }

pub sealed_by_number : SealedByNumber
sealed_by_number c context added rnd t i start path h k x g =
    let s = sealed_is c context added rnd t i start path h in
    let r = numbered_along c context added rnd start (way 0 t i) s.nodes s.sealed in
    r.numbers k x (subst (λ (ns : List UpdatePathNode). slice_get (ciphertexts_of ns) k ≡ Some x) s.turned g)

pub seals_are_counted : SealsAreCounted
unfolding seal_count_of
seals_are_counted [] = refl
seals_are_counted (n ∷ ns) = length-append n.ciphertexts (ciphertexts_of ns) ∙ ap (λ (m : ℕ). length n.ciphertexts + m) (seals_are_counted ns)

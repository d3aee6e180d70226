-- The secrets of a path by their number.
use Rattle.std.proofs.Common.{◌≡◌, ℕ, zero, suc, ◌+◌, ◌<◌, ◌≤◌, Bool, true, false, if◌then◌else◌, List, [], ◌∷◌, ◌++◌, map, filter, length, reverse, Option, Some, refl, ap, ap₂, sym, ◌∙◌, inl, inr, arith, length-append}
use Rattle.std.specs.List.{slice_get}
use Rattle.std.specs.Option.{option_map}
use Rattle.std.proofs.lemmas.Bool.{cases_lt}
use Rattle.std.proofs.lemmas.Option.{slice_get-map}
use Rattle.mls_wire.specs.Checks.{require_some}
use Rattle.mls_types.specs.declared.update_path.UpdatePathNode.{UpdatePathNode}
use Rattle.mls_suite.specs.Crypto.{Crypto}
use Rattle.mls_tree_model.specs.Way.{Step, way, is_filtered, is_beside}
use Rattle.mls_tree_model.proofs.EntryLaws.{one_filtered}
use Rattle.mls_treekem_model.specs.Chain.{chain, path_secrets, node_public}
use Rattle.mls_treekem_model.specs.Make.{one_if, filtered_count, secret_above}
use Rattle.mls_treekem_model.specs.Seal.{targets, seal_count, seal_all, with_ciphertexts, path_past, seal_along, sealed_path}
use Rattle.mls_treekem_model.specs.Join.{secret_for}
use Rattle.mls_treekem_model.specs.Whole.{SealedOfChain, SecretIsAmong}
use Rattle.mls_treekem_model.proofs.MakeLaws.{count_is_length}
use Rattle.mls_treekem_model.specs.GivenSecrets.{node_with, seal_path_with, sealed_path_with, secret_among}

length-secrets : (start : List ℕ) (n : ℕ) → length (path_secrets start n) ≡ n
unfolding path_secrets
length-secrets start zero = refl
length-secrets start (suc n) =
    let e = length-secrets start n in
    length-append (path_secrets start n) (chain start n ∷ []) ∙ (let z : length (path_secrets start n) + 1 ≡ suc n = omega arith in z)

get_left : (xs ys : List (List ℕ)) (k : ℕ) (x : List ℕ) → slice_get xs k ≡ Some x → slice_get (xs ++ ys) k ≡ Some x
get_left [] ys k x e = cc
get_left (z ∷ xs) ys zero x e = e
get_left (z ∷ xs) ys (suc k) x e = get_left xs ys k x e

get_end : (xs : List (List ℕ)) (x : List ℕ) (k : ℕ) → k ≡ length xs → slice_get (xs ++ (x ∷ [])) k ≡ Some x
get_end [] x zero e = refl
get_end [] x (suc k) e = absurd (omega arith)
get_end (y ∷ xs) x zero e = absurd (omega arith)
get_end (y ∷ xs) x (suc k) e = get_end xs x k (omega arith)

-- secret number k
pub secret_at : (start : List ℕ) (n k : ℕ) → k < n → slice_get (path_secrets start n) k ≡ Some (chain start k)
unfolding path_secrets
secret_at start zero k lt = absurd (omega arith)
secret_at start (suc n) k lt = elim (cases_lt k n) [
  | inl l ↦ get_left (path_secrets start n) (chain start n ∷ []) k (chain start k) (secret_at start n k l)
  | inr g ↦
      let same : k ≡ n = omega arith in
      get_end (path_secrets start n) (chain start n) k (omega (arith, length-secrets start n)) ∙ ap (λ m. Some (chain start m)) (sym same)
]

-- and its public key
pub key_at_number : (c : Crypto) (start : List ℕ) (n k : ℕ) → k < n → slice_get (map (node_public c) (path_secrets start n)) k ≡ Some (node_public c (chain start k))
key_at_number c start n k lt = slice_get-map (node_public c) (path_secrets start n) k ∙ ap (option_map (node_public c)) (secret_at start n k lt)

-- ---- a path of them

least : (s : Step) (ss : List Step) (n : ℕ) → filtered_count (s ∷ ss) ≤ n → filtered_count ss ≤ n
unfolding filtered_count
least s ss n le = by_test (is_filtered s) le
  where
    by_test : (t : Bool) → one_if t (filtered_count ss) ≤ n → filtered_count ss ≤ n
    by_test true le = omega arith
    by_test false le = le

with_along : (c : Crypto) (context added : List ℕ) (rnd : ℕ → List ℕ) (start : List ℕ) (n : ℕ) (ss : List Step) → filtered_count ss ≤ n →
    seal_path_with c context added rnd (path_secrets start n) (map (node_public c) (path_secrets start n)) ss ≡ seal_along c context added rnd ss start
unfolding seal_path_with seal_along filtered_count
with_along c context added rnd start n [] le = refl
with_along c context added rnd start n (s ∷ ss) le =
    by_test (is_filtered s) le
    ∙ ap (path_past (is_filtered s) (with_ciphertexts (node_public c (secret_above ss start)) (seal_all c context (secret_above ss start) s.first s.other rnd (seal_count added ss) (targets added s))))
    (with_along c context added rnd start n ss (least s ss n le))
  where
    below : Option (List UpdatePathNode)
    below = seal_path_with c context added rnd (path_secrets start n) (map (node_public c) (path_secrets start n)) ss

    by_test : (t : Bool) → one_if t (filtered_count ss) ≤ n →
        path_past t
        (node_with c context s.first s.other rnd (seal_count added ss) (targets added s) (slice_get (path_secrets start n) (filtered_count ss)) (slice_get (map (node_public c) (path_secrets start n)) (filtered_count ss)))
        below
        ≡ path_past t (with_ciphertexts (node_public c (secret_above ss start)) (seal_all c context (secret_above ss start) s.first s.other rnd (seal_count added ss) (targets added s))) below
    by_test true le =
        ap₂ (λ o k. path_past true (node_with c context s.first s.other rnd (seal_count added ss) (targets added s) o k) below)
        (secret_at start n (filtered_count ss) (omega arith)) (key_at_number c start n (filtered_count ss) (omega arith))
    by_test false le = refl

pub sealed_of_chain : SealedOfChain
unfolding sealed_path_with sealed_path
sealed_of_chain c context added rnd t i start n le =
    let e = count_is_length 0 t i in
    ap (λ o. require_some 36 (option_map reverse o)) (with_along c context added rnd start n (way 0 t i) (omega (arith, e)))

-- ---- the one for a joiner

among_along : (start : List ℕ) (n : ℕ) (ss : List Step) (j : ℕ) → filtered_count ss ≤ n → map is_filtered (filter (λ s. is_beside s j) ss) ≡ true ∷ [] → secret_among ss j (path_secrets start n) ≡ Some (secret_for ss j start)
unfolding secret_among secret_for filtered_count
among_along start n [] j le one = cc
among_along start n (s ∷ ss) j le one = by_side (is_beside s j) one (among_along start n ss j (least s ss n le))
  where
    by_test : (t : Bool) → is_filtered s ≡ t → t ≡ true → one_if t (filtered_count ss) ≤ n → filtered_count ss < n
    by_test true e f le = omega arith
    by_test false e f le = cc

    by_side : (u : Bool) → map is_filtered (if u then s ∷ filter (λ s. is_beside s j) ss else filter (λ s. is_beside s j) ss) ≡ true ∷ [] →
        (map is_filtered (filter (λ s. is_beside s j) ss) ≡ true ∷ [] → secret_among ss j (path_secrets start n) ≡ Some (secret_for ss j start)) →
        (if u then slice_get (path_secrets start n) (filtered_count ss) else secret_among ss j (path_secrets start n)) ≡ Some (if u then secret_above ss start else secret_for ss j start)
    by_side true one rec = let is : is_filtered s ≡ true = cc in secret_at start n (filtered_count ss) (by_test (is_filtered s) refl is le)
    by_side false one rec = rec one

pub secret_is_among : SecretIsAmong
secret_is_among t i j start n le two taken =
    let e = count_is_length 0 t i in
    among_along start n (way 0 t i) j (omega (arith, e)) (one_filtered 0 t i j two.first.low two.first.high two.second.low two.second.high two.apart taken)

-- What becomes of any path, whoever made it.
use Rattle.std.proofs.Common.{◌≡◌, ℕ, suc, ◌⊎◌, Bool, true, false, if◌then◌else◌, List, [], ◌∷◌, map, reverse, take, Result, Ok, Err, refl, ap, ap₂, sym, ◌∙◌, inl, inr}
use Rattle.std.specs.Str.{bytes_eq}
use Rattle.std.proofs.lemmas.Bool.{true≢false}
use Rattle.std.proofs.lemmas.Slice.Eq.{bytes_eq-Decides}
use Rattle.mls_wire.specs.Reading.{◌>>=◌}
use Rattle.mls_types.specs.declared.update_path.UpdatePathNode.{UpdatePathNode}
use Rattle.mls_tree_model.specs.Way.{Step, way, is_filtered, is_beside}
use Rattle.mls_suite.specs.Crypto.{Crypto}
use Rattle.mls_treekem_model.specs.Chain.{next_secret, chain, node_public, chain_keys}
use Rattle.mls_treekem_model.specs.Keys.{Keys, rest, key_in}
use Rattle.mls_treekem_model.specs.Make.{climb_past_node, climb_past_blank, Climb, one_if}
use Rattle.mls_treekem_model.specs.Seal.{targets}
use Rattle.mls_treekem_model.specs.Open.{nodes_below, open_first, first_ciphertexts, open_at_ancestor, opened_along, filtered_from, opened_secret, climb_past_parent, climb_open, opened_path}
use Rattle.mls_treekem_model.specs.Whole.{RefusedUnopened, JudgedByKeys}

abbrev keys_of : List UpdatePathNode → List (List ℕ)
keys_of ns = map (λ n. n.encryption_key) ns

module _ (c : Crypto) (secret : List ℕ) where
  -- the first n keys are the chain's, and then the climb is accepted; or they aren't
  abbrev Goes : ℕ → List (List ℕ) → Result Climb ℕ → Type 0
  Goes n keys r = (m : Climb) × (take n keys ≡ chain_keys c secret n) × (r ≡ Ok m) × (m.secret ≡ chain secret n)

  abbrev Stops : ℕ → List (List ℕ) → Result Climb ℕ → Type 0
  Stops n keys r = (take n keys ≡ chain_keys c secret n → ⊥) × (r ≡ Err 34)

  past : (n : ℕ) (t : Bool) (ns : List UpdatePathNode) (r : Result Climb ℕ) → Goes n (keys_of (nodes_below t ns)) r ⊎ Stops n (keys_of (nodes_below t ns)) r →
      Goes (one_if t n) (keys_of ns) (r >>= λ m. climb_past_parent c t ns m) ⊎ Stops (one_if t n) (keys_of ns) (r >>= λ m. climb_past_parent c t ns m)
  unfolding chain_keys chain
  past n false ns r h = elim h [
    | inl g ↦
        let on : Climb = climb_past_blank g.0 in
        inl (on, g.1, ap (λ z. z >>= λ m. climb_past_parent c false ns m) g.2, g.3)
    | inr s ↦ inr (s.0, ap (λ z. z >>= λ m. climb_past_parent c false ns m) s.1)
  ]
  past n true [] r h = inr (
    λ e. cc,
    elim h [
      | inl g ↦ ap (λ z. z >>= λ m. climb_past_parent c true [] m) g.2
      | inr s ↦ ap (λ z. z >>= λ m. climb_past_parent c true [] m) s.1
    ],
  )
  past n true (k ∷ ns) r h = elim h [
    | inl g ↦ by_test g (bytes_eq (node_public c g.0.secret) k.encryption_key) refl
    | inr s ↦ inr (λ e. s.0 (let tails : take n (keys_of ns) ≡ chain_keys c secret n = cc in tails), ap (λ z. z >>= λ m. climb_past_parent c true (k ∷ ns) m) s.1)
  ]
    where
      by_test : (g : Goes n (keys_of ns) r) (t : Bool) → bytes_eq (node_public c g.0.secret) k.encryption_key ≡ t →
          Goes (suc n) (keys_of (k ∷ ns)) (r >>= λ m. climb_past_parent c true (k ∷ ns) m) ⊎ Stops (suc n) (keys_of (k ∷ ns)) (r >>= λ m. climb_past_parent c true (k ∷ ns) m)
      by_test g true e =
          let on : Climb = climb_past_node c g.0 in
          let same : k.encryption_key ≡ node_public c (chain secret n) = sym ((bytes_eq-Decides (node_public c g.0.secret) k.encryption_key).0 e) ∙ ap (node_public c) g.3 in
          inl (on, ap₂ (λ x xs. x ∷ xs) same g.1, ap (λ z. z >>= λ m. climb_past_parent c true (k ∷ ns) m) g.2 ∙ rw e refl, ap next_secret g.3)
      by_test g false e =
          inr (
            λ q.
                let heads : k.encryption_key ≡ node_public c (chain secret n) = cc in
                let same : node_public c g.0.secret ≡ k.encryption_key = ap (node_public c) g.3 ∙ sym heads in
                true≢false (sym ((bytes_eq-Decides (node_public c g.0.secret) k.encryption_key).1 same) ∙ e),
            ap (λ z. z >>= λ m. climb_past_parent c true (k ∷ ns) m) g.2 ∙ rw e refl,
          )

  module _ (context : List ℕ) (added : List ℕ) (j : ℕ) where
    goes_on : (ss : List Step) (ks : Keys) (ns : List UpdatePathNode) → opened_along c context added ss j ks ns ≡ Ok secret →
        Goes (filtered_from ss j) (keys_of ns) (climb_open c context added ss j ks ns) ⊎ Stops (filtered_from ss j) (keys_of ns) (climb_open c context added ss j ks ns)
    unfolding opened_along climb_open filtered_from chain_keys chain
    goes_on [] ks ns h = cc
    goes_on (s ∷ ss) ks ns h = by_side (is_beside s j) h (goes_on ss (rest ks) (nodes_below (is_filtered s) ns))
      where
        by_side : (u : Bool) →
            (if u then open_first c context (key_in s.first s.other j (rest ks)) (targets added s) (first_ciphertexts ns) else opened_along c context added ss j (rest ks) (nodes_below (is_filtered s) ns)) ≡ Ok secret →
            (opened_along c context added ss j (rest ks) (nodes_below (is_filtered s) ns) ≡ Ok secret →
            Goes (filtered_from ss j) (keys_of (nodes_below (is_filtered s) ns)) (climb_open c context added ss j (rest ks) (nodes_below (is_filtered s) ns))
            ⊎ Stops (filtered_from ss j) (keys_of (nodes_below (is_filtered s) ns)) (climb_open c context added ss j (rest ks) (nodes_below (is_filtered s) ns))) →
            Goes (one_if (is_filtered s) (if u then 0 else filtered_from ss j)) (keys_of ns)
            ((if u then open_at_ancestor c context added s j (rest ks) ns else climb_open c context added ss j (rest ks) (nodes_below (is_filtered s) ns)) >>= λ m. climb_past_parent c (is_filtered s) ns m)
            ⊎ Stops (one_if (is_filtered s) (if u then 0 else filtered_from ss j)) (keys_of ns)
            ((if u then open_at_ancestor c context added s j (rest ks) ns else climb_open c context added ss j (rest ks) (nodes_below (is_filtered s) ns)) >>= λ m. climb_past_parent c (is_filtered s) ns m)
        by_side true h rec =
            let begun : Climb = record { secret = secret; keys = rest ks } in
            past 0 (is_filtered s) ns (open_at_ancestor c context added s j (rest ks) ns) (inl (begun, refl, ap (λ z. z >>= λ secret. Ok (record { secret = secret; keys = rest ks })) h, refl))
        by_side false h rec = past (filtered_from ss j) (is_filtered s) ns (climb_open c context added ss j (rest ks) (nodes_below (is_filtered s) ns)) (rec h)

unopened : (c : Crypto) (context : List ℕ) (added : List ℕ) (j : ℕ) (ss : List Step) (ks : Keys) (ns : List UpdatePathNode) (n : ℕ) → opened_along c context added ss j ks ns ≡ Err n → climb_open c context added ss j ks ns ≡ Err n
unfolding opened_along climb_open
unopened c context added j [] ks ns n h = let e : 32 ≡ n = cc in ap Err e
unopened c context added j (s ∷ ss) ks ns n h = ap (λ z. z >>= λ m. climb_past_parent c (is_filtered s) ns m) (by_side (is_beside s j) h (unopened c context added j ss (rest ks) (nodes_below (is_filtered s) ns) n))
  where
    by_side : (u : Bool) →
        (if u then open_first c context (key_in s.first s.other j (rest ks)) (targets added s) (first_ciphertexts ns) else opened_along c context added ss j (rest ks) (nodes_below (is_filtered s) ns)) ≡ Err n →
        (opened_along c context added ss j (rest ks) (nodes_below (is_filtered s) ns) ≡ Err n → climb_open c context added ss j (rest ks) (nodes_below (is_filtered s) ns) ≡ Err n) →
        (if u then open_at_ancestor c context added s j (rest ks) ns else climb_open c context added ss j (rest ks) (nodes_below (is_filtered s) ns)) ≡ Err n
    by_side true h rec = ap (λ z. z >>= λ secret. Ok (record { secret = secret; keys = rest ks })) h
    by_side false h rec = rec h

pub refused_unopened : RefusedUnopened
unfolding opened_secret opened_path
refused_unopened c context added t i j ks path n h = unopened c context added j (way 0 t i) ks (reverse path) n h

pub judged_by_keys : JudgedByKeys
unfolding opened_secret opened_path
judged_by_keys c context added t i j ks path secret h =
    let g = goes_on c secret context added j (way 0 t i) ks (reverse path) h in
    record {
      right = λ e. elim g [ inl q ↦ (q.0, q.2, q.3) | inr s ↦ absurd (s.0 e) ];
      wrong = λ ne. elim g [ inl q ↦ absurd (ne q.1) | inr s ↦ s.1 ];
    }

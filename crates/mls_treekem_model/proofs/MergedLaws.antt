-- A path is made and opened alike in the tree before it is merged and after, and it has the committer's keys.
use Rattle.std.proofs.Common.{◌≡◌, ℕ, ◌+◌, Bool, true, false, if◌then◌else◌, List, [], ◌∷◌, map, length, refl, ap, ap₂, ◌∙◌, subst}
use Rattle.mls_wire.specs.Reading.{◌>>=◌}
use Rattle.mls_types.specs.declared.update_path.UpdatePathNode.{UpdatePathNode}
use Rattle.mls_leaf.specs.declared.leaf.LeafNode.{LeafNode}
use Rattle.mls_tree_model.specs.Term.{Term}
use Rattle.mls_tree_model.specs.Way.{Step, way, is_filtered, is_beside}
use Rattle.mls_tree_model.specs.Merge.{merge, keys_beside, hash_beside}
use Rattle.mls_suite.specs.Crypto.{Crypto}
use Rattle.mls_treekem_model.specs.Chain.{chain, node_key, node_public}
use Rattle.mls_treekem_model.specs.Keys.{Keys, rest, key_in}
use Rattle.mls_treekem_model.specs.Make.{one_if, filtered_count, secret_above, key_if, made_keys, climb_make, more_if, path_keys}
use Rattle.mls_treekem_model.specs.Seal.{Choose, targets, seal_count, seal_along, IsNodeFor, IsPathOf}
use Rattle.mls_treekem_model.specs.Open.{nodes_below, open_first, first_ciphertexts, opened_along, climb_past_parent, open_at_ancestor, climb_open}
use Rattle.mls_treekem_model.specs.Laws.{CountMerged, MakeMerged, OpenMerged, PathHasKeys, PathMerged, SealMerged}
use Rattle.mls_treekem_model.proofs.MakeLaws.{merged_way, way_merge}

open_along : (c : Crypto) (context : List ℕ) (added : List ℕ) (j : ℕ) (ss : List Step) (ms : List (List ℕ)) (h : List ℕ) (ks : Keys) (ns : List UpdatePathNode) →
    climb_open c context added (merged_way ss ms h) j ks ns ≡ climb_open c context added ss j ks ns
unfolding merged_way climb_open targets
open_along c context added j [] ms h ks ns = refl
open_along c context added j (s ∷ ss) ms h ks ns =
    ap (λ z. (if is_beside s j then open_at_ancestor c context added s j (rest ks) ns else z) >>= λ m. climb_past_parent c (is_filtered s) ns m)
    (open_along c context added j ss (keys_beside s.first s.other ms) (hash_beside s.first s.other ms h) (rest ks) (nodes_below (is_filtered s) ns))

secret_open_along : (c : Crypto) (context : List ℕ) (added : List ℕ) (j : ℕ) (ss : List Step) (ms : List (List ℕ)) (h : List ℕ) (ks : Keys) (ns : List UpdatePathNode) →
    opened_along c context added (merged_way ss ms h) j ks ns ≡ opened_along c context added ss j ks ns
unfolding merged_way opened_along targets
secret_open_along c context added j [] ms h ks ns = refl
secret_open_along c context added j (s ∷ ss) ms h ks ns =
    ap (λ z. if is_beside s j then open_first c context (key_in s.first s.other j (rest ks)) (targets added s) (first_ciphertexts ns) else z)
    (secret_open_along c context added j ss (keys_beside s.first s.other ms) (hash_beside s.first s.other ms h) (rest ks) (nodes_below (is_filtered s) ns))

pub opened_along_merged : (c : Crypto) (context : List ℕ) (added : List ℕ) (b : ℕ) (t : Term) (i j : ℕ) (ms : List (List ℕ)) (h : List ℕ) (x : LeafNode) (ks : Keys) (ns : List UpdatePathNode) →
    opened_along c context added (way b (merge b t i ms h x) i) j ks ns ≡ opened_along c context added (way b t i) j ks ns
opened_along_merged c context added b t i j ms h x ks ns = rw (way_merge b t i ms h x) (secret_open_along c context added j (way b t i) ms h ks ns)

pub open_merged : OpenMerged
open_merged c context added b t i j ms h x ks ns = rw (way_merge b t i ms h x) (open_along c context added j (way b t i) ms h ks ns)

pub count_along : (ss : List Step) (ms : List (List ℕ)) (h : List ℕ) → filtered_count (merged_way ss ms h) ≡ filtered_count ss
unfolding merged_way filtered_count
count_along [] ms h = refl
count_along (s ∷ ss) ms h = ap (one_if (is_filtered s)) (count_along ss (keys_beside s.first s.other ms) (hash_beside s.first s.other ms h))

pub secret_along : (ss : List Step) (ms : List (List ℕ)) (h start : List ℕ) → secret_above (merged_way ss ms h) start ≡ secret_above ss start
secret_along ss ms h start = ap (chain start) (count_along ss ms h)

made_along : (c : Crypto) (ss : List Step) (ms : List (List ℕ)) (h start sk : List ℕ) → made_keys c (merged_way ss ms h) start sk ≡ made_keys c ss start sk
unfolding merged_way made_keys
made_along c [] ms h start sk = refl
made_along c (s ∷ ss) ms h start sk =
    let ms' : List (List ℕ) = keys_beside s.first s.other ms in
    let h' : List ℕ = hash_beside s.first s.other ms h in
    ap₂ (λ z zs. key_if (is_filtered s) (node_key c z) ∷ zs) (secret_along ss ms' h' start) (made_along c ss ms' h' start sk)

make_along : (c : Crypto) (ss : List Step) (ms : List (List ℕ)) (h start sk : List ℕ) → climb_make c (merged_way ss ms h) start sk ≡ climb_make c ss start sk
make_along c ss ms h start sk =
    let e = secret_along ss ms h start in
    let f = made_along c ss ms h start sk in
    rw (e, f) refl

pub make_merged : MakeMerged
make_merged c b t i ms h x start sk = rw (way_merge b t i ms h x) (make_along c (way b t i) ms h start sk)

seals_along : (added : List ℕ) (ss : List Step) (ms : List (List ℕ)) (h : List ℕ) → seal_count added (merged_way ss ms h) ≡ seal_count added ss
unfolding merged_way seal_count targets
seals_along added [] ms h = refl
seals_along added (s ∷ ss) ms h = ap (λ n. (if is_filtered s then length (targets added s) else 0) + n) (seals_along added ss (keys_beside s.first s.other ms) (hash_beside s.first s.other ms h))

pub count_merged : CountMerged
count_merged added b t i ms h x = ap (seal_count added) (way_merge b t i ms h x) ∙ seals_along added (way b t i) ms h

sealed_along : (c : Crypto) (context : List ℕ) (added : List ℕ) (rnd : ℕ → List ℕ) (ss : List Step) (ms : List (List ℕ)) (h start : List ℕ) →
    seal_along c context added rnd (merged_way ss ms h) start ≡ seal_along c context added rnd ss start
unfolding merged_way seal_along targets
sealed_along c context added rnd [] ms h start = refl
sealed_along c context added rnd (s ∷ ss) ms h start =
    let ms' : List (List ℕ) = keys_beside s.first s.other ms in
    let h' : List ℕ = hash_beside s.first s.other ms h in
    let e = secret_along ss ms' h' start in
    let f = seals_along added ss ms' h' in
    let g = sealed_along c context added rnd ss ms' h' start in
    rw (e, f, g) refl

pub seal_merged : SealMerged
seal_merged c context added rnd b t i ms h x start = rw (way_merge b t i ms h x) (sealed_along c context added rnd (way b t i) ms h start)

path_along : (c : Crypto) (context : List ℕ) (added : List ℕ) (start : List ℕ) (ss : List Step) (ms : List (List ℕ)) (h : List ℕ) (ns : List UpdatePathNode) →
    IsPathOf c context added (merged_way ss ms h) start ns → IsPathOf c context added ss start ns
unfolding merged_way IsPathOf targets
path_along c context added start [] ms h ns p = p
path_along c context added start (s ∷ ss) ms h ns p = by_test (is_filtered s) p (path_along c context added start ss)
  where
    under : List Step
    under = merged_way ss (keys_beside s.first s.other ms) (hash_beside s.first s.other ms h)

    by_test : (t : Bool) →
        Choose t (IsNodeFor c context added s (secret_above under start) ns × IsPathOf c context added under start (rest ns)) (IsPathOf c context added under start ns) →
        ((ms : List (List ℕ)) (h : List ℕ) (ns : List UpdatePathNode) → IsPathOf c context added (merged_way ss ms h) start ns → IsPathOf c context added ss start ns) →
        Choose t (IsNodeFor c context added s (secret_above ss start) ns × IsPathOf c context added ss start (rest ns)) (IsPathOf c context added ss start ns)
    by_test true p rec =
        (subst (λ (z : List ℕ). IsNodeFor c context added s z ns) (secret_along ss _ _ start) p.0, rec _ _ (rest ns) p.1)
    by_test false p rec = rec _ _ ns p

pub path_merged : PathMerged
path_merged c context added b t i ms h x start ns p =
    path_along c context added start (way b t i) ms h ns (subst (λ (z : List Step). IsPathOf c context added z start ns) (way_merge b t i ms h x) p)

pub path_has_keys : PathHasKeys
unfolding IsPathOf path_keys
path_has_keys c context added start [] ns p = ap (λ zs. map (λ n. n.encryption_key) zs) p
path_has_keys c context added start (s ∷ ss) ns p = by_test (is_filtered s) ns p (path_has_keys c context added start ss)
  where
    by_test : (t : Bool) (ns : List UpdatePathNode) →
        Choose t (IsNodeFor c context added s (secret_above ss start) ns × IsPathOf c context added ss start (rest ns)) (IsPathOf c context added ss start ns) →
        ((ns : List UpdatePathNode) → IsPathOf c context added ss start ns → map (λ n. n.encryption_key) ns ≡ path_keys c ss start) →
        map (λ n. n.encryption_key) ns ≡ more_if t (node_public c (secret_above ss start)) (path_keys c ss start)
    by_test true [] p rec = absurd p.0
    by_test true (n ∷ ns) p rec = ap (λ k. k ∷ map (λ n. n.encryption_key) ns) p.0.0 ∙ ap (λ zs. node_public c (secret_above ss start) ∷ zs) (rec ns p.1)
    by_test false ns p rec = rec ns p

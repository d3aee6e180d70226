-- The keys of a member from call to call.
use Rattle.std.proofs.Common.{◌≡◌, ℕ, suc, ◌≤◌, if◌then◌else◌, true, List, [], ◌∷◌, map, length, reverse, Some, None, is_some, refl, ap, ap₂, sym, ◌∙◌, subst, inl, inr, arith}
use Rattle.std.proofs.lemmas.Bool.{cases_eq, cases_lt}
use Rattle.mls_types.specs.declared.update_path.UpdatePathNode.{UpdatePathNode}
use Rattle.mls_leaf.specs.declared.leaf.LeafNode.{LeafNode}
use Rattle.mls_suite.specs.Crypto.{Crypto}
use Rattle.mls_tree_model.specs.Term.{Term, leaf_at}
use Rattle.mls_tree_model.specs.Way.{Step, way}
use Rattle.mls_tree_model.specs.Merge.{merge, merge_path, keys_beside, hash_beside}
use Rattle.mls_treekem_model.specs.Make.{climb_to, made_keys}
use Rattle.mls_treekem_model.specs.Follow.{follow_edit}
use Rattle.mls_treekem_model.specs.Height.{as_pairs}
use Rattle.mls_treekem_model.specs.Join.{is_complete}
use Rattle.mls_treekem_model.specs.Keys.{Keys, HoldsDueKey, Exact, PrivateKeys, all_keys, leaf_only, key_in, key_above, keys_on_way, keys_on, HasExact}
use Rattle.mls_treekem_model.specs.Members.{KeysMerged, with_nodes, ExactReceived, MadeReceived, ShownAreDue, ExactAlone, ExactFollowed, ExactMade, ExactOpened, ExactTaken, ExactUpdated, ExactWhole}
use Rattle.mls_treekem_model.specs.Open.{opened_secret, opened_path}
use Rattle.mls_treekem_model.specs.Pairs.{pairs, find_key, IsInOrder}
use Rattle.mls_treekem_model.proofs.EntryLaws.{key_where_held, entry_key}
use Rattle.mls_treekem_model.proofs.PairLaws.{pairs_in_order, pairs_found}
use Rattle.mls_treekem_model.proofs.HeightLaws.{exact_is_on_way, above_take, above_pass, length-end, length-keys_on_way, same_length, way_height}
use Rattle.mls_treekem_model.proofs.JoinLaws.{take_exact, leaf_exact, take_inside, own_merge}
use Rattle.mls_treekem_model.proofs.MakeLaws.{merged_way, way_merge}
use Rattle.mls_treekem_model.proofs.OnePassLaws.{along_length, no_key_above, follow_edit_exact, own_edit_exact}
use Rattle.mls_treekem_model.proofs.WholeLaws.{made_exact, opened_exact, opened_merged, secret_merged, opened_agrees, opened_is_sent}
use Rattle.mls_treekem_model.specs.Chain.{keys_of_path}

-- ---- keys read on a way

low_same : (ss : List Step) (ks : Keys) (n : ℕ) → n ≤ length ss → key_above n (keys_on_way ss ks) ≡ key_above n ks
unfolding keys_on_way
low_same [] ks n low = let z : n ≡ 0 = omega arith in rw z (above_take 0 (key_above 0 ks) [] refl)
low_same (s ∷ ss) ks n low = elim (cases_eq n (suc (length ss))) [
  | inl e ↦ rw e (above_take (suc (length ss)) (key_above (suc (length ss)) ks) (keys_on_way ss ks) (length-keys_on_way ss ks))
  | inr ne ↦ above_pass n (key_above (suc (length ss)) ks) (keys_on_way ss ks) (λ e. ne (sym e ∙ length-keys_on_way ss ks)) ∙ low_same ss ks n (omega (arith, ne))
]

key_same : (ss : List Step) (ks : Keys) (n : ℕ) → length ks ≤ suc (length ss) → key_above n (keys_on_way ss ks) ≡ key_above n ks
key_same ss ks n room = elim (cases_lt (length ss) n) [
  | inl lt ↦ no_key_above n (keys_on_way ss ks) (omega (arith, length-keys_on_way ss ks)) ∙ sym (no_key_above n ks (omega arith))
  | inr ge ↦ low_same ss ks n ge
]

follow_same : (ss ts : List Step) (ks : Keys) → length ks ≤ suc (length ss) → follow_edit None ts (keys_on_way ss ks) ≡ follow_edit None ts ks
unfolding follow_edit
follow_same ss [] ks room = ap (λ o. o ∷ []) (key_same ss ks 0 room)
follow_same ss (t ∷ ts) ks room = ap₂ (λ o zs. (if is_some t.parent then o else None) ∷ zs) (key_same ss ks (suc (length ts)) room) (follow_same ss ts ks room)

length-merged : (ss : List Step) (ms : List (List ℕ)) (h : List ℕ) → length (merged_way ss ms h) ≡ length ss
unfolding merged_way
length-merged [] ms h = refl
length-merged (s ∷ ss) ms h = ap suc (length-merged ss (keys_beside s.first s.other ms) (hash_beside s.first s.other ms h))

way_long : (t : Term) (i : ℕ) (x : LeafNode) (keys : List (List ℕ)) → length (way 0 (merge_path t i x keys) i) ≡ length (way 0 t i)
unfolding merge_path
way_long t i x keys = ap length (way_merge 0 t i (reverse keys) [] x) ∙ length-merged (way 0 t i) (reverse keys) []

-- ---- a member

pub exact_whole : ExactWhole
exact_whole c t p e =
    let long : length (all_keys p) ≡ suc (length (way 0 t p.leaf)) = along_length c (HoldsDueKey c p.leaf) (way 0 t p.leaf) (leaf_at 0 t p.leaf) (all_keys p) e in
    record {
      keys = subst (λ (ks : Keys). Exact c 0 t p.leaf ks) (sym (exact_is_on_way c 0 t p.leaf (all_keys p) e)) e;
      low = omega (arith, length-end p.above (Some p.own));
    }

-- keys that are exact at a leaf by another name
at_leaf : (c : Crypto) (t : Term) (p : PrivateKeys) (j : ℕ) → p.leaf ≡ j → Exact c 0 t j (all_keys p) → HasExact c t p
at_leaf c t p j is e = exact_whole c t p (subst (λ i. Exact c 0 t i (all_keys p)) (sym is) e)

pub exact_made : ExactMade
exact_made c h t x start old new perfect room own made =
    let u : Term = merge_path t old.leaf x (keys_of_path c t old.leaf start) in
    let long : length (way 0 u old.leaf) ≡ length (way 0 t old.leaf) = way_long t old.leaf x (keys_of_path c t old.leaf start) in
    let high : length (way 0 t old.leaf) ≡ h = way_height h 0 t old.leaf perfect in
    let few : length new.above ≤ h = made.low h t perfect room refl in
    let same : keys_on_way (way 0 u old.leaf) (all_keys new) ≡ made_keys c (way 0 t old.leaf) start old.own = same_length (way 0 u old.leaf) (way 0 t old.leaf) (all_keys new) long ∙ made.keys h t perfect room refl in
    let exact : Exact c 0 u old.leaf (keys_on_way (way 0 u old.leaf) (all_keys new)) = subst (λ (ks : Keys). Exact c 0 u old.leaf ks) (sym same) (made_exact c t old.leaf x start old.own own) in
    record {
      keys = subst (λ j. Exact c 0 u j (keys_on_way (way 0 u j) (all_keys new))) (sym made.leaf) exact;
      low = subst (λ j. length new.above ≤ length (way 0 u j)) (sym made.leaf) (let z : length new.above ≤ length (way 0 u old.leaf) = omega arith in z);
    }

pub exact_followed : ExactFollowed
exact_followed c t t' old new had f done =
    let few : length old.above ≤ length (way 0 t old.leaf) = had.low in
    let room : length (all_keys old) ≤ suc (length (way 0 t old.leaf)) = omega (arith, length-end old.above (Some old.own)) in
    at_leaf c t' new old.leaf done.leaf
    (subst (λ (ks : Keys). Exact c 0 t' old.leaf ks) (follow_same (way 0 t old.leaf) (way 0 t' old.leaf) (all_keys old) room ∙ sym done.keys)
    (follow_edit_exact c t t' old.leaf (keys_on t old) had.keys f))

pub exact_updated : ExactUpdated
exact_updated c t t' x k old new own f done =
    at_leaf c t' new old.leaf done.leaf (subst (λ (ks : Keys). Exact c 0 t' old.leaf ks) (sym done.keys) (own_edit_exact c t t' old.leaf x k (all_keys old) own f))

pub exact_opened : ExactOpened
exact_opened c context added t i x path s old new two had opens leaf =
    at_leaf c (merge_path t i x (map (λ (n : UpdatePathNode). n.encryption_key) path)) new old.leaf leaf
    (opened_exact c context added t i old.leaf x (keys_on t old) path (climb_to s new) two had.keys opens)

-- ---- received

length-own : (ss : List Step) (k : List ℕ) → length (leaf_only ss k) ≡ suc (length ss)
unfolding leaf_only
length-own [] k = refl
length-own (s ∷ ss) k = ap suc (length-own ss k)

-- a merge leaves each way as long as it was
pub any_way_long : (t : Term) (i j : ℕ) (x : LeafNode) (keys : List (List ℕ)) → length (way 0 (merge_path t i x keys) j) ≡ length (way 0 t j)
unfolding merge_path
any_way_long t i j x keys =
    let e = own_merge 0 t i j (reverse keys) [] x [] in
    let f = sym (length-own (way 0 (merge 0 t i (reverse keys) [] x) j) []) ∙ ap length e ∙ length-own (way 0 t j) [] in
    omega (arith, f)

pub keys_merged : KeysMerged
keys_merged t i x keys p = same_length (way 0 (merge_path t i x keys) p.leaf) (way 0 t p.leaf) (all_keys p) (any_way_long t i p.leaf x keys)

-- what is opened on the tree with a path is what is opened before it is merged
opened_after : (c : Crypto) (context added : List ℕ) (t : Term) (i : ℕ) (x : LeafNode) (path : List UpdatePathNode) (p : PrivateKeys) → opened_path c context added (with_nodes t i x path) i p.leaf (keys_on (with_nodes t i x path) p) path ≡ opened_path c context added t i p.leaf (keys_on t p) path
opened_after c context added t i x path p =
    let keys : List (List ℕ) = map (λ (n : UpdatePathNode). n.encryption_key) path in
    ap (λ ks. opened_path c context added (merge_path t i x keys) i p.leaf ks path) (keys_merged t i x keys p) ∙ opened_merged c context added t i p.leaf x keys (keys_on t p) path

pub exact_received : ExactReceived
exact_received c context added t i x path s old new two had opens leaf =
    exact_opened c context added t i x path s old new two had (sym (opened_after c context added t i x path old) ∙ opens) leaf

pub made_received : MadeReceived
made_received c l context added rnd t i x start p path long two good had old sealed =
    let keys : List (List ℕ) = map (λ (n : UpdatePathNode). n.encryption_key) path in
    let agree = opened_agrees c l context added rnd t i p.leaf start (keys_on t p) path long two good had.keys old sealed in
    record {
      climb = agree.0;
      opens = opened_after c context added t i x path p ∙ agree.1;
      opened =
          ap (λ ks. opened_secret c context added (merge_path t i x keys) i p.leaf ks path) (keys_merged t i x keys p)
          ∙ secret_merged c context added t i p.leaf x keys (keys_on t p) path
          ∙ opened_is_sent c l context added rnd t i p.leaf start (keys_on t p) path long two good had.keys old sealed;
      secret = agree.2;
      exact = opened_exact c context added t i p.leaf x (keys_on t p) path agree.0 two had.keys agree.1;
    }

-- ---- the keys that are shown

pub shown_are_due : ShownAreDue
shown_are_due c h t p ps perfect inside had are =
    let high : length (way 0 t p.leaf) ≡ h = way_height h 0 t p.leaf perfect in
    let few : length p.above ≤ length (way 0 t p.leaf) = had.low in
    let shown : as_pairs ps ≡ pairs 0 t p.leaf (keys_on t p) = are h t perfect (omega arith) inside in
    let found : (d : ℕ) → find_key d (as_pairs ps) ≡ key_in 0 t p.leaf (keys_on t p) d = λ d. ap (find_key d) shown ∙ pairs_found 0 t p.leaf (keys_on t p) d inside in
    record {
      in_order = subst IsInOrder (sym shown) (pairs_in_order 0 t p.leaf (keys_on t p) inside);
      due = λ d. ap is_some (found d) ∙ key_where_held c 0 t p.leaf (keys_on t p) d inside had.keys;
      fit = λ d k e. entry_key c 0 t p.leaf (keys_on t p) d k inside had.keys (sym (found d) ∙ e);
    }

pub exact_taken : ExactTaken
exact_taken c t i x secret s old new two leaf own takes same =
    at_leaf c t new old.leaf same
    (take_exact c t i old.leaf x old.own secret (climb_to s new) two.first two.second two.apart leaf own (sym (take_inside c t i old.leaf old.own secret two.first) ∙ takes))

pub exact_alone : ExactAlone
exact_alone c t x sk p leaf own only due =
    let one : length (all_keys p) ≡ 1 = ap length only in
    let none : length p.above ≡ 0 = omega (arith, length-end p.above (Some p.own)) in
    record {
      keys =
          subst (λ (ks : Keys). is_complete p.leaf (way 0 t p.leaf) (keys_on_way (way 0 t p.leaf) ks) ≡ true → Exact c 0 t p.leaf (keys_on_way (way 0 t p.leaf) ks)) (sym only)
          (leaf_exact c t p.leaf x sk leaf own) due;
      low = omega arith;
    }

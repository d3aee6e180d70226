-- The keys of a path that is made, and what its committer keeps of them.
use Rattle.std.proofs.Common.{◌≡◌, ℕ, suc, ◌^◌, ◌<◌, ◌≤◌, List, [], ◌∷◌, ◌++◌, length, map, Option, Some, None, is_some, if◌then◌else◌, Ok, refl, ap, ap₂, sym, subst, ◌∙◌, inl, inr, arith}
use Rattle.std.proofs.lemmas.Bool.{cases_lt}
use Rattle.std.proofs.lemmas.List.{length-reverse, length-map}
use Rattle.std.proofs.Math.Pow.{pow_mono}
use Rattle.mls_wire.proofs.CheckLaws.{bind_ok}
use Rattle.mls_leaf.specs.Parent.{Parent}
use Rattle.mls_leaf.specs.declared.leaf.LeafNode.{LeafNode}
use Rattle.mls_suite.specs.Crypto.{Crypto}
use Rattle.mls_tree_model.specs.Term.{Term, width, height, leaf_at}
use Rattle.mls_tree_model.specs.Way.{Step, way, filtered_way, filtered_path, path_length}
use Rattle.mls_tree_model.specs.Merge.{merge_path}
use Rattle.mls_tree.specs.Tree.{Tree, term, member_at, path_answer}
use Rattle.mls_tree.proofs.Perfect.{perfect, width_is}
use Rattle.mls_treekem_model.specs.Follow.{follow_edit}
use Rattle.mls_treekem_model.specs.Height.{HasFollowed}
use Rattle.mls_treekem_model.specs.Keys.{Keys, PrivateKeys, all_keys, AreKeysAlong, HoldsDueKey, Exact, key_above, keys_on_way, keys_on}
use Rattle.mls_treekem_model.specs.Make.{made_keys, HasMade}
use Rattle.mls_treekem_model.proofs.MemberLaws.{keys_merged}
use Rattle.mls_treekem_model.proofs.WholeLaws.{made_exact}
use Rattle.mls_treekem_model.specs.Chain.{keys_of_path}
use Rattle.mls_treekem.specs.Secrets.{AreOfChain}
use Rattle.mls_treekem.specs.declared.secrets.PathSecrets.{PathSecrets}

-- ---- the filtered direct path

filtered_is : (t : Term) (i : ℕ) (xs : List ℕ) → path_answer t i ≡ Ok xs → xs ≡ filtered_path 0 t i
unfolding path_answer
filtered_is t i xs e = let s = bind_ok (member_at t i) (λ v. Ok (filtered_path 0 t i)) xs e in let f = s.2 in cc

length-filtered : (t : Term) (i : ℕ) → length (filtered_path 0 t i) ≡ path_length 0 t i
unfolding filtered_path path_length
length-filtered t i = length-reverse (map (λ (s : Step). s.node) (filtered_way 0 t i)) ∙ length-map (filtered_way 0 t i) (λ s. s.node)

-- ---- made keys

own_is : (above : Keys) (own sk : List ℕ) → above ++ (Some own ∷ []) ≡ Some sk ∷ [] → own ≡ sk
own_is [] own sk e = cc
own_is (o ∷ []) own sk e = cc
own_is (o ∷ (p ∷ ks)) own sk e = cc

low_height : (t : Tree) (n : ℕ) → n ≡ width (term t) → n < 2 ^ 32 → height (term t) ≤ 32
low_height t n e lt = elim (cases_lt 32 (height (term t))) [
  | inl high ↦
      let p : 2 ^ 32 ≤ 2 ^ height (term t) = pow_mono {i = 32} {j = height (term t)} (omega arith) in
      let w : n ≡ 2 ^ height (term t) = e ∙ width_is t in
      absurd (omega arith)
  | inr low ↦ low
]

-- what code read of a tree and a seed
module _ (c : Crypto) (t : Tree) (i : ℕ) (start start' : List ℕ) (xs ys : List ℕ) (path : path_answer (term t) i ≡ Ok xs) (same : ys ≡ xs) (begins : start' ≡ start) where
  ys_are : ys ≡ filtered_path 0 (term t) i
  ys_are = same ∙ filtered_is (term t) i xs path

  pub chain_for : (m : PathSecrets) → AreOfChain c start' (length ys) m → AreOfChain c start (path_length 0 (term t) i) m
  chain_for m h = subst (λ n. AreOfChain c start n m) (ap length ys_are ∙ length-filtered (term t) i) (subst (λ s. AreOfChain c s (length ys) m) begins h)

  pub keys_for : (n : ℕ) → n ≡ width (term t) → n < 2 ^ 32 → (sk : List ℕ) (old new : PrivateKeys) → old.leaf ≡ i → all_keys old ≡ Some sk ∷ [] → HasMade c start' ys old new
      → keys_on (term t) new ≡ made_keys c (way 0 (term t) i) start sk
  keys_for n w lt sk old new at own made =
      let k : keys_on_way (way 0 (term t) old.leaf) (all_keys new) ≡ made_keys c (way 0 (term t) old.leaf) start' old.own =
      made.keys (height (term t)) (term t) (perfect t) (low_height t n w lt) (ys_are ∙ ap (filtered_path 0 (term t)) (sym at)) in
      let sk_is : old.own ≡ sk = own_is old.above old.own sk own in
      ap (λ j. keys_on_way (way 0 (term t) j) (all_keys new)) made.leaf
      ∙ k
      ∙ ap (λ j. made_keys c (way 0 (term t) j) start' old.own) at
      ∙ ap₂ (made_keys c (way 0 (term t) i)) begins sk_is

-- ---- keys that are followed onto the tree with the path

fit_stays : (c : Crypto) (j : ℕ) (p : Option Parent) (o : Option (List ℕ)) → HoldsDueKey c j p o → (if is_some p then o else None) ≡ o
fit_stays c j None None h = refl
fit_stays c j None (Some k) h = absurd h
fit_stays c j (Some p) o h = refl

follow_stays : (c : Crypto) (j : ℕ) (ss : List Step) (x : Option LeafNode) (ks : Keys) → AreKeysAlong c (HoldsDueKey c j) ss x (keys_on_way ss ks) → follow_edit None ss ks ≡ keys_on_way ss ks
unfolding follow_edit keys_on_way AreKeysAlong
follow_stays c j [] x ks h = refl
follow_stays c j (s ∷ ss) x ks h = ap₂ (λ o zs. o ∷ zs) (fit_stays c j s.parent (key_above (suc (length ss)) ks) h.0) (follow_stays c j ss x ks h.1)

pub followed_made : (c : Crypto) (t u : Term) (i : ℕ) (x : LeafNode) (start sk : List ℕ) (old new : PrivateKeys) → u ≡ merge_path t i x (keys_of_path c t i start) → c.public sk ≡ x.encryption_key → old.leaf ≡ i
    → keys_on t old ≡ made_keys c (way 0 t i) start sk → HasFollowed None u old new → all_keys new ≡ made_keys c (way 0 t i) start sk
followed_made c t u i x start sk old new is own at made done =
    let keys : List (List ℕ) = keys_of_path c t i start in
    let v : Term = merge_path t i x keys in
    let on : keys_on_way (way 0 v old.leaf) (all_keys old) ≡ made_keys c (way 0 t i) start sk = keys_merged t i x keys old ∙ made in
    let on_i : keys_on_way (way 0 v i) (all_keys old) ≡ made_keys c (way 0 t i) start sk = ap (λ j. keys_on_way (way 0 v j) (all_keys old)) (sym at) ∙ on in
    let exact : Exact c 0 v i (keys_on_way (way 0 v i) (all_keys old)) = subst (λ (ks : Keys). Exact c 0 v i ks) (sym on_i) (made_exact c t i x start sk own) in
    done.keys
    ∙ ap₂ (λ w j. follow_edit None (way 0 w j) (all_keys old)) is at
    ∙ follow_stays c i (way 0 v i) (leaf_at 0 v i) (all_keys old) exact
    ∙ on_i

-- A path whose keys are given lowest first.
use Rattle.std.proofs.Common.{◌≡◌, ℕ, ◌<◌, Bool, true, List, [], ◌∷◌, ◌++◌, length, map, reverse, Some, None, refl, ◌∙◌, ap, arith}
use Rattle.std.specs.List.{list_all}
use Rattle.std.proofs.lemmas.Bool.{and_parts, and_from}
use Rattle.std.proofs.lemmas.List.{reverse-append, length-reverse, length-map}
use Rattle.std.proofs.lemmas.List.Folds.{list_all-append}
use Rattle.mls_leaf.specs.declared.leaf.LeafNode.{LeafNode}
use Rattle.mls_tree_model.specs.Node.{source_hash}
use Rattle.mls_tree_model.specs.Term.{Term, width}
use Rattle.mls_tree_model.specs.Sets.{same_bytes, count, is_distinct}
use Rattle.mls_tree_model.specs.Way.{filtered_way, filtered_path, path_length}
use Rattle.mls_tree_model.specs.Edits.{put}
use Rattle.mls_tree_model.specs.Merge.{merge_path, path_parent_hash}
use Rattle.mls_tree_model.specs.Keys.{encryption_keys}
use Rattle.mls_tree_model.specs.Good.{Rules, IsGood, IsSound, AreNew, AreFit}
use Rattle.mls_tree_model.proofs.CountLaws.{bytes_true, count-append, distinct_at, distinct_from}
use Rattle.mls_tree_model.proofs.MergeLaws.{bytes_refl}
use Rattle.mls_tree_model.proofs.SoundLaws.{sound_merge}
use Rattle.mls_tree_model.proofs.KeptLaws.{good_merge}

-- the list of a filtered path is as long as that
pub length-filtered_path : (b : ℕ) (t : Term) (i : ℕ) → length (filtered_path b t i) ≡ path_length b t i
unfolding filtered_path path_length
length-filtered_path b t i =
    length-reverse (map (λ s. s.node) (filtered_way b t i)) ∙ length-map (filtered_way b t i) (λ s. s.node)

-- a list the other way round
pub reverse-cons : {A : Type 0} (x : A) (xs : List A) → reverse (x ∷ xs) ≡ reverse xs ++ (x ∷ [])
reverse-cons x xs = reverse-append (x ∷ []) xs

-- it has the same values as often
count-reverse : (y : List ℕ) (xs : List (List ℕ)) → count same_bytes y (reverse xs) ≡ count same_bytes y xs
count-reverse y [] = refl
count-reverse y (x ∷ xs) =
    let turned = ap (count same_bytes y) (reverse-cons x xs) in
    let sum = count-append same_bytes y (reverse xs) (x ∷ []) in
    let rest = count-reverse y xs in
    let whole = count-append same_bytes y (x ∷ []) xs in
    omega arith

all-reverse : (q : List ℕ → Bool) (xs : List (List ℕ)) → list_all q xs ≡ true → list_all q (reverse xs) ≡ true
all-reverse q [] h = refl
all-reverse q (x ∷ xs) h =
    let p = and_parts (q x) (list_all q xs) h in
    ap (list_all q) (reverse-cons x xs)
    ∙ list_all-append q (reverse xs) (x ∷ [])
    ∙ and_from _ _ (all-reverse q xs p.1) (and_from (q x) true p.0 refl)

distinct-reverse : (x : List ℕ) (ks zs : List (List ℕ)) → is_distinct same_bytes (x ∷ (ks ++ zs)) ≡ true → is_distinct same_bytes (x ∷ (reverse ks ++ zs)) ≡ true
distinct-reverse x ks zs h =
    distinct_from same_bytes bytes_refl (x ∷ (reverse ks ++ zs)) (λ y.
    let d = distinct_at same_bytes bytes_true (x ∷ (ks ++ zs)) h y in
    let a = count-append same_bytes y (x ∷ []) (ks ++ zs) in
    let b = count-append same_bytes y ks zs in
    let e = count-append same_bytes y (x ∷ []) (reverse ks ++ zs) in
    let f = count-append same_bytes y (reverse ks) zs in
    let g = count-reverse y ks in
    omega arith)

pub good_merge_path : (rules : Rules) (t : Term) (i : ℕ) (x : LeafNode) (keys : List (List ℕ)) → IsGood rules t → i < width t → length keys ≡ path_length 0 t i → source_hash x.source ≡ Some (path_parent_hash t i keys) → AreNew rules i x keys (put 0 t i None) → IsGood rules (merge_path t i x keys)
unfolding merge_path path_parent_hash
good_merge_path rules t i x keys g in_it long hash new =
    let fit = and_parts (rules.is_fit x.encryption_key) (list_all rules.is_fit keys) new.fit in
    good_merge rules t i (reverse keys) [] x g in_it
    (record { keys = length-reverse keys ∙ long; hash = hash })
    (record {
      keys = distinct-reverse x.encryption_key keys (encryption_keys (put 0 t i None)) new.keys;
      clients = new.clients;
      signed = new.signed;
      capable = new.capable;
      fit = and_from (rules.is_fit x.encryption_key) _ fit.0 (all-reverse rules.is_fit keys fit.1);
    })

-- the same of a sound tree
pub sound_merge_path : (rules : Rules) (t : Term) (i : ℕ) (x : LeafNode) (keys : List (List ℕ)) → IsSound rules t → i < width t → length keys ≡ path_length 0 t i → source_hash x.source ≡ Some (path_parent_hash t i keys) → AreFit rules i x keys → IsSound rules (merge_path t i x keys)
unfolding merge_path path_parent_hash
sound_merge_path rules t i x keys g in_it long hash new =
    let fit = and_parts (rules.is_fit x.encryption_key) (list_all rules.is_fit keys) new.fit in
    sound_merge rules t i (reverse keys) [] x g in_it
    (record { keys = length-reverse keys ∙ long; hash = hash })
    (record {
      signed = new.signed;
      capable = new.capable;
      fit = and_from (rules.is_fit x.encryption_key) _ fit.0 (all-reverse rules.is_fit keys fit.1);
    })

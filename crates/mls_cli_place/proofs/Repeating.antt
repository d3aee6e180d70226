-- Whether keys differ, by how many of the nodes are looked at.
use Rattle.std.proofs.Common.{◌≡◌, ◌∙◌, ◌+◌, ◌^◌, ◌≤◌, ◌<◌, ◌++◌, ◌∷◌, ℕ, zero, suc, Bool, true, false, List, [], length, take, Option, None, Some, refl, sym, ap, arith}
use Rattle.std.proofs.lemmas.Bool.{true≢false}
use Rattle.std.specs.Option.{option_to_list}
use Rattle.std.specs.Prelude.{IfSome}
use Rattle.std.proofs.lemmas.Grind.{flat_map-append}
use Rattle.mls_leaf.specs.declared.node.Node.{Node}
use Rattle.mls_tree_index.specs.Keys.{key_of, keys_of}
use Rattle.mls_tree_index.specs.declared.kind.KeyKind.{KeyKind}
use Rattle.mls_tree_model.specs.Sets.{is_distinct, same_bytes}
use Rattle.mls_tree_model.proofs.CountLaws.{bytes_true, count-append, distinct_at, distinct_from}
use Rattle.mls_tree_model.proofs.MergeLaws.{bytes_refl}
use Rattle.mls_cli_place.specs.TreePlace.{AllBelow, IsFirstFailing, has_new_key}

abbrev pub differ_to : KeyKind → List (Option Node) → ℕ → Bool
differ_to kind xs n = is_distinct same_bytes (keys_of kind (take n xs))

front : {A : Type 0} (n m : ℕ) (xs : List A) → n ≤ m → (ys : List A) × (take m xs ≡ take n xs ++ ys)
front zero m xs le = (take m xs, refl)
front (suc n) zero xs le = absurd (omega (arith, le))
front (suc n) (suc m) [] le = ([], refl)
front (suc n) (suc m) (x ∷ xs) le = let p = front n m xs (omega (arith, le)) in (p.0, ap (λ l. x ∷ l) p.1)

prefix : (ks ls : List (List ℕ)) → is_distinct same_bytes (ks ++ ls) ≡ true → is_distinct same_bytes ks ≡ true
prefix ks ls h = distinct_from same_bytes bytes_refl ks (λ x. omega (arith, distinct_at same_bytes bytes_true (ks ++ ls) h x, count-append same_bytes x ks ls))

pub earlier : (kind : KeyKind) (xs : List (Option Node)) (n m : ℕ) → n ≤ m → differ_to kind xs m ≡ true → differ_to kind xs n ≡ true
earlier kind xs n m le h =
    let p = front n m xs le in
    let parts = ap (λ ys. is_distinct same_bytes (keys_of kind ys)) p.1 ∙ ap (is_distinct same_bytes) (flat_map-append (λ c. option_to_list (key_of kind c)) (take n xs) p.0) in
    prefix (keys_of kind (take n xs)) (keys_of kind p.0) (sym parts ∙ h)

pub new_before : (kind : KeyKind) (xs : List (Option Node)) (n : ℕ) → differ_to kind xs n ≡ true → AllBelow (has_new_key kind xs) n
new_before kind xs n h = λ j lt. earlier kind xs (j + 1) n (omega (arith, lt)) h

-- what the search knows: the keys of the first `low` nodes differ, those of the first `high` don't
pub record Between (kind : KeyKind) (xs : List (Option Node)) (low high : ℕ) : Type 0 where
  pub order : low < high
  pub within : high ≤ length xs
  pub differ : differ_to kind xs low ≡ true
  pub repeat : differ_to kind xs high ≡ false

none_at : (kind : KeyKind) (xs : List (Option Node)) → differ_to kind xs 0 ≡ true
unfolding is_distinct
none_at kind xs = refl

pub at_first : (kind : KeyKind) (xs : List (Option Node)) (n : ℕ) → n ≡ length xs → differ_to kind xs n ≡ false → Between kind xs 0 n
at_first kind xs zero is h = absurd (true≢false (sym (none_at kind xs) ∙ h))
at_first kind xs (suc n) is h = record { order = omega arith; within = omega (arith, is); differ = none_at kind xs; repeat = h }

pub found_at : (kind : KeyKind) (xs : List (Option Node)) (low high : ℕ) → Between kind xs low high → high ≤ low + 1 → IsFirstFailing (has_new_key kind xs) (length xs) (Some low)
found_at kind xs low high is near =
    let same : high ≡ low + 1 = omega (arith, near, is.order) in
    (omega (arith, is.order, is.within), ap (differ_to kind xs) (sym same) ∙ is.repeat, new_before kind xs low is.differ)

pub found_low : (test : ℕ → Bool) (n : ℕ) (found : Option ℕ) → n < 2 ^ 32 → IsFirstFailing test n found → IfSome found (λ x. x < 2 ^ 32)
found_low test n None lt h = tt
found_low test n (Some i) lt h = omega (arith, lt, h.0)

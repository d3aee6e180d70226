-- Private keys that are written back at their own leaf.
use Rattle.std.proofs.Common.{◌≡◌, List, ℕ, [], ◌∷◌, ◌++◌, Some, None, refl, ap}
use Rattle.mls_treekem_model.specs.Keys.{Keys, PrivateKeys, all_keys}
use Rattle.mls_model.specs.Member.{keys_above_leaf, leaf_key_or, with_keys}

pub above_end : (ks : Keys) (own : List ℕ) → keys_above_leaf (ks ++ (Some own ∷ [])) ≡ ks
unfolding keys_above_leaf
above_end [] own = refl
above_end (k ∷ []) own = refl
above_end (k ∷ (j ∷ ks)) own = ap (λ (xs : Keys). k ∷ xs) (above_end (j ∷ ks) own)

pub own_end : (first : List ℕ) (ks : Keys) (own : List ℕ) → leaf_key_or first (ks ++ (Some own ∷ [])) ≡ own
unfolding leaf_key_or
own_end first [] own = refl
own_end first (None ∷ ks) own = own_end first ks own
own_end first (Some k ∷ ks) own = own_end k ks own

-- all keys of a member at its leaf give that member's
pub with_all_keys : (old new : PrivateKeys) → new.leaf ≡ old.leaf → with_keys old (all_keys new) ≡ new
unfolding with_keys
with_all_keys old new e = rw (above_end new.above new.own, own_end old.own new.above new.own, ← e) refl

-- the leaf stays
pub leaf_stays : (old : PrivateKeys) (ks : Keys) → (with_keys old ks).leaf ≡ old.leaf
unfolding with_keys
leaf_stays old ks = refl

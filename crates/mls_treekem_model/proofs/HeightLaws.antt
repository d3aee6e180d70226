-- Keys by their height above the leaf.
use Rattle.std.proofs.Common.{◌≡◌, ℕ, suc, ◌≤◌, if◌then◌else◌, List, [], ◌∷◌, length, Option, Some, None, is_some, refl, ap, ap₂, ◌∙◌, arith, zero, ◌+◌, true, ◌++◌, reverse, sym, inl, inr, eq-eqb, ne_eqb}
use Rattle.mls_tree_model.specs.Term.{Term, leaf_at, Leaf, Branch, width, is_perfect}
use Rattle.mls_tree_model.specs.Way.{Step, way}
use Rattle.mls_treekem_model.specs.Keys.{Keys, HoldsDueKey, leaf_only, key_above, keys_on_way}
use Rattle.mls_treekem_model.specs.Follow.{follow, follow_edit}
use Rattle.mls_treekem_model.proofs.OnePassLaws.{along_length}
use Rattle.std.proofs.lemmas.Bool.{cond-true, cond-false, cases_lt, true≢false, and_parts}
use Rattle.std.proofs.lemmas.List.{reverse-append}
use Rattle.mls_tree_model.proofs.Equations.{way_leaf, way_left, way_right}
use Rattle.mls_treekem_model.specs.Laws.{EditIsFollow, ExactIsOnWay, LeafIsOnWay}

-- ---- a key with others above the leaf's

pub above_take : (n : ℕ) (o : Option (List ℕ)) (ks : Keys) → length ks ≡ n → key_above n (o ∷ ks) ≡ o
unfolding key_above
above_take n o ks e = cond-true _ _ _ (eq-eqb (length ks) n e)

pub above_pass : (n : ℕ) (o : Option (List ℕ)) (ks : Keys) → (length ks ≡ n → ⊥) → key_above n (o ∷ ks) ≡ key_above n ks
unfolding key_above
above_pass n o ks e = cond-false _ _ _ (ne_eqb (length ks) n e)

pub length-end : (xs : Keys) (o : Option (List ℕ)) → length (xs ++ (o ∷ [])) ≡ suc (length xs)
length-end [] o = refl
length-end (x ∷ xs) o = ap suc (length-end xs o)

pub own_above : (xs : Keys) (o : Option (List ℕ)) → key_above 0 (xs ++ (o ∷ [])) ≡ o
own_above [] o = above_take 0 o [] refl
own_above (x ∷ xs) o = above_pass 0 x (xs ++ (o ∷ [])) (λ e. absurd (omega (arith, length-end xs o))) ∙ own_above xs o

-- ---- keys read on a way

pub length-keys_on_way : (ss : List Step) (ks : Keys) → length (keys_on_way ss ks) ≡ suc (length ss)
unfolding keys_on_way
length-keys_on_way [] ks = refl
length-keys_on_way (s ∷ ss) ks = ap suc (length-keys_on_way ss ks)

-- ways of one length give the same keys
pub same_length : (ss ts : List Step) (ks : Keys) → length ss ≡ length ts → keys_on_way ss ks ≡ keys_on_way ts ks
unfolding keys_on_way
same_length [] [] ks e = refl
same_length [] (t ∷ ts) ks e = absurd (omega arith)
same_length (s ∷ ss) [] ks e = absurd (omega arith)
same_length (s ∷ ss) (t ∷ ts) ks e = let k : length ss ≡ length ts = omega arith in ap₂ (λ n zs. key_above (suc n) ks ∷ zs) k (same_length ss ts ks k)

pub way_height : (h b : ℕ) (t : Term) (j : ℕ) → is_perfect h t ≡ true → length (way b t j) ≡ h
unfolding is_perfect
way_height zero b (Leaf v) j e = ap length (way_leaf b v j)
way_height (suc h) b (Leaf v) j e = absurd (true≢false (sym e))
way_height zero b (Branch c l r) j e = absurd (true≢false (sym e))
way_height (suc h) b (Branch c l r) j e =
    let p = and_parts (is_perfect h l) (is_perfect h r) e in
    elim (cases_lt j (b + width l)) [
      | inl k ↦ ap length (way_left b c l r j k) ∙ ap suc (way_height h b l j p.0)
      | inr k ↦ ap length (way_right b c l r j k) ∙ ap suc (way_height h (b + width l) r j p.1)
    ]

pub reverse-end : {A : Type 0} (xs : List A) (x : A) → reverse (xs ++ (x ∷ [])) ≡ x ∷ reverse xs
reverse-end xs x = reverse-append xs (x ∷ [])

-- a key above all of a way is passed by
pub lower : (ss : List Step) (o : Option (List ℕ)) (ks : Keys) → suc (length ss) ≤ length ks → keys_on_way ss (o ∷ ks) ≡ keys_on_way ss ks
unfolding keys_on_way
lower [] o ks h = ap (λ z. z ∷ []) (above_pass 0 o ks (λ e. absurd (omega arith)))
lower (s ∷ ss) o ks h = ap₂ (λ z zs. z ∷ zs) (above_pass (suc (length ss)) o ks (λ e. absurd (omega arith))) (lower ss o ks (omega arith))

whole : (ss : List Step) (ks : Keys) → length ks ≡ suc (length ss) → keys_on_way ss ks ≡ ks
unfolding keys_on_way
whole [] [] e = absurd (omega arith)
whole [] (o ∷ []) e = ap (λ z. z ∷ []) (above_take 0 o [] refl)
whole [] (o ∷ p ∷ ks) e = absurd (omega arith)
whole (s ∷ ss) [] e = absurd (omega arith)
whole (s ∷ ss) (o ∷ ks) e = ap₂ (λ z zs. z ∷ zs) (above_take (suc (length ss)) o ks (omega arith)) (lower ss o ks (omega arith) ∙ whole ss ks (omega arith))

pub exact_is_on_way : ExactIsOnWay
exact_is_on_way c b t j ks h = whole (way b t j) ks (along_length c (HoldsDueKey c j) (way b t j) (leaf_at b t j) ks h)

pub leaf_is_on_way : LeafIsOnWay
unfolding keys_on_way leaf_only key_above
leaf_is_on_way [] k = refl
leaf_is_on_way (s ∷ ss) k = ap₂ (λ z zs. z ∷ zs) (above_pass (suc (length ss)) (Some k) [] (λ e. absurd (omega arith))) (leaf_is_on_way ss k)

pub edit_is_follow : EditIsFollow
unfolding follow_edit follow keys_on_way
edit_is_follow [] ks = refl
edit_is_follow (s ∷ ss) ks = ap (λ zs. (if is_some s.parent then key_above (suc (length ss)) ks else None) ∷ zs) (edit_is_follow ss ks)

-- Keys that differ from one another and from others.
use Rattle.std.proofs.Common.{◌≡◌, ℕ, zero, suc, ◌+◌, ◌==◌, nat_eq, Bool, true, false, not, ◌&&◌, ◌||◌, List, [], ◌∷◌, ◌++◌, refl, sym, ◌∙◌, ap, arith, inl, inr, ne_eqb, cond}
use Rattle.std.proofs.lemmas.Bool.{cases_Bool}
use Rattle.std.specs.List.{list_any}
use Rattle.std.specs.Cmp.Lexicographic.{pointwise}
use Rattle.mls_tree_model.specs.Sets.{same_bytes, count, is_distinct}
use Rattle.mls_tree_model.proofs.SetLaws.{same-pointwise}
use Rattle.mls_tree_model.proofs.CountLaws.{count-append}

not_none : (n : ℕ) → not (1 + n == 0) ≡ true
not_none n = ap not (ne_eqb (1 + n) 0 (λ e. absurd (omega arith)))

-- a search of a list tells whether a key is counted there
pub searched : (k : List ℕ) (ks : List (List ℕ)) → list_any (λ l. pointwise nat_eq l k) ks ≡ not (count same_bytes k ks == 0)
unfolding count
searched k [] = refl
searched k (l ∷ ks) =
    ap (λ v. v || list_any (λ l. pointwise nat_eq l k) ks) (same-pointwise l k)
    ∙ elim (cases_Bool (same_bytes l k)) [
      | inl same ↦ ap (λ v. v || list_any (λ l. pointwise nat_eq l k) ks) same ∙ sym (ap (λ v. not (cond v 1 0 + count same_bytes k ks == 0)) same ∙ not_none (count same_bytes k ks))
      | inr other ↦
          ap (λ v. v || list_any (λ l. pointwise nat_eq l k) ks) other
          ∙ searched k ks
          ∙ sym (ap (λ v. not (cond v 1 0 + count same_bytes k ks == 0)) other ∙ ap (λ n. not (n == 0)) (plain (count same_bytes k ks)))
    ]
  where
    plain : (n : ℕ) → 0 + n ≡ n
    plain n = omega arith

sum_none : (a b : ℕ) → (a + b == 0) ≡ (a == 0) && (b == 0)
sum_none zero b = let plain : zero + b ≡ b = omega arith in ap (λ n. n == 0) plain
sum_none (suc a) b = ne_eqb (suc a + b) 0 (λ e. absurd (omega arith)) ∙ sym (ap (λ v. v && (b == 0)) (ne_eqb (suc a) 0 (λ e. absurd (omega arith))))

none : (v : Bool) → not v ≡ false → v ≡ true
none true h = refl
none false h = sym h

some : (v : Bool) → not v ≡ true → v ≡ false
some true h = sym h
some false h = refl

-- one key more above some keys and others
module _ (k : List ℕ) (ks others : List (List ℕ)) where
  parts : is_distinct same_bytes (k ∷ (ks ++ others)) ≡ ((count same_bytes k ks == 0) && (count same_bytes k others == 0)) && is_distinct same_bytes (ks ++ others)
  unfolding is_distinct
  parts = ap (λ v. v && is_distinct same_bytes (ks ++ others)) (ap (λ n. n == 0) (count-append same_bytes k ks others) ∙ sum_none (count same_bytes k ks) (count same_bytes k others))

  pub both_new : false ≡ not (count same_bytes k ks == 0) → false ≡ not (count same_bytes k others == 0) → is_distinct same_bytes (ks ++ others) ≡ is_distinct same_bytes (k ∷ (ks ++ others))
  both_new a b =
      sym (parts
      ∙ ap (λ v. (v && (count same_bytes k others == 0)) && is_distinct same_bytes (ks ++ others)) (none (count same_bytes k ks == 0) (sym a))
      ∙ ap (λ v. v && is_distinct same_bytes (ks ++ others)) (none (count same_bytes k others == 0) (sym b)))

  pub first_again : true ≡ not (count same_bytes k ks == 0) → false ≡ is_distinct same_bytes (k ∷ (ks ++ others))
  first_again a = sym (parts ∙ ap (λ v. (v && (count same_bytes k others == 0)) && is_distinct same_bytes (ks ++ others)) (some (count same_bytes k ks == 0) (sym a)))

  pub others_have : true ≡ not (count same_bytes k others == 0) → false ≡ is_distinct same_bytes (k ∷ (ks ++ others))
  others_have b =
      sym (parts ∙ ap (λ v. ((count same_bytes k ks == 0) && v) && is_distinct same_bytes (ks ++ others)) (some (count same_bytes k others == 0) (sym b)) ∙ never (count same_bytes k ks == 0))
    where
      never : (v : Bool) → (v && false) && is_distinct same_bytes (ks ++ others) ≡ false
      never true = refl
      never false = refl

-- Which leaves may be listed, and lists whose numbers pass a test.
use Rattle.std.proofs.Common.{◌≡◌, ℕ, ◌+◌, ◌<◌, ◌≤◌, Bool, true, false, ◌&&◌, List, length, get_or, drop, refl, sym, ◌∙◌, ap, arith, lt-ltb, le-ltb}
use Rattle.std.specs.List.{list_all}
use Rattle.std.proofs.lemmas.Bool.{cond-true, cond-false, le-leb, lt-leb}
use Rattle.std.proofs.lemmas.List.{drop_more, drop_all}
use Rattle.mls_tree_model.specs.Term.{Term, width}
use Rattle.mls_tree_model.specs.Lists.{is_listed, may_be_listed}

-- ---- a leaf that a parent may list

module _ (b u : ℕ) (l r : Term) where
  pub below_all : u < b → may_be_listed b l r u ≡ false
  unfolding may_be_listed
  below_all low = rw (lt-leb b u low) refl

  pub above_all : b + (width l + width r) ≤ u → may_be_listed b l r u ≡ false
  unfolding may_be_listed
  above_all high = rw (le-leb b u (omega arith), le-ltb u (b + (width l + width r)) high) refl

  pub in_left : b ≤ u → u < b + width l → may_be_listed b l r u ≡ is_listed b l u
  unfolding may_be_listed
  in_left low high =
      rw (le-leb b u low, lt-ltb u (b + (width l + width r)) (omega arith)) (cond-true _ _ _ (lt-ltb u (b + width l) high))

  pub in_right : b + width l ≤ u → u < b + (width l + width r) → may_be_listed b l r u ≡ is_listed (b + width l) r u
  unfolding may_be_listed
  in_right low high =
      rw (le-leb b u (omega arith), lt-ltb u (b + (width l + width r)) high) (cond-false _ _ _ (le-ltb u (b + width l) low))

-- ---- each number of a list passes a test, from place i on

all_one_more : (p : ℕ → Bool) (xs : List ℕ) (i : ℕ) → i < length xs → list_all p (drop i xs) ≡ (p (get_or xs i 0) && list_all p (drop (i + 1) xs))
all_one_more p xs i lt = ap (list_all p) (drop_more xs i 0 lt)

pub all_refused : (p : ℕ → Bool) (xs : List ℕ) (i : ℕ) → i < length xs → p (get_or xs i 0) ≡ false → list_all p (drop i xs) ≡ false
all_refused p xs i lt fails = all_one_more p xs i lt ∙ rw fails refl

pub all_on : (p : ℕ → Bool) (xs : List ℕ) (i : ℕ) → i < length xs → p (get_or xs i 0) ≡ true → list_all p (drop (i + 1) xs) ≡ list_all p (drop i xs)
all_on p xs i lt passes = sym (all_one_more p xs i lt ∙ rw passes refl)

pub all_end : (p : ℕ → Bool) (xs : List ℕ) (i : ℕ) → length xs ≤ i → list_all p (drop i xs) ≡ true
all_end p xs i ge = ap (list_all p) (drop_all i xs ge)

-- What a chain of checks that is refused says of its steps.
use Rattle.std.proofs.Common.{◌≡◌, ℕ, ◌==◌, Bool, true, false, cond, ◌||◌, List, [], ◌∷◌, Option, Some, None, Result, Ok, Err, refl, ap, subst}
use Rattle.std.specs.List.{list_all}
use Rattle.std.proofs.lemmas.Bool.{and_parts}
use Rattle.std.proofs.Common.{eqb-true}
use Rattle.mls_wire.specs.Checks.{Passed, require, require_some, ◌>>◌}
use Rattle.mls_wire.specs.Reading.{◌>>=◌}
use Rattle.mls_tree_model.specs.Sets.{has}
use Rattle.mls_treekem_model.specs.Keys.{rest}

-- ---- one of some numbers

pub is_one : (ns : List ℕ) (m n : ℕ) → has ns m ≡ true → m ≡ n → has ns n ≡ true
is_one ns m n h e = subst (λ (k : ℕ). has ns k ≡ true) e h

pub widen : (ms ns : List ℕ) (n : ℕ) → list_all (has ns) ms ≡ true → has ms n ≡ true → has ns n ≡ true
unfolding has
widen [] ns n a h = absurd cc
widen (y ∷ ys) ns n a h = let b = and_parts (has ns y) (list_all (has ns) ys) a in by_same (y == n) refl h b.0 (widen ys ns n b.1)
  where
    by_same : (t : Bool) → (y == n) ≡ t → (t || has ys n) ≡ true → has ns y ≡ true → (has ys n ≡ true → has ns n ≡ true) → has ns n ≡ true
    by_same true e k here rest = is_one ns y n here (eqb-true y n e)
    by_same false e k here rest = rest k

-- ---- chains that are refused

pub bind_refused : {A B P : Type 0} (r : Result A ℕ) (f : A → Result B ℕ) (n : ℕ) → (r >>= f) ≡ Err n → (r ≡ Err n → P) → ((x : A) → f x ≡ Err n → P) → P
bind_refused (Ok x) f n h p q = q x h
bind_refused (Err m) f n h p q = let same : m ≡ n = cc in p (ap (λ (k : ℕ). Err k) same)

pub then_refused : {B P : Type 0} (r : Result Passed ℕ) (q : Result B ℕ) (n : ℕ) → (r >> q) ≡ Err n → (r ≡ Err n → P) → (q ≡ Err n → P) → P
then_refused (Ok x) q n h p t = t h
then_refused (Err m) q n h p t = let same : m ≡ n = cc in p (ap (λ (k : ℕ). Err k) same)

pub test_refused : {B P : Type 0} (m : ℕ) (b : Bool) (q : Result B ℕ) (n : ℕ) → (require m b >> q) ≡ Err n → (m ≡ n → P) → (q ≡ Err n → P) → P
test_refused m true q n h p t = t h
test_refused m false q n h p t = p cc

pub last_refused : (m : ℕ) (b : Bool) (n : ℕ) → require m b ≡ Err n → m ≡ n
last_refused m true n h = absurd cc
last_refused m false n h = cc

pub given_refused : {A : Type 0} (m : ℕ) (o : Option A) (n : ℕ) → require_some m o ≡ Err n → m ≡ n
given_refused m None n h = cc
given_refused m (Some x) n h = absurd cc

pub if_refused : {A P : Type 0} (b : Bool) (x y : Result A ℕ) (n : ℕ) → cond b x y ≡ Err n → (x ≡ Err n → P) → (y ≡ Err n → P) → P
if_refused true x y n h p q = p h
if_refused false x y n h p q = q h

-- One piece after another, and vectors that are fed an item at a time.
use Rattle.std.proofs.Common.{◌≡◌, ℕ, suc, ◌+◌, ◌*◌, ◌<◌, List, [], ◌∷◌, ◌++◌, length, get_or, take, Bool, true, false, cond, filter, append_assoc, append-nil, sym, subst, ap, ◌∙◌, refl, arith}
use Rattle.std.specs.List.{flat_map}
use Rattle.std.proofs.lemmas.List.{take_more, take_all, length-append}
use Rattle.std.proofs.lemmas.Grind.{flat_map-append}
use Rattle.mls_tree_hash.specs.declared.feed.Feed.{Feed}
use Rattle.mls_tree_hash.specs.Feeds.{Holds, Feeds}

pub feeds_then : {a b c : Feed} {x y : List ℕ} → Feeds a x b → Feeds b y c → Feeds a (x ++ y) c
feeds_then {a} {b} {c} {x} {y} p q = record {
  fed = λ text held. subst (λ (l : List ℕ). Holds c l) (append_assoc text x y) (q.fed (text ++ x) (p.fed text held));
}

pub feeds_nothing : {a : Feed} → Feeds a [] a
feeds_nothing {a} = record { fed = λ text held. subst (λ (l : List ℕ). Holds a l) (sym (append-nil text)) held }

pub ruleset feeding = (feeds_then, feeds_nothing)

-- ---- items in a loop

-- no item yet
pub feeds_first : {a b : Feed} {x : List ℕ} → Feeds a x b → Feeds a (x ++ []) b
feeds_first {a} {b} {x} h = subst (λ (l : List ℕ). Feeds a l b) (sym (append-nil x)) h

-- one item more
pub feeds_more : (x : List ℕ) (f : ℕ → List ℕ) (xs : List ℕ) (i : ℕ) {a b c : Feed} → i < length xs → Feeds a (x ++ flat_map f (take i xs)) b → Feeds b (f (get_or xs i 0)) c
    → Feeds a (x ++ flat_map f (take (i + 1) xs)) c
feeds_more x f xs i {a} {b} {c} lt p q =
    let more : flat_map f (take (i + 1) xs) ≡ flat_map f (take i xs) ++ f (get_or xs i 0) =
    ap (flat_map f) (take_more xs i 0 lt) ∙ flat_map-append f (take i xs) (get_or xs i 0 ∷ []) ∙ ap (λ (l : List ℕ). flat_map f (take i xs) ++ l) (append-nil (f (get_or xs i 0))) in
    subst (λ (l : List ℕ). Feeds a l c) (append_assoc x (flat_map f (take i xs)) (f (get_or xs i 0)) ∙ ap (λ (l : List ℕ). x ++ l) (sym more)) (feeds_then p q)

-- all items, behind the header of their length
pub feeds_all : (header f : ℕ → List ℕ) (xs : List ℕ) (n i : ℕ) {a b : Feed} → n ≡ length (flat_map f xs) → length xs ≡ i → Feeds a (header n ++ flat_map f (take i xs)) b
    → Feeds a (header (length (flat_map f xs)) ++ flat_map f xs) b
feeds_all header f xs n i {a} {b} e all h =
    subst (λ (l : List ℕ). Feeds a l b) (ap (λ (k : ℕ). header k ++ flat_map f (take i xs)) e ∙ ap (λ (l : List ℕ). header (length (flat_map f xs)) ++ flat_map f l) (take_all i xs (omega arith))) h

-- items of one length
pub length-flat_map : (f : ℕ → List ℕ) (k : ℕ) (xs : List ℕ) → ((x : ℕ) → length (f x) ≡ k) → k * length xs ≡ length (flat_map f xs)
length-flat_map f k [] same = omega arith
length-flat_map f k (x ∷ xs) same = omega (arith, length-append (f x) (flat_map f xs), same x, length-flat_map f k xs same, mul_more k (length xs))
  where
    mul_more : (k n : ℕ) → k * suc n ≡ k + k * n
    mul_more k n = grind arith

-- ---- items that pass a test

one_kept : (b : Bool) (f : ℕ → List ℕ) (x : ℕ) (ys : List ℕ) → flat_map f (cond b (x ∷ []) []) ++ flat_map f ys ≡ flat_map f (cond b (x ∷ ys) ys)
one_kept true f x ys = ap (λ (l : List ℕ). l ++ flat_map f ys) (append-nil (f x))
one_kept false f x ys = refl

-- each item on its own, or not at all
pub flat_map-kept : (p : ℕ → Bool) (f : ℕ → List ℕ) (xs : List ℕ) → flat_map (λ x. flat_map f (filter p (x ∷ []))) xs ≡ flat_map f (filter p xs)
flat_map-kept p f [] = refl
flat_map-kept p f (x ∷ xs) = ap (λ (l : List ℕ). flat_map f (cond (p x) (x ∷ []) []) ++ l) (flat_map-kept p f xs) ∙ one_kept (p x) f x (filter p xs)

filter-append : (p : ℕ → Bool) (xs ys : List ℕ) → filter p (xs ++ ys) ≡ filter p xs ++ filter p ys
filter-append p [] ys = refl
filter-append p (x ∷ xs) ys = ap (λ (l : List ℕ). cond (p x) (x ∷ l) l) (filter-append p xs ys) ∙ in_front (p x) x (filter p xs) (filter p ys)
  where
    in_front : (b : Bool) (x : ℕ) (l r : List ℕ) → cond b (x ∷ (l ++ r)) (l ++ r) ≡ cond b (x ∷ l) l ++ r
    in_front true x l r = refl
    in_front false x l r = refl

-- how many pass, one item further
pub kept_more : (p : ℕ → Bool) (xs : List ℕ) (i : ℕ) → i < length xs → p (get_or xs i 0) ≡ true → length (filter p (take (i + 1) xs)) ≡ length (filter p (take i xs)) + 1
kept_more p xs i lt e =
    rw (take_more xs i 0 lt, filter-append p (take i xs) (get_or xs i 0 ∷ []), e) (length-append (filter p (take i xs)) (get_or xs i 0 ∷ []))

pub left_more : (p : ℕ → Bool) (xs : List ℕ) (i : ℕ) → i < length xs → p (get_or xs i 0) ≡ false → length (filter p (take (i + 1) xs)) ≡ length (filter p (take i xs))
left_more p xs i lt e =
    rw (take_more xs i 0 lt, filter-append p (take i xs) (get_or xs i 0 ∷ []), e) (ap length (append-nil (filter p (take i xs))))

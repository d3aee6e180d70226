-- Keys that a path makes, put at the heights of their nodes.
use Rattle.std.proofs.Common.{◌≡◌, ℕ, zero, suc, ◌+◌, ◌-◌, ◌*◌, ◌^◌, ◌<◌, ◌≤◌, nat_lt, Bool, true, false, if◌then◌else◌, List, [], ◌∷◌, ◌++◌, length, map, filter, reverse, replicate, unwrap_or, Option, Some, None, refl, sym, subst, ◌∙◌, ap, ap₂, inl, inr, arith, append-nil, append_assoc, length-append, lt-ltb, le-ltb}
use Rattle.std.proofs.lemmas.Bool.{true≢false, and_parts, cases_lt, cases_eq, cond-true, cond-false}
use Rattle.std.proofs.lemmas.List.{length-reverse, length-replicate, reverse-append, map-append}
use Rattle.mls_suite.specs.Crypto.{Crypto}
use Rattle.mls_suite.specs.declared.KeyPair.{KeyPair}
use Rattle.mls_tree_model.specs.Way.{is_filtered, filtered_way, filtered_path, Step, way}
use Rattle.mls_treekem_model.specs.Chain.{chain, path_secrets, node_key}
use Rattle.mls_treekem_model.specs.Keys.{Keys, PrivateKeys, key_above, keys_on_way}
use Rattle.mls_treekem_model.specs.Make.{one_if, filtered_count, secret_above, key_if, made_keys, HasMade}
use Rattle.mls_treekem.specs.Secrets.{ArePairsOf}
use Rattle.mls_treekem.specs.KeysAtHeights.{level_of, with_key_at, with_keys_at, HasKeysAt}
use Rattle.mls_treekem_model.proofs.OnePassLaws.{no_key_above}
use Rattle.mls_treekem_model.proofs.HeightLaws.{lower, way_height, above_take, above_pass, length-end, reverse-end}
use Rattle.mls_treemath.specs.Paths.{Path, nodes_in, path_to, longer}
use Rattle.mls_treemath.specs.Steps.{level_in, height_left}
use Rattle.mls_treemath.proofs.Ways.{path_left, path_root, path_right}
use Rattle.mls_tree_model.specs.Term.{Term, Leaf, Branch, width, size, is_perfect}
use Rattle.mls_tree_model.proofs.Equations.{way_leaf, way_left, way_right}
use Rattle.mls_tree_model.proofs.ShapeLaws.{size-width}
use Rattle.mls_tree_model.proofs.ArrayLaws.{size-perfect, nodes_in-leaves}
use Rattle.mls_tree_model.proofs.PathLaws.{reverse-cons}

-- node n has level k in a perfect tree of height h whose first leaf is b
record HasLevel (h b n k : ℕ) : Type 0 where
  place : ℕ
  is : n ≡ 2 * b + place
  within : place < nodes_in h
  level : level_in h place ≡ Some k

left_level : (h : ℕ) (o : Option Path) (k : ℕ) → height_left h o ≡ Some k → height_left (suc h) (longer false o) ≡ Some k
unfolding height_left longer
left_level h None k e = e
left_level h (Some p) k e = ap Some (let z : suc h - suc (length p) ≡ h - length p = omega arith in z) ∙ e

right_level : (h : ℕ) (o : Option Path) (k : ℕ) → height_left h o ≡ Some k → height_left (suc h) (longer true o) ≡ Some k
unfolding height_left longer
right_level h None k e = e
right_level h (Some p) k e = ap Some (let z : suc h - suc (length p) ≡ h - length p = omega arith in z) ∙ e

on_left : (h b n k : ℕ) → HasLevel h b n k → HasLevel (suc h) b n k
unfolding level_in nodes_in
on_left h b n k l =
    let low = l.within in
    record { place = l.place; is = l.is; within = omega arith; level = ap (height_left (suc h)) (path_left h l.place l.within) ∙ left_level h (path_to h l.place) k l.level }

on_right : (h b m n k : ℕ) → 2 * m ≡ 2 * b + suc (nodes_in h) → HasLevel h m n k → HasLevel (suc h) b n k
unfolding level_in nodes_in
on_right h b m n k e l =
    let low = l.within in
    let at = l.is in
    let y : ℕ = suc (nodes_in h) + l.place in
    record {
      place = y;
      is = omega arith;
      within = omega arith;
      level =
          ap (height_left (suc h)) (path_right h y (omega arith) ∙ ap (λ z. longer true (path_to h z)) (let z : y - suc (nodes_in h) ≡ l.place = omega arith in z))
          ∙ right_level h (path_to h l.place) k l.level;
    }

on_root : (h b n : ℕ) → n ≡ 2 * b + nodes_in h → HasLevel (suc h) b n (suc h)
unfolding level_in height_left nodes_in
on_root h b n e =
    record { place = nodes_in h; is = e; within = omega arith; level = ap (height_left (suc h)) (path_root h (nodes_in h) refl) ∙ ap Some (let z : suc h - 0 ≡ suc h = omega arith in z) }

-- each node of a way has the level of its place on it
unfoldable HaveLevels : ℕ → ℕ → List Step → Type 0
HaveLevels h b [] = Unit {0}
HaveLevels h b (s ∷ ss) = HasLevel h b s.node (suc (length ss)) × HaveLevels h b ss

all_left : (h b : ℕ) (ss : List Step) → HaveLevels h b ss → HaveLevels (suc h) b ss
unfolding HaveLevels
all_left h b [] l = tt
all_left h b (s ∷ ss) l = (on_left h b s.node (suc (length ss)) l.0, all_left h b ss l.1)

all_right : (h b m : ℕ) (ss : List Step) → 2 * m ≡ 2 * b + suc (nodes_in h) → HaveLevels h m ss → HaveLevels (suc h) b ss
unfolding HaveLevels
all_right h b m [] e l = tt
all_right h b m (s ∷ ss) e l = (on_right h b m s.node (suc (length ss)) e l.0, all_right h b m ss e l.1)

have_levels : (h b : ℕ) (t : Term) (i : ℕ) → is_perfect h t ≡ true → HaveLevels h b (way b t i)
unfolding is_perfect HaveLevels
have_levels zero b (Leaf v) i e = rw (way_leaf b v i) tt
have_levels (suc h) b (Leaf v) i e = absurd (true≢false (sym e))
have_levels zero b (Branch c l r) i e = absurd (true≢false (sym e))
have_levels (suc h) b (Branch c l r) i e =
    let p = and_parts (is_perfect h l) (is_perfect h r) e in
    let s = size-perfect h l p.0 in
    let w = size-width l in
    elim (cases_lt i (b + width l)) [
      | inl k ↦
          rw (way_left b c l r i k, way_height h b l i p.0) (on_root h b (2 * b + size l) (ap (λ n. 2 * b + n) s), all_left h b (way b l i) (have_levels h b l i p.0))
      | inr k ↦
          rw (way_right b c l r i k, way_height h (b + width l) r i p.1) (on_root h b (2 * b + size l) (ap (λ n. 2 * b + n) s), all_right h b (b + width l) (way (b + width l) r i) (omega arith) (have_levels h (b + width l) r i p.1))
    ]

-- in a higher tree that begins at the same leaf
higher : (m h b n k : ℕ) → HasLevel h b n k → HasLevel (m + h) b n k
higher zero h b n k l = subst (λ g. HasLevel g b n k) (let z : h ≡ 0 + h = omega arith in z) l
higher (suc m) h b n k l = subst (λ g. HasLevel g b n k) (let z : suc (m + h) ≡ suc m + h = omega arith in z) (on_left (m + h) b n k (higher m h b n k l))

level_is : (h n k : ℕ) → h ≤ 32 → HasLevel h 0 n k → level_of n ≡ k
level_is h n k low l =
    let up : HasLevel 32 0 n k = subst (λ g. HasLevel g 0 n k) (let z : (32 - h) + h ≡ 32 = omega arith in z) (higher (32 - h) h 0 n k l) in
    let at : n ≡ up.place = let e = up.is in omega arith in
    ap (λ x. unwrap_or (level_in 32 x) 0) at ∙ ap (λ o. unwrap_or o 0) up.level

-- ---- what the keys are on a way

above_none : (n : ℕ) (ks : Keys) → key_above n (None ∷ ks) ≡ key_above n ks
above_none n ks = elim (cases_eq (length ks) n) [
  | inl e ↦ above_take n None ks e ∙ sym (no_key_above n ks (omega arith))
  | inr ne ↦ above_pass n None ks ne
]

on_way_none : (ss : List Step) (ks : Keys) → keys_on_way ss (None ∷ ks) ≡ keys_on_way ss ks
unfolding keys_on_way
on_way_none [] ks = ap (λ o. o ∷ []) (above_none 0 ks)
on_way_none (s ∷ ss) ks = ap₂ (λ o os. o ∷ os) (above_none (suc (length ss)) ks) (on_way_none ss ks)

on_way_nones : (ss : List Step) (n : ℕ) (ks : Keys) → keys_on_way ss (reverse (replicate n None) ++ ks) ≡ keys_on_way ss ks
on_way_nones ss zero ks = refl
on_way_nones ss (suc n) ks =
    ap (λ xs. keys_on_way ss (xs ++ ks)) (reverse-cons None (replicate n None))
    ∙ ap (keys_on_way ss) (append_assoc (reverse (replicate n None)) (None ∷ []) ks)
    ∙ on_way_nones ss n (None ∷ ks)
    ∙ on_way_none ss ks

module _ (c : Crypto) (start own : List ℕ) where
  -- keys by height are the committer's on a way
  record Raises (ss : List Step) (xs : Keys) : Type 0 where
    low : length xs ≤ length ss
    keys : keys_on_way ss (reverse xs ++ (Some own ∷ [])) ≡ made_keys c ss start own

  raises_none : Raises [] []
  unfolding keys_on_way made_keys
  raises_none = record { low = omega arith; keys = ap (λ o. o ∷ []) (above_take 0 (Some own) [] refl) }

  unfiltered : (s : Step) (ss : List Step) (xs : Keys) → is_filtered s ≡ false → Raises ss xs → Raises (s ∷ ss) xs
  unfolding keys_on_way made_keys
  unfiltered s ss xs not_in r =
      let low : length xs ≤ length ss = r.low in
      let l : length (reverse xs ++ (Some own ∷ [])) ≡ suc (length xs) = length-end (reverse xs) (Some own) ∙ ap suc (length-reverse xs) in
      record {
        low = omega arith;
        keys = ap₂ (λ o os. o ∷ os) (no_key_above (suc (length ss)) _ (omega arith) ∙ sym (ap (λ b. key_if b (node_key c (secret_above ss start))) not_in)) r.keys;
      }

  is_raised : (h : ℕ) (k : List ℕ) (xs : Keys) → length xs ≤ h → with_key_at (suc h) k xs ≡ (xs ++ replicate (h - length xs) None) ++ (Some k ∷ [])
  unfolding with_key_at
  is_raised h k xs low =
      cond-true _ _ _ (lt-ltb (length xs) (suc h) (omega arith))
      ∙ ap (λ n. xs ++ (replicate n None ++ (Some k ∷ []))) (let z : suc h - 1 - length xs ≡ h - length xs = omega arith in z)
      ∙ sym (append_assoc xs (replicate (h - length xs) None) (Some k ∷ []))

  filtered_one : (s : Step) (ss : List Step) (xs : Keys) → is_filtered s ≡ true → Raises ss xs → Raises (s ∷ ss) (with_key_at (suc (length ss)) (node_key c (secret_above ss start)) xs)
  unfolding keys_on_way made_keys
  filtered_one s ss xs is_in r =
      let low : length xs ≤ length ss = r.low in
      let k : List ℕ = node_key c (secret_above ss start) in
      let n : ℕ = length ss - length xs in
      let padded : Keys = xs ++ replicate n None in
      let zs : Keys = reverse padded ++ (Some own ∷ []) in
      let len : length padded ≡ length ss = length-append xs (replicate n None) ∙ ap (λ m. length xs + m) (length-replicate n None) ∙ (let z : length xs + n ≡ length ss = omega arith in z) in
      let lz : length zs ≡ suc (length ss) = length-end (reverse padded) (Some own) ∙ ap suc (length-reverse padded ∙ len) in
      let whole : reverse (with_key_at (suc (length ss)) k xs) ++ (Some own ∷ []) ≡ Some k ∷ zs =
      ap (λ ys. reverse ys ++ (Some own ∷ [])) (is_raised (length ss) k xs low) ∙ ap (λ ys. ys ++ (Some own ∷ [])) (reverse-end padded (Some k)) in
      let rest : keys_on_way ss zs ≡ made_keys c ss start own =
      ap (λ ys. keys_on_way ss (ys ++ (Some own ∷ []))) (reverse-append xs (replicate n None))
      ∙ ap (keys_on_way ss) (append_assoc (reverse (replicate n None)) (reverse xs) (Some own ∷ []))
      ∙ on_way_nones ss n (reverse xs ++ (Some own ∷ [])) ∙ r.keys in
      record {
        low = let e : length (with_key_at (suc (length ss)) k xs) ≡ suc (length padded) = ap length (is_raised (length ss) k xs low) ∙ length-end padded (Some k) in omega arith;
        keys =
            ap (keys_on_way (s ∷ ss)) whole
            ∙ ap₂ (λ o os. o ∷ os) (above_take (suc (length ss)) (Some k) zs lz ∙ sym (ap (λ b. key_if b k) is_in)) (lower ss (Some k) zs (omega arith) ∙ rest);
      }

  -- ---- all of a filtered direct path

  raised_more : (n : ℕ) (k : List ℕ) (ns : List ℕ) (ks : List (List ℕ)) (xs : Keys) → length ns ≡ length ks → with_keys_at (ns ++ (n ∷ [])) (ks ++ (k ∷ [])) xs ≡ with_key_at (level_of n) k (with_keys_at ns ks xs)
  unfolding with_keys_at
  raised_more n k [] [] xs e = refl
  raised_more n k [] (l ∷ ks) xs e = absurd (omega arith)
  raised_more n k (m ∷ ns) [] xs e = absurd (omega arith)
  raised_more n k (m ∷ ns) (l ∷ ks) xs e = raised_more n k ns ks (with_key_at (level_of m) l xs) (omega arith)

  nodes_of : List Step → List ℕ
  nodes_of ss = reverse (map (λ s. s.node) (filter is_filtered ss))

  keys_of : ℕ → List (List ℕ)
  keys_of n = map (node_key c) (path_secrets start n)

  keys_more : (n : ℕ) → keys_of (suc n) ≡ keys_of n ++ (node_key c (chain start n) ∷ [])
  unfolding keys_of path_secrets
  keys_more n = map-append (node_key c) (path_secrets start n) (chain start n ∷ [])

  length-keys : (n : ℕ) → length (keys_of n) ≡ n
  unfolding keys_of path_secrets
  length-keys zero = refl
  length-keys (suc n) = ap length (keys_more n) ∙ length-append (keys_of n) (node_key c (chain start n) ∷ []) ∙ (let e = length-keys n in let z : length (keys_of n) + 1 ≡ suc n = omega arith in z)

  record Made (ss : List Step) : Type 0 where
    count : length (nodes_of ss) ≡ filtered_count ss
    raises : Raises ss (with_keys_at (nodes_of ss) (keys_of (filtered_count ss)) [])

  made_step : (s : Step) (ss : List Step) (b : Bool) → is_filtered s ≡ b → level_of s.node ≡ suc (length ss) → Made ss → Made (s ∷ ss)
  unfolding nodes_of filtered_count
  made_step s ss false not_in l m =
      let same : nodes_of (s ∷ ss) ≡ nodes_of ss = ap (λ b. reverse (map (λ s. s.node) (if b then s ∷ filter is_filtered ss else filter is_filtered ss))) not_in in
      let n : filtered_count (s ∷ ss) ≡ filtered_count ss = ap (λ b. one_if b (filtered_count ss)) not_in in
      record {
        count = ap length same ∙ m.count ∙ sym n;
        raises = subst (λ xs. Raises (s ∷ ss) xs) (sym (ap₂ (λ ns k. with_keys_at ns (keys_of k) []) same n)) (unfiltered s ss _ not_in m.raises);
      }
  made_step s ss true is_in l m =
      let k : List ℕ = node_key c (secret_above ss start) in
      let more : nodes_of (s ∷ ss) ≡ nodes_of ss ++ (s.node ∷ []) = ap (λ b. reverse (map (λ s. s.node) (if b then s ∷ filter is_filtered ss else filter is_filtered ss))) is_in ∙ reverse-cons s.node (map (λ s. s.node) (filter is_filtered ss)) in
      let n : filtered_count (s ∷ ss) ≡ suc (filtered_count ss) = ap (λ b. one_if b (filtered_count ss)) is_in in
      let xs : Keys = with_keys_at (nodes_of ss) (keys_of (filtered_count ss)) [] in
      let is : with_keys_at (nodes_of (s ∷ ss)) (keys_of (filtered_count (s ∷ ss))) [] ≡ with_key_at (suc (length ss)) k xs =
      ap₂ (λ ns ks. with_keys_at ns ks []) more (ap keys_of n ∙ keys_more (filtered_count ss))
      ∙ raised_more s.node k (nodes_of ss) (keys_of (filtered_count ss)) [] (m.count ∙ sym (length-keys (filtered_count ss)))
      ∙ ap (λ h. with_key_at h k xs) l in
      record {
        count = ap length more ∙ length-append (nodes_of ss) (s.node ∷ []) ∙ (let e = m.count in let z : length (nodes_of ss) + 1 ≡ suc (filtered_count ss) = omega arith in z) ∙ sym n;
        raises = subst (λ ys. Raises (s ∷ ss) ys) (sym is) (filtered_one s ss xs is_in m.raises);
      }

  made_all : (h : ℕ) (ss : List Step) → h ≤ 32 → HaveLevels h 0 ss → Made ss
  unfolding HaveLevels nodes_of filtered_count with_keys_at
  made_all h [] low l = record { count = refl; raises = raises_none }
  made_all h (s ∷ ss) low l = made_step s ss (is_filtered s) refl (level_is h s.node (suc (length ss)) low l.0) (made_all h ss low l.1)

-- ---- what a call makes

module _ (c : Crypto) (start : List ℕ) (filtered : List ℕ) (p q : PrivateKeys) (pairs qs : List KeyPair) (xs ys : Keys) (are : ArePairsOf c (path_secrets start (length filtered)) pairs) (same : qs ≡ pairs) (none : ys ≡ []) (raise : xs ≡ with_keys_at filtered (map (λ p. p.sk) qs) ys) where
  raises_made : (h : ℕ) (t : Term) → is_perfect h t ≡ true → h ≤ 32 → filtered ≡ filtered_path 0 t p.leaf → Raises c start p.own (way 0 t p.leaf) xs
  unfolding filtered_path filtered_way nodes_of filtered_count keys_of made_keys
  raises_made h t perfect low path =
      let ss : List Step = way 0 t p.leaf in
      let m : Made c start p.own ss = made_all c start p.own h ss low (have_levels h 0 t p.leaf perfect) in
      let count : length filtered ≡ filtered_count ss = ap length path ∙ m.count in
      let keys : map (λ p. p.sk) qs ≡ keys_of c start p.own (filtered_count ss) = ap (map (λ p. p.sk)) same ∙ are.private ∙ ap (λ n. map (node_key c) (path_secrets start n)) count in
      let is : xs ≡ with_keys_at (nodes_of c start p.own ss) (keys_of c start p.own (filtered_count ss)) [] =
      raise ∙ ap₂ (λ ns ks. with_keys_at ns ks ys) path keys ∙ ap (with_keys_at (nodes_of c start p.own ss) (keys_of c start p.own (filtered_count ss))) none in
      subst (λ zs. Raises c start p.own ss zs) (sym is) m.raises

  pub raised_is : q.leaf ≡ p.leaf → q.own ≡ p.own → q.above ≡ reverse xs → HasKeysAt c start filtered p q
  raised_is leaf own above =
      let keys : map (λ p. p.sk) qs ≡ map (node_key c) (path_secrets start (length filtered)) = ap (map (λ p. p.sk)) same ∙ are.private in
      record { leaf = leaf; own = own; above = above ∙ ap reverse (raise ∙ ap₂ (with_keys_at filtered) keys none) }

  pub has_made : q.leaf ≡ p.leaf → q.own ≡ p.own → q.above ≡ reverse xs → HasMade c start filtered p q
  has_made leaf own above =
      record {
        leaf = leaf;
        own = own;
        keys = λ h t perfect low path. ap₂ (λ a o. keys_on_way (way 0 t p.leaf) (a ++ (Some o ∷ []))) above own ∙ (raises_made h t perfect low path).keys;
        low = λ h t perfect low path.
            let r : Raises c start p.own (way 0 t p.leaf) xs = raises_made h t perfect low path in
            let short : length xs ≤ length (way 0 t p.leaf) = r.low in
            let high : length (way 0 t p.leaf) ≡ h = way_height h 0 t p.leaf perfect in
            let long : length q.above ≡ length xs = ap length above ∙ length-reverse xs in
            omega arith;
      }

length-with_key_at : (h : ℕ) (k : List ℕ) (xs : Keys) (n : ℕ) → h ≤ n → length xs ≤ n → length (with_key_at h k xs) ≤ n
unfolding with_key_at
length-with_key_at h k xs n a b = elim (cases_lt (length xs) h) [
  | inl lt ↦
      let m : ℕ = h - 1 - length xs in
      let e : length (with_key_at h k xs) ≡ length xs + (m + 1) =
      ap length (cond-true _ _ _ (lt-ltb (length xs) h lt)) ∙ length-append xs _ ∙ ap (λ z. length xs + z) (length-append (replicate m None) (Some k ∷ []) ∙ ap (λ z. z + 1) (length-replicate m None)) in
      omega arith
  | inr ge ↦ rw (cond-false (nat_lt (length xs) h) (xs ++ (replicate (h - 1 - length xs) None ++ (Some k ∷ []))) xs (le-ltb (length xs) h ge)) b
]

level_low : (n : ℕ) → level_of n ≤ 32
unfolding level_in height_left
level_low n = low (path_to 32 n)
  where
    low : (o : Option Path) → unwrap_or (height_left 32 o) 0 ≤ 32
    low None = omega arith
    low (Some p) = let z : 32 - length p ≤ 32 = omega arith in z

pub length-with_keys_at : (ns : List ℕ) (ks : List (List ℕ)) (xs : Keys) → length xs ≤ 32 → length (with_keys_at ns ks xs) ≤ 32
unfolding with_keys_at
length-with_keys_at [] ks xs low = low
length-with_keys_at (n ∷ ns) [] xs low = low
length-with_keys_at (n ∷ ns) (k ∷ ks) xs low = length-with_keys_at ns ks (with_key_at (level_of n) k xs) (length-with_key_at (level_of n) k xs 32 (level_low n) low)

pub below_32 : (n : ℕ) → n < 2 ^ 32 → n < nodes_in 32
below_32 n lt = let e = nodes_in-leaves 32 in omega arith

pub no_more : (xs : Keys) (n : ℕ) → n ≡ 0 → xs ≡ xs ++ replicate n None
no_more xs n e = sym (ap (λ k. xs ++ replicate k None) e ∙ append-nil xs)

pub one_more : (xs ys : Keys) (n : ℕ) → (n ≡ 0 → ⊥) → ys ≡ xs ++ (None ∷ []) → ys ++ replicate (n - 1) None ≡ xs ++ replicate n None
one_more xs ys n ne e =
    ap (λ z. z ++ replicate (n - 1) None) e ∙ append_assoc xs (None ∷ []) (replicate (n - 1) None)
    ∙ ap (λ k. xs ++ replicate k None) (let z : suc (n - 1) ≡ n = omega arith in z)

pub not_raised : (h : ℕ) (k : List ℕ) (xs : Keys) (n : ℕ) → n ≡ length xs → h ≤ n → xs ≡ with_key_at h k xs
unfolding with_key_at
not_raised h k xs n e ge = sym (cond-false _ _ _ (le-ltb (length xs) h (omega arith)))

pub now_raised : (h : ℕ) (k : List ℕ) (xs ys zs : Keys) (n : ℕ) → n ≡ length xs → n < h → ys ≡ xs ++ replicate (h - 1 - n) None → zs ≡ ys ++ (Some k ∷ []) → zs ≡ with_key_at h k xs
unfolding with_key_at
now_raised h k xs ys zs n e lt pad last =
    last ∙ ap (λ w. w ++ (Some k ∷ [])) (pad ∙ ap (λ m. xs ++ replicate (h - 1 - m) None) e)
    ∙ append_assoc xs (replicate (h - 1 - length xs) None) (Some k ∷ [])
    ∙ sym (cond-true _ _ _ (lt-ltb (length xs) h (omega arith)))

-- of all nodes: the first of them, and none
pub raise_first : (n : ℕ) (ns all : List ℕ) (p : KeyPair) (ps pairs : List KeyPair) (xs ys : Keys) (h : ℕ) → all ≡ n ∷ ns → pairs ≡ p ∷ ps → h ≡ level_of n → ys ≡ with_key_at h p.sk xs → with_keys_at ns (map (λ p. p.sk) ps) ys ≡ with_keys_at all (map (λ p. p.sk) pairs) xs
unfolding with_keys_at
raise_first n ns all p ps pairs xs ys h e f g is =
    ap (with_keys_at ns (map (λ p. p.sk) ps)) (is ∙ ap (λ k. with_key_at k p.sk xs) g)
    ∙ sym (ap₂ (λ a b. with_keys_at a (map (λ p. p.sk) b) xs) e f)

pub raise_none : (all : List ℕ) (pairs : List KeyPair) (xs : Keys) → all ≡ [] → xs ≡ with_keys_at all (map (λ p. p.sk) pairs) xs
unfolding with_keys_at
raise_none all pairs xs e = sym (ap (λ a. with_keys_at a (map (λ p. p.sk) pairs) xs) e)

pub raise_no_pair : (all : List ℕ) (pairs : List KeyPair) (xs : Keys) → pairs ≡ [] → xs ≡ with_keys_at all (map (λ p. p.sk) pairs) xs
unfolding with_keys_at
raise_no_pair [] pairs xs e = refl
raise_no_pair (n ∷ ns) pairs xs e = sym (ap (λ b. with_keys_at (n ∷ ns) (map (λ p. p.sk) b) xs) e)

pub made_low : (ns : List ℕ) (ks : List (List ℕ)) (xs ys : Keys) → xs ≡ with_keys_at ns ks ys → ys ≡ [] → length xs ≤ 32
made_low ns ks xs ys e none = subst (λ z. length z ≤ 32) (sym (e ∙ ap (with_keys_at ns ks) none)) (length-with_keys_at ns ks [] (omega arith))

-- Laws of the cells of a subtree among those of a whole tree, and of lists in which they are replaced.
use Rattle.std.proofs.Common.{◌≡◌, ℕ, suc, ◌+◌, ◌-◌, ◌*◌, ◌^◌, ◌<◌, ◌≤◌, List, [], ◌∷◌, ◌++◌, length, get_or, take, drop, set, refl, sym, ◌∙◌, ap, subst, arith, length-append, length-drop, append_assoc, append-nil}
use Rattle.std.proofs.lemmas.List.{take_at, drop_at, set_at, set_split, take_all, take-take, take-append-drop, drop-drop, drop-take, drop_more, drop_all, length-take-le, get_or-take, get_or-drop, get_or_append_left}
use Rattle.mls_treemath.specs.Paths.{nodes_in}
use Rattle.mls_treemath.proofs.Sizes.{nodes_in-zero, nodes_in-suc, nodes_in-pow}
use Rattle.mls_tree_model.proofs.ArrayLaws.{nodes_in-leaves}
use Rattle.mls_tree_array.specs.Spans.{part, splice}

-- ---- a list in pieces

-- what stands before place a, n elements from there on, and the rest
pub in_pieces : {A : Type 0} (a n : ℕ) (xs : List A) → xs ≡ take a xs ++ (take n (drop a xs) ++ drop (a + n) xs)
in_pieces a n xs =
    sym (take-append-drop a xs)
    ∙ ap (λ ys. take a xs ++ ys) (sym (take-append-drop n (drop a xs)))
    ∙ ap (λ ys. take a xs ++ (take n (drop a xs) ++ ys)) (drop-drop n a xs)

module _ {A : Type 0} (p m q : List A) (a n : ℕ) (front : length p ≡ a) (middle : length m ≡ n) where
  pub middle_at : take n (drop a (p ++ (m ++ q))) ≡ m
  middle_at = ap (take n) (drop_at p (m ++ q) a front) ∙ take_at m q n middle

  pub rest_at : drop (a + n) (p ++ (m ++ q)) ≡ q
  rest_at = ap (drop (a + n)) (sym (append_assoc p m q)) ∙ drop_at (p ++ m) q (a + n) (simp length-append (omega arith))

  pub replaced_at : (ys : List A) → length ys ≡ n → take a (p ++ (m ++ q)) ++ (ys ++ drop (a + length ys) (p ++ (m ++ q))) ≡ p ++ (ys ++ q)
  replaced_at ys long =
      ap (λ zs. zs ++ (ys ++ drop (a + length ys) (p ++ (m ++ q)))) (take_at p (m ++ q) a front)
      ∙ ap (λ k. p ++ (ys ++ drop (a + k) (p ++ (m ++ q)))) long
      ∙ ap (λ zs. p ++ (ys ++ zs)) rest_at

-- an element in the middle is set
pub middle_set : {A : Type 0} (p l r q : List A) (x y : A) (n : ℕ) → length p + length l ≡ n → set (p ++ ((l ++ (x ∷ r)) ++ q)) n y ≡ p ++ (l ++ (y ∷ (r ++ q)))
middle_set p l r q x y n at =
    ap (λ zs. set (p ++ zs) n y) (append_assoc l (x ∷ r) q)
    ∙ ap (λ zs. set zs n y) (sym (append_assoc p l (x ∷ (r ++ q))))
    ∙ set_at (p ++ l) x (r ++ q) y n (length-append p l ∙ at)
    ∙ append_assoc p l (y ∷ (r ++ q))

-- what stands behind an element, and all before
pub behind_element : {A : Type 0} (p l z : List A) (y : A) → p ++ (l ++ (y ∷ z)) ≡ (p ++ (l ++ (y ∷ []))) ++ z
behind_element p l z y =
    ap (λ zs. p ++ zs) (sym (append_assoc l (y ∷ []) z)) ∙ sym (append_assoc p (l ++ (y ∷ [])) z)

-- ---- heights and roots as code has them

-- what holds of a height and of one less
pub lowered : (P : ℕ → ℕ → Type 0) → ((k : ℕ) → P (suc k) k) → (h : ℕ) → 0 < h → P h (h - 1)
lowered P f h pos = let up : suc (h - 1) ≡ h = omega arith in subst (λ j. P j (h - 1)) up (f (h - 1))

-- the number of a root
pub root_leaf : (h b r : ℕ) → h ≡ 0 → suc r ≡ 2 * b + 2 ^ h → r ≡ 2 * b
root_leaf h b r low at = let one : 2 ^ h ≡ 1 = ap (λ k. 2 ^ k) low in omega arith

pub root_suc : (k b r : ℕ) → suc r ≡ 2 * b + 2 ^ suc k → r ≡ 2 * b + nodes_in k
root_suc k b r at = let all : suc (nodes_in k) ≡ 2 ^ suc k = nodes_in-pow k in omega arith

-- ---- the part of a subtree

module _ {A : Type 0} (h b : ℕ) (xs : List A) where
  pub length_part : 2 * b + nodes_in h ≤ length xs → length (part h b xs) ≡ nodes_in h
  length_part within = length-take-le (nodes_in h) (drop (2 * b) xs) (simp length-drop (omega arith))

  pub part_root : (d : A) → 2 * b + nodes_in (suc h) ≤ length xs → get_or (part (suc h) b xs) (nodes_in h) d ≡ get_or xs (2 * b + nodes_in h) d
  part_root d within =
      get_or-take (nodes_in (suc h)) (drop (2 * b) xs) (nodes_in h) d (omega (arith, nodes_in-suc h)) ∙ get_or-drop (2 * b) xs (nodes_in h) d

  pub part_left : take (nodes_in h) (part (suc h) b xs) ≡ part h b xs
  part_left = take-take (nodes_in h) (nodes_in (suc h)) (drop (2 * b) xs) (omega (arith, nodes_in-suc h))

  pub part_right : drop (suc (nodes_in h)) (part (suc h) b xs) ≡ part h (b + 2 ^ h) xs
  part_right =
      let count : nodes_in (suc h) ≡ suc (nodes_in h) + nodes_in h = omega (arith, nodes_in-suc h) in
      let place : 2 * b + suc (nodes_in h) ≡ 2 * (b + 2 ^ h) = omega (arith, nodes_in-leaves h) in
      ap (λ k. drop (suc (nodes_in h)) (take k (drop (2 * b) xs))) count
      ∙ drop-take (suc (nodes_in h)) (nodes_in h) (drop (2 * b) xs)
      ∙ ap (take (nodes_in h)) (drop-drop (suc (nodes_in h)) (2 * b) xs)
      ∙ ap (λ k. take (nodes_in h) (drop k xs)) place

pub part_zero : {A : Type 0} (b : ℕ) (xs : List A) (d : A) → 2 * b < length xs → part 0 b xs ≡ get_or xs (2 * b) d ∷ []
part_zero b xs d within =
    ap (λ k. take k (drop (2 * b) xs)) nodes_in-zero ∙ ap (take 1) (drop_more xs (2 * b) d within)

pub part_whole : {A : Type 0} (h : ℕ) (xs : List A) → length xs ≡ nodes_in h → part h 0 xs ≡ xs
part_whole h xs long = take_all (nodes_in h) xs (omega arith)

-- ---- a part that is replaced

drop_spliced : {A : Type 0} (b k : ℕ) (ys xs : List A) → 2 * b ≤ length xs → 2 * b + length ys ≤ k → drop k (splice b ys xs) ≡ drop k xs
drop_spliced b k ys xs within behind =
    let n : ℕ = 2 * b + length ys in
    let on : n + (k - n) ≡ k = omega arith in
    let rest : drop n (splice b ys xs) ≡ drop n xs =
    rest_at (take (2 * b) xs) ys (drop n xs) (2 * b) (length ys) (length-take-le (2 * b) xs within) refl in
    ap (λ j. drop j (splice b ys xs)) (sym on)
    ∙ sym (drop-drop (k - n) n (splice b ys xs))
    ∙ ap (drop (k - n)) rest
    ∙ drop-drop (k - n) n xs
    ∙ ap (λ j. drop j xs) on

module _ {A : Type 0} (h b : ℕ) (ys xs : List A) (long : length ys ≡ nodes_in h) where
  pub part_splice : 2 * b ≤ length xs → part h b (splice b ys xs) ≡ ys
  part_splice within =
      middle_at (take (2 * b) xs) ys (drop (2 * b + length ys) xs) (2 * b) (nodes_in h) (length-take-le (2 * b) xs within) long

  pub part_behind : 2 * b + nodes_in h ≤ length xs → part h (b + 2 ^ h) (splice b ys xs) ≡ part h (b + 2 ^ h) xs
  part_behind within =
      ap (take (nodes_in h)) (drop_spliced b (2 * (b + 2 ^ h)) ys xs (omega arith) (omega (arith, nodes_in-leaves h)))

-- what is read behind it and before it
get_or_spliced : {A : Type 0} (b k : ℕ) (ys xs : List A) (d : A) → 2 * b ≤ length xs → 2 * b + length ys ≤ k → get_or (splice b ys xs) k d ≡ get_or xs k d
get_or_spliced b k ys xs d within behind =
    let at : k + 0 ≡ k = omega arith in
    ap (λ j. get_or (splice b ys xs) j d) (sym at)
    ∙ sym (get_or-drop k (splice b ys xs) 0 d)
    ∙ ap (λ zs. get_or zs 0 d) (drop_spliced b k ys xs within behind)
    ∙ get_or-drop k xs 0 d
    ∙ ap (λ j. get_or xs j d) at

pub root_behind : {A : Type 0} (h b : ℕ) (ys xs : List A) (d : A) → length ys ≡ nodes_in h → 2 * b + nodes_in h ≤ length xs → get_or (splice b ys xs) (2 * b + nodes_in h) d ≡ get_or xs (2 * b + nodes_in h) d
root_behind h b ys xs d long within = get_or_spliced b (2 * b + nodes_in h) ys xs d (omega arith) (omega arith)

pub before_splice : {A : Type 0} (b n : ℕ) (ys xs : List A) (d : A) → n < 2 * b → 2 * b ≤ length xs → get_or (splice b ys xs) n d ≡ get_or xs n d
before_splice b n ys xs d low within =
    let front : length (take (2 * b) xs) ≡ 2 * b = length-take-le (2 * b) xs within in
    get_or_append_left (take (2 * b) xs) (ys ++ drop (2 * b + length ys) xs) d n (omega arith) ∙ get_or-take (2 * b) xs n d low

pub length_splice : {A : Type 0} (b : ℕ) (ys xs : List A) → 2 * b + length ys ≤ length xs → length (splice b ys xs) ≡ length xs
length_splice b ys xs within =
    let front : length (take (2 * b) xs) ≡ 2 * b = length-take-le (2 * b) xs (omega arith) in
    let back : length (drop (2 * b + length ys) xs) ≡ length xs - (2 * b + length ys) = length-drop (2 * b + length ys) xs in
    let both : length (ys ++ drop (2 * b + length ys) xs) ≡ length ys + length (drop (2 * b + length ys) xs) = length-append ys (drop (2 * b + length ys) xs) in
    length-append (take (2 * b) xs) (ys ++ drop (2 * b + length ys) xs) ∙ omega arith

pub splice_one : {A : Type 0} (b : ℕ) (x : A) (xs : List A) → 2 * b < length xs → set xs (2 * b) x ≡ splice b (x ∷ []) xs
splice_one b x xs within =
    let next : suc (2 * b) ≡ 2 * b + 1 = omega arith in
    set_split xs (2 * b) x within ∙ ap (λ k. take (2 * b) xs ++ (x ∷ drop k xs)) next

pub splice_part : {A : Type 0} (h b : ℕ) (xs : List A) → 2 * b + nodes_in h ≤ length xs → splice b (part h b xs) xs ≡ xs
splice_part h b xs within =
    ap (λ k. take (2 * b) xs ++ (part h b xs ++ drop (2 * b + k) xs)) (length_part h b xs within)
    ∙ sym (in_pieces (2 * b) (nodes_in h) xs)

pub splice_whole : {A : Type 0} (ys xs : List A) → length ys ≡ length xs → splice 0 ys xs ≡ ys
splice_whole ys xs long = ap (λ zs. ys ++ zs) (drop_all (2 * 0 + length ys) xs (omega arith)) ∙ append-nil ys

-- ---- a root and its sides

-- a list as what stands before a tree, its left side l, its root x, its right side r, and the rest
module _ {A : Type 0} (h b : ℕ) (p l r q : List A) (x : A) (front : length p ≡ 2 * b) (left : length l ≡ nodes_in h) (right : length r ≡ nodes_in h) where
  -- the left side, the right side, and all three are replaced
  left_replaced : (ls : List A) → length ls ≡ nodes_in h → splice b ls (p ++ (l ++ (x ∷ (r ++ q)))) ≡ p ++ (ls ++ (x ∷ (r ++ q)))
  left_replaced ls long = replaced_at p l (x ∷ (r ++ q)) (2 * b) (nodes_in h) front left ls long

  right_replaced : (rs : List A) → length rs ≡ nodes_in h → splice (b + 2 ^ h) rs (p ++ (l ++ (x ∷ (r ++ q)))) ≡ p ++ (l ++ (x ∷ (rs ++ q)))
  right_replaced rs long =
      let before : length (p ++ (l ++ (x ∷ []))) ≡ 2 * (b + 2 ^ h) = simp length-append (omega (arith, nodes_in-leaves h)) in
      ap (splice (b + 2 ^ h) rs) (behind_element p l (r ++ q) x)
      ∙ replaced_at (p ++ (l ++ (x ∷ []))) r q (2 * (b + 2 ^ h)) (nodes_in h) before right rs long
      ∙ sym (behind_element p l (rs ++ q) x)

  all_replaced : (ls rs : List A) (y : A) → length ls ≡ nodes_in h → length rs ≡ nodes_in h → splice b (ls ++ (y ∷ rs)) (p ++ (l ++ (x ∷ (r ++ q)))) ≡ p ++ (ls ++ (y ∷ (rs ++ q)))
  all_replaced ls rs y as_left as_right =
      ap (λ zs. splice b (ls ++ (y ∷ rs)) (p ++ zs)) (sym (append_assoc l (x ∷ r) q))
      ∙ replaced_at p (l ++ (x ∷ r)) q (2 * b) (nodes_in h + suc (nodes_in h)) front (simp length-append (omega arith)) (ls ++ (y ∷ rs)) (simp length-append (omega arith))
      ∙ ap (λ zs. p ++ zs) (append_assoc ls (y ∷ rs) q)

  root_set : (y : A) → set (p ++ (l ++ (x ∷ (r ++ q)))) (2 * b + nodes_in h) y ≡ p ++ (l ++ (y ∷ (r ++ q)))
  root_set y =
      ap (λ zs. set (p ++ zs) (2 * b + nodes_in h) y) (sym (append_assoc l (x ∷ r) q))
      ∙ middle_set p l r q x y (2 * b + nodes_in h) (omega arith)

-- a list so, by its parts; the default of the root is d
module _ {A : Type 0} (h b : ℕ) (xs : List A) (d : A) (within : 2 * b + nodes_in (suc h) ≤ length xs) where
  abbrev front : List A
  front = take (2 * b) xs

  abbrev left : List A
  left = part h b xs

  abbrev root : A
  root = get_or xs (2 * b + nodes_in h) d

  abbrev right : List A
  right = part h (b + 2 ^ h) xs

  abbrev rest : List A
  rest = drop (2 * (b + 2 ^ h) + nodes_in h) xs

  front_long : length front ≡ 2 * b
  front_long = length-take-le (2 * b) xs (omega arith)

  left_long : length left ≡ nodes_in h
  left_long = length_part h b xs (omega (arith, nodes_in-suc h))

  right_long : length right ≡ nodes_in h
  right_long = length_part h (b + 2 ^ h) xs (omega (arith, nodes_in-suc h, nodes_in-leaves h))

  five : xs ≡ front ++ (left ++ (root ∷ (right ++ rest)))
  five =
      let next : 2 * b + nodes_in h + 1 ≡ 2 * (b + 2 ^ h) = omega (arith, nodes_in-leaves h) in
      let free : drop (2 * b + nodes_in h) xs ≡ root ∷ drop (2 * b + nodes_in h + 1) xs = drop_more xs (2 * b + nodes_in h) d (omega (arith, nodes_in-suc h)) in
      let behind : drop (2 * (b + 2 ^ h)) xs ≡ right ++ rest =
      sym (take-append-drop (nodes_in h) (drop (2 * (b + 2 ^ h)) xs))
      ∙ ap (λ zs. right ++ zs) (drop-drop (nodes_in h) (2 * (b + 2 ^ h)) xs) in
      in_pieces (2 * b) (nodes_in h) xs
      ∙ ap (λ zs. front ++ (left ++ zs)) free
      ∙ ap (λ k. front ++ (left ++ (root ∷ drop k xs))) next
      ∙ ap (λ zs. front ++ (left ++ (root ∷ zs))) behind

-- both sides and the root are replaced
pub splice_sides : {A : Type 0} (h b : ℕ) (ls rs : List A) (x : A) (xs : List A) → length ls ≡ nodes_in h → length rs ≡ nodes_in h → 2 * b + nodes_in (suc h) ≤ length xs → set (splice (b + 2 ^ h) rs (splice b ls xs)) (2 * b + nodes_in h) x ≡ splice b (ls ++ (x ∷ rs)) xs
splice_sides h b ls rs x xs as_left as_right within =
    let p = front h b xs x within in
    let l = left h b xs x within in
    let d = root h b xs x within in
    let r = right h b xs x within in
    let q = rest h b xs x within in
    let before = front_long h b xs x within in
    let l_long = left_long h b xs x within in
    let r_long = right_long h b xs x within in
    ap (λ ys. set (splice (b + 2 ^ h) rs (splice b ls ys)) (2 * b + nodes_in h) x) (five h b xs x within)
    ∙ ap (λ ys. set (splice (b + 2 ^ h) rs ys) (2 * b + nodes_in h) x) (left_replaced h b p l r q d before l_long r_long ls as_left)
    ∙ ap (λ ys. set ys (2 * b + nodes_in h) x) (right_replaced h b p ls r q d before as_left r_long rs as_right)
    ∙ root_set h b p ls rs q d before as_left as_right x
    ∙ sym (all_replaced h b p l r q d before l_long r_long ls rs x as_left as_right)
    ∙ ap (splice b (ls ++ (x ∷ rs))) (sym (five h b xs x within))

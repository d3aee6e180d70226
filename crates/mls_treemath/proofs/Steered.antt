-- The walks from a leaf, steered by comparison of leaf numbers, as the terms of ratchet trees are.
-- Below a node of height h whose first leaf is b, leaf i is on the left exactly where i < b + leaves_in h.
-- The first node there is 2 b, and the node itself is that and the size of its left side.
use Rattle.std.proofs.Common.{◌≡◌, ℕ, zero, suc, ◌+◌, ◌*◌, nat_lt, ◌<◌, ◌≤◌, true, false, if◌then◌else◌, inl, inr, List, [], ◌∷◌, ◌++◌, map, reverse, Some, refl, sym, ◌∙◌, ap, arith}
use Rattle.std.proofs.lemmas.List.{map-append, reverse-append}
use Rattle.std.proofs.lemmas.Bool.{cond-true, cond-false, lt-ltb, le-ltb, cases_lt}
use Rattle.mls_treemath.specs.Paths.{Path, nodes_in, root_of, index_of, leaf_path}
use Rattle.mls_treemath.proofs.PathsLemmas.{leaves_in}
use Rattle.mls_treemath.proofs.Sizes.{nodes_in-leaves, root_of-zero}
use Rattle.mls_treemath.proofs.Leaves.{way_from, way_from-left, way_from-right, way_from_first, path_to-leaf}
use Rattle.mls_treemath.specs.Steps.{common_front, above, beside, height_of, walk_among, ancestors_of, copath_of, common_ancestor_of}
use Rattle.mls_treemath.proofs.Heights.{walk_in, parting_in}

-- the branches over leaf i, the highest first
unfoldable pub branches_over : ℕ → ℕ → ℕ → List ℕ
branches_over zero b i = []
branches_over (suc h) b i =
    (2 * b + nodes_in h) ∷ (if nat_lt i (b + leaves_in h) then branches_over h b i else branches_over h (b + leaves_in h) i)

-- the other children of these branches, the highest first
unfoldable pub nodes_beside : ℕ → ℕ → ℕ → List ℕ
nodes_beside zero b i = []
nodes_beside (suc h) b i =
    if nat_lt i (b + leaves_in h) then (2 * (b + leaves_in h) + root_of h) ∷ nodes_beside h b i
    else (2 * b + root_of h) ∷ nodes_beside h (b + leaves_in h) i

-- the branch where leaves i and j are on two sides; the leaf itself where they are one
unfoldable pub fork_of : ℕ → ℕ → ℕ → ℕ → ℕ
fork_of zero b i j = 2 * b
fork_of (suc h) b i j =
    if nat_lt i (b + leaves_in h) then (if nat_lt j (b + leaves_in h) then fork_of h b i j else 2 * b + nodes_in h)
    else (if nat_lt j (b + leaves_in h) then 2 * b + nodes_in h else fork_of h (b + leaves_in h) i j)

-- the place of a node in the tree of all, where it is some places on from the first node of a part
abbrev on_from : ℕ → ℕ → Path → ℕ
on_from b h q = 2 * b + index_of h q

root_place : (h b : ℕ) → on_from b h [] ≡ 2 * b + root_of h
unfolding index_of
root_place zero b = refl
root_place (suc h) b = refl

places_left : (b h : ℕ) (ps : List Path) → map (on_from b (suc h)) (map (λ q. false ∷ q) ps) ≡ map (on_from b h) ps
unfolding index_of
places_left b h [] = refl
places_left b h (q ∷ ps) = ap (λ ns. on_from b h q ∷ ns) (places_left b h ps)

place_right : (b h : ℕ) (q : Path) → on_from b (suc h) (true ∷ q) ≡ on_from (b + leaves_in h) h q
unfolding index_of
place_right b h q = omega (arith, nodes_in-leaves h)

places_right : (b h : ℕ) (ps : List Path) → map (on_from b (suc h)) (map (λ q. true ∷ q) ps) ≡ map (on_from (b + leaves_in h) h) ps
places_right b h [] = refl
places_right b h (q ∷ ps) =
    ap (λ n. n ∷ map (on_from b (suc h)) (map (λ q. true ∷ q) ps)) (place_right b h q)
    ∙ ap (λ ns. on_from (b + leaves_in h) h q ∷ ns) (places_right b h ps)

-- ---- the ancestors of a leaf

above_left : (h b : ℕ) (p : Path) → map (on_from b (suc h)) (above (false ∷ p)) ≡ (2 * b + nodes_in h) ∷ map (on_from b h) (above p)
unfolding above index_of root_of
above_left h b p = ap (λ ns. (2 * b + nodes_in h) ∷ ns) (places_left b h (above p))

above_right : (h b : ℕ) (p : Path) → map (on_from b (suc h)) (above (true ∷ p)) ≡ (2 * b + nodes_in h) ∷ map (on_from (b + leaves_in h) h) (above p)
unfolding above index_of root_of
above_right h b p = ap (λ ns. (2 * b + nodes_in h) ∷ ns) (places_right b h (above p))

pub branches_over-way : (h b i : ℕ) → map (on_from b h) (above (way_from h b i)) ≡ branches_over h b i
unfolding branches_over way_from above
branches_over-way zero b i = refl
branches_over-way (suc h) b i = elim (cases_lt i (b + leaves_in h)) [
  | inl low ↦
      ap (λ p. map (on_from b (suc h)) (above p)) (way_from-left h b i low)
      ∙ above_left h b (way_from h b i)
      ∙ ap (λ ns. (2 * b + nodes_in h) ∷ ns) (branches_over-way h b i ∙ sym (cond-true _ _ _ (lt-ltb i (b + leaves_in h) low)))
  | inr high ↦
      ap (λ p. map (on_from b (suc h)) (above p)) (way_from-right h b i high)
      ∙ above_right h b (way_from h (b + leaves_in h) i)
      ∙ ap (λ ns. (2 * b + nodes_in h) ∷ ns) (branches_over-way h (b + leaves_in h) i ∙ sym (cond-false _ _ _ (le-ltb i (b + leaves_in h) high)))
]

-- ---- the copath of a leaf

beside_left : (h b : ℕ) (p : Path) → map (on_from b (suc h)) (beside (false ∷ p)) ≡ (2 * (b + leaves_in h) + root_of h) ∷ map (on_from b h) (beside p)
unfolding beside
beside_left h b p =
    ap (λ n. n ∷ map (on_from b (suc h)) (map (λ q. false ∷ q) (beside p))) (place_right b h [] ∙ root_place h (b + leaves_in h))
    ∙ ap (λ ns. (2 * (b + leaves_in h) + root_of h) ∷ ns) (places_left b h (beside p))

beside_right : (h b : ℕ) (p : Path) → map (on_from b (suc h)) (beside (true ∷ p)) ≡ (2 * b + root_of h) ∷ map (on_from (b + leaves_in h) h) (beside p)
unfolding beside index_of
beside_right h b p =
    ap (λ n. n ∷ map (on_from b (suc h)) (map (λ q. true ∷ q) (beside p))) (root_place h b)
    ∙ ap (λ ns. (2 * b + root_of h) ∷ ns) (places_right b h (beside p))

pub nodes_beside-way : (h b i : ℕ) → map (on_from b h) (beside (way_from h b i)) ≡ nodes_beside h b i
unfolding nodes_beside way_from beside
nodes_beside-way zero b i = refl
nodes_beside-way (suc h) b i = elim (cases_lt i (b + leaves_in h)) [
  | inl low ↦
      ap (λ p. map (on_from b (suc h)) (beside p)) (way_from-left h b i low)
      ∙ beside_left h b (way_from h b i)
      ∙ ap (λ ns. (2 * (b + leaves_in h) + root_of h) ∷ ns) (nodes_beside-way h b i)
      ∙ sym (cond-true _ _ _ (lt-ltb i (b + leaves_in h) low))
  | inr high ↦
      ap (λ p. map (on_from b (suc h)) (beside p)) (way_from-right h b i high)
      ∙ beside_right h b (way_from h (b + leaves_in h) i)
      ∙ ap (λ ns. (2 * b + root_of h) ∷ ns) (nodes_beside-way h (b + leaves_in h) i)
      ∙ sym (cond-false _ _ _ (le-ltb i (b + leaves_in h) high))
]

-- ---- the branch between two leaves

fork_left : (h b i j : ℕ) → i < b + leaves_in h → j < b + leaves_in h → fork_of (suc h) b i j ≡ fork_of h b i j
unfolding fork_of
fork_left h b i j low low' = cond-true _ _ _ (lt-ltb i (b + leaves_in h) low) ∙ cond-true _ _ _ (lt-ltb j (b + leaves_in h) low')

fork_right : (h b i j : ℕ) → b + leaves_in h ≤ i → b + leaves_in h ≤ j → fork_of (suc h) b i j ≡ fork_of h (b + leaves_in h) i j
unfolding fork_of
fork_right h b i j high high' = cond-false _ _ _ (le-ltb i (b + leaves_in h) high) ∙ cond-false _ _ _ (le-ltb j (b + leaves_in h) high')

fork_between : (h b i j : ℕ) → i < b + leaves_in h → b + leaves_in h ≤ j → fork_of (suc h) b i j ≡ 2 * b + nodes_in h
unfolding fork_of
fork_between h b i j low high = cond-true _ _ _ (lt-ltb i (b + leaves_in h) low) ∙ cond-false _ _ _ (le-ltb j (b + leaves_in h) high)

fork_across : (h b i j : ℕ) → b + leaves_in h ≤ i → j < b + leaves_in h → fork_of (suc h) b i j ≡ 2 * b + nodes_in h
unfolding fork_of
fork_across h b i j high low = cond-false _ _ _ (le-ltb i (b + leaves_in h) high) ∙ cond-true _ _ _ (lt-ltb j (b + leaves_in h) low)

-- where two ways part, as a place in the tree of all
abbrev parted : ℕ → ℕ → Path → Path → ℕ
parted b h p q = on_from b h (common_front p q)

parted_left : (h b : ℕ) (p q : Path) → parted b (suc h) (false ∷ p) (false ∷ q) ≡ parted b h p q
unfolding common_front index_of
parted_left h b p q = refl

parted_right : (h b : ℕ) (p q : Path) → parted b (suc h) (true ∷ p) (true ∷ q) ≡ parted (b + leaves_in h) h p q
unfolding common_front
parted_right h b p q = place_right b h (common_front p q)

parted_between : (h b : ℕ) (p q : Path) → parted b (suc h) (false ∷ p) (true ∷ q) ≡ 2 * b + nodes_in h
unfolding common_front index_of root_of
parted_between h b p q = refl

parted_across : (h b : ℕ) (p q : Path) → parted b (suc h) (true ∷ p) (false ∷ q) ≡ 2 * b + nodes_in h
unfolding common_front index_of root_of
parted_across h b p q = refl

pub fork_of-way : (h b i j : ℕ) → parted b h (way_from h b i) (way_from h b j) ≡ fork_of h b i j
unfolding way_from fork_of common_front index_of
fork_of-way zero b i j = omega (arith, root_of-zero)
fork_of-way (suc h) b i j = elim (cases_lt i (b + leaves_in h)) [
  | inl low ↦ elim (cases_lt j (b + leaves_in h)) [
    | inl low' ↦
        ap (λ p. parted b (suc h) p (way_from (suc h) b j)) (way_from-left h b i low)
        ∙ ap (parted b (suc h) (false ∷ way_from h b i)) (way_from-left h b j low')
        ∙ parted_left h b (way_from h b i) (way_from h b j)
        ∙ fork_of-way h b i j ∙ sym (fork_left h b i j low low')
    | inr high' ↦
        ap (λ p. parted b (suc h) p (way_from (suc h) b j)) (way_from-left h b i low)
        ∙ ap (parted b (suc h) (false ∷ way_from h b i)) (way_from-right h b j high')
        ∙ parted_between h b (way_from h b i) (way_from h (b + leaves_in h) j)
        ∙ sym (fork_between h b i j low high')
  ]
  | inr high ↦ elim (cases_lt j (b + leaves_in h)) [
    | inl low' ↦
        ap (λ p. parted b (suc h) p (way_from (suc h) b j)) (way_from-right h b i high)
        ∙ ap (parted b (suc h) (true ∷ way_from h (b + leaves_in h) i)) (way_from-left h b j low')
        ∙ parted_across h b (way_from h (b + leaves_in h) i) (way_from h b j)
        ∙ sym (fork_across h b i j high low')
    | inr high' ↦
        ap (λ p. parted b (suc h) p (way_from (suc h) b j)) (way_from-right h b i high)
        ∙ ap (parted b (suc h) (true ∷ way_from h (b + leaves_in h) i)) (way_from-right h b j high')
        ∙ parted_right h b (way_from h (b + leaves_in h) i) (way_from h (b + leaves_in h) j)
        ∙ fork_of-way h (b + leaves_in h) i j ∙ sym (fork_right h b i j high high')
  ]
]

-- ---- in a whole tree of n leaves

pub map_reverse : {A B : Type 0} (f : A → B) (xs : List A) → map f (reverse xs) ≡ reverse (map f xs)
map_reverse f [] = refl
map_reverse f (x ∷ xs) =
    ap (map f) (reverse-append (x ∷ []) xs) ∙ map-append f (reverse xs) (x ∷ [])
    ∙ ap (λ ys. ys ++ f x ∷ []) (map_reverse f xs) ∙ sym (reverse-append (f x ∷ []) (map f xs))

plain_places : (h : ℕ) (ps : List Path) → map (index_of h) ps ≡ map (on_from 0 h) ps
plain_places h [] = refl
plain_places h (p ∷ ps) =
    let first : index_of h p ≡ on_from 0 h p = omega arith in
    ap (λ n. n ∷ map (index_of h) ps) first ∙ ap (λ ns. on_from 0 h p ∷ ns) (plain_places h ps)

walk_of-leaf : (n h i : ℕ) (ways : Path → List Path) → height_of n ≡ Some h → i < leaves_in h → walk_among (height_of n) (λ p. reverse (ways p)) (2 * i) ≡ reverse (map (on_from 0 h) (ways (way_from h 0 i)))
walk_of-leaf n h i ways tree low =
    walk_in n h (2 * i) (λ p. reverse (ways p)) (leaf_path h i) tree (path_to-leaf h i low)
    ∙ ap (λ p. map (index_of h) (reverse (ways p))) (sym (way_from_first h i low))
    ∙ map_reverse (index_of h) (ways (way_from h 0 i))
    ∙ ap reverse (plain_places h (ways (way_from h 0 i)))

-- the direct path of leaf i, from its parent to the root
pub ancestors_of-leaf : (n h i : ℕ) → height_of n ≡ Some h → i < leaves_in h → ancestors_of n (2 * i) ≡ reverse (branches_over h 0 i)
ancestors_of-leaf n h i tree low = walk_of-leaf n h i above tree low ∙ ap reverse (branches_over-way h 0 i)

-- the copath of leaf i, the lowest node first
pub copath_of-leaf : (n h i : ℕ) → height_of n ≡ Some h → i < leaves_in h → copath_of n (2 * i) ≡ reverse (nodes_beside h 0 i)
copath_of-leaf n h i tree low = walk_of-leaf n h i beside tree low ∙ ap reverse (nodes_beside-way h 0 i)

-- the lowest node over leaves i and j
pub common_ancestor_of-leaves : (n h i j : ℕ) → height_of n ≡ Some h → i < leaves_in h → j < leaves_in h → common_ancestor_of n (2 * i) (2 * j) ≡ Some (fork_of h 0 i j)
common_ancestor_of-leaves n h i j tree low low' =
    let plain : index_of h (common_front (way_from h 0 i) (way_from h 0 j)) ≡ parted 0 h (way_from h 0 i) (way_from h 0 j) = omega arith in
    parting_in n h (2 * i) (2 * j) (leaf_path h i) (leaf_path h j) tree (path_to-leaf h i low) (path_to-leaf h j low')
    ∙ ap (λ p. Some (index_of h (common_front p (leaf_path h j)))) (sym (way_from_first h i low))
    ∙ ap (λ q. Some (index_of h (common_front (way_from h 0 i) q))) (sym (way_from_first h j low'))
    ∙ ap Some (plain ∙ fork_of-way h 0 i j)

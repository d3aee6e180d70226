-- Laws: leaf i is node 2 i, and the bits of i lead to it; the bit that decides is a comparison with the middle.
use Rattle.std.proofs.Common.{◌≡◌, ℕ, zero, suc, ◌+◌, ◌-◌, ◌*◌, ◌/◌, ◌^◌, ◌==◌, nat_lt, ◌<◌, ◌≤◌, true, false, not, if◌then◌else◌, inl, inr, [], ◌∷◌, length, Some, refl, sym, ◌∙◌, ap, arith}
use Rattle.std.specs.Int.{bit_at}
use Rattle.std.proofs.lemmas.Nat.{div-mul-add}
use Rattle.std.proofs.lemmas.Bool.{cond-true, cond-false, lt-ltb, le-ltb, cases_lt}
use Rattle.mls_treemath.specs.Paths.{Path, nodes_in, index_of, path_to, leaf_path}
use Rattle.mls_treemath.proofs.PathsLemmas.{leaves_in}
use Rattle.mls_treemath.proofs.Sizes.{width_perfect, leaves_in-suc, nodes_in-leaves, root_of-zero}
use Rattle.mls_treemath.proofs.Ways.{path_to-index_of}

pub length-leaf_path : (h i : ℕ) → length (leaf_path h i) ≡ h
unfolding leaf_path
length-leaf_path zero i = refl
length-leaf_path (suc h) i = ap suc (length-leaf_path h i)

-- leaf i stands inside a tree of height h
pub leaf_within : (h i : ℕ) → i < leaves_in h → 2 * i < nodes_in h
leaf_within h i low = omega (arith, nodes_in-leaves h)

-- ---- the bit that decides

bit_low : (w q j i h : ℕ) → w ≡ 2 ^ h → i ≡ q * (w + w) + j → j < w → bit_at i h ≡ 0
bit_low w q j i h e is low =
    let sum : i ≡ (q + q) * w + j = omega arith in
    let whole : i / 2 ^ h ≡ q + q = rw (sym e, sum) (div-mul-add (q + q) w j low) in
    rw whole (omega arith)

bit_high : (w q j i h : ℕ) → w ≡ 2 ^ h → i ≡ q * (w + w) + (w + j) → j < w → bit_at i h ≡ 1
bit_high w q j i h e is low =
    let sum : i ≡ (q + q + 1) * w + j = omega arith in
    let whole : i / 2 ^ h ≡ q + q + 1 = rw (sym e, sum) (div-mul-add (q + q + 1) w j low) in
    rw whole (omega arith)

-- of a tree of height h + 1 whose first leaf is b, the left side has the leaves whose bit h is 0
pub bit_on_left : (h q b i : ℕ) → b ≡ q * leaves_in (suc h) → b ≤ i → i < b + leaves_in h → bit_at i h ≡ 0
bit_on_left h q b i first from low =
    let two : leaves_in (suc h) ≡ leaves_in h + leaves_in h = leaves_in-suc h in
    let first' : b ≡ q * (leaves_in h + leaves_in h) = first ∙ ap (λ n. q * n) two in
    bit_low (leaves_in h) q (i - b) i h (width_perfect h) (omega arith) (omega arith)

-- of a tree of height h + 1 whose first leaf is b, the right side has the leaves whose bit h is 1
pub bit_on_right : (h q b i : ℕ) → b ≡ q * leaves_in (suc h) → b + leaves_in h ≤ i → i < b + leaves_in (suc h) → bit_at i h ≡ 1
bit_on_right h q b i first from low =
    let two : leaves_in (suc h) ≡ leaves_in h + leaves_in h = leaves_in-suc h in
    let first' : b ≡ q * (leaves_in h + leaves_in h) = first ∙ ap (λ n. q * n) two in
    bit_high (leaves_in h) q (i - (b + leaves_in h)) i h (width_perfect h) (omega arith) (omega arith)

-- a leaf is on the left by comparison exactly where it is by its bit
pub side_is_bit : (h q b i : ℕ) → b ≡ q * leaves_in (suc h) → b ≤ i → i < b + leaves_in (suc h) → nat_lt i (b + leaves_in h) ≡ not (bit_at i h == 1)
side_is_bit h q b i first from within = elim (cases_lt i (b + leaves_in h)) [
  | inl low ↦ lt-ltb i (b + leaves_in h) low ∙ sym (ap (λ n. not (n == 1)) (bit_on_left h q b i first from low))
  | inr high ↦ le-ltb i (b + leaves_in h) high ∙ sym (ap (λ n. not (n == 1)) (bit_on_right h q b i first high within))
]

-- ---- the way to a leaf, by comparison

-- the way to leaf i from a node of height h whose first leaf is b: to the left below the first leaf of the right side
unfoldable pub way_from : ℕ → ℕ → ℕ → Path
way_from zero b i = []
way_from (suc h) b i =
    if nat_lt i (b + leaves_in h) then false ∷ way_from h b i else true ∷ way_from h (b + leaves_in h) i

pub way_from-left : (h b i : ℕ) → i < b + leaves_in h → way_from (suc h) b i ≡ false ∷ way_from h b i
unfolding way_from
way_from-left h b i low = cond-true _ _ _ (lt-ltb i (b + leaves_in h) low)

pub way_from-right : (h b i : ℕ) → b + leaves_in h ≤ i → way_from (suc h) b i ≡ true ∷ way_from h (b + leaves_in h) i
unfolding way_from
way_from-right h b i high = cond-false _ _ _ (le-ltb i (b + leaves_in h) high)

pub length-way_from : (h b i : ℕ) → length (way_from h b i) ≡ h
unfolding way_from
length-way_from zero b i = refl
length-way_from (suc h) b i = elim (cases_lt i (b + leaves_in h)) [
  | inl low ↦ ap length (way_from-left h b i low) ∙ ap suc (length-way_from h b i)
  | inr high ↦ ap length (way_from-right h b i high) ∙ ap suc (length-way_from h (b + leaves_in h) i)
]

-- the bits of i, the highest first, are that way
pub way_from-bits : (h q b i : ℕ) → b ≡ q * leaves_in h → b ≤ i → i < b + leaves_in h → way_from h b i ≡ leaf_path h i
unfolding way_from leaf_path
way_from-bits zero q b i first from within = refl
way_from-bits (suc h) q b i first from within =
    let two : leaves_in (suc h) ≡ leaves_in h + leaves_in h = leaves_in-suc h in
    let first' : b ≡ q * (leaves_in h + leaves_in h) = first ∙ ap (λ n. q * n) two in
    elim (cases_lt i (b + leaves_in h)) [
      | inl low ↦
          way_from-left h b i low
          ∙ ap (λ p. false ∷ p) (way_from-bits h (q + q) b i (omega arith) from low)
          ∙ ap (λ n. (n == 1) ∷ leaf_path h i) (sym (bit_on_left h q b i first from low))
      | inr high ↦
          way_from-right h b i high
          ∙ ap (λ p. true ∷ p) (way_from-bits h (q + q + 1) (b + leaves_in h) i (omega arith) high (omega arith))
          ∙ ap (λ n. (n == 1) ∷ leaf_path h i) (sym (bit_on_right h q b i first high within))
    ]

-- the way by bits leads to leaf i, counted from the first node of the tree
pub index_of-way_from : (h b i : ℕ) → b ≤ i → i < b + leaves_in h → 2 * b + index_of h (way_from h b i) ≡ 2 * i
unfolding way_from index_of leaves_in
index_of-way_from zero b i from within = omega (arith, root_of-zero)
index_of-way_from (suc h) b i from within = elim (cases_lt i (b + leaves_in h)) [
  | inl low ↦ ap (λ p. 2 * b + index_of (suc h) p) (way_from-left h b i low) ∙ index_of-way_from h b i from low
  | inr high ↦
      let rest : 2 * (b + leaves_in h) + index_of h (way_from h (b + leaves_in h) i) ≡ 2 * i =
      index_of-way_from h (b + leaves_in h) i high (omega arith) in
      ap (λ p. 2 * b + index_of (suc h) p) (way_from-right h b i high) ∙ omega (arith, nodes_in-leaves h)
]

pub way_from_first : (h i : ℕ) → i < leaves_in h → way_from h 0 i ≡ leaf_path h i
way_from_first h i low = way_from-bits h 0 0 i (omega arith) (omega arith) (omega arith)

-- leaf i is node 2 i, and the bits of i lead there
pub index_of-leaf : (h i : ℕ) → i < leaves_in h → index_of h (leaf_path h i) ≡ 2 * i
index_of-leaf h i low =
    let at : 2 * 0 + index_of h (way_from h 0 i) ≡ 2 * i = index_of-way_from h 0 i (omega arith) (omega arith) in
    ap (index_of h) (sym (way_from_first h i low)) ∙ omega arith

pub path_to-leaf : (h i : ℕ) → i < leaves_in h → path_to h (2 * i) ≡ Some (leaf_path h i)
path_to-leaf h i low =
    ap (path_to h) (sym (index_of-leaf h i low)) ∙ path_to-index_of h (leaf_path h i) (omega (arith, length-leaf_path h i))

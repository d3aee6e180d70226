-- The path secret for a joiner is that of the lowest node over both leaves.
use Rattle.std.proofs.Common.{◌≡◌, ℕ, zero, suc, ◌+◌, ◌*◌, ◌<◌, ◌≤◌, Bool, true, false, if◌then◌else◌, List, [], ◌∷◌, ◌++◌, map, filter, length, reverse, Some, IsSome, refl, ap, ap₂, sym, ◌∙◌, subst, inl, inr, arith, lt-ltb, le-ltb}
use Rattle.std.specs.List.{slice_get}
use Rattle.std.proofs.lemmas.Bool.{cases_lt, true≢false, and_parts, cond-true, cond-false}
use Rattle.std.proofs.lemmas.List.{length-map, length-reverse}
use Rattle.mls_treemath.specs.Paths.{nodes_in}
use Rattle.mls_treemath.proofs.PathsLemmas.{leaves_in}
use Rattle.mls_treemath.proofs.Sizes.{width_perfect}
use Rattle.mls_treemath.proofs.Steered.{fork_of, common_ancestor_of-leaves}
use Rattle.mls_tree_model.specs.Term.{Term, Leaf, Branch, width, size, is_perfect, leaf_at}
use Rattle.mls_tree_model.specs.Way.{Step, step_at, way, is_filtered, is_beside, filtered_way, filtered_path}
use Rattle.mls_tree_model.proofs.Equations.{way_left, way_right, leaf_at_left, leaf_at_right}
use Rattle.mls_tree_model.specs.Laws.{IsIn}
use Rattle.mls_tree_model.proofs.ShapeLaws.{width-perfect}
use Rattle.mls_tree_model.proofs.ArrayLaws.{size-perfect}
use Rattle.mls_tree_model.proofs.PathLaws.{reverse-cons}
use Rattle.mls_tree_model.proofs.ResolutionLaws.{reached}
use Rattle.mls_tree_model.proofs.MemberLaws.{leaf_taken}
use Rattle.mls_treekem_model.specs.Chain.{chain}
use Rattle.mls_treekem_model.specs.Make.{filtered_count, secret_above}
use Rattle.mls_treekem_model.specs.Join.{secret_for}
use Rattle.mls_treekem_model.specs.Whole.{SecretAtAncestor}
use Rattle.mls_treekem_model.proofs.WayLaws.{within, below, beyond}
use Rattle.mls_treekem_model.proofs.MakeLaws.{count_filtered}

-- ---- lists

get_left : (xs ys : List ℕ) (k x : ℕ) → slice_get xs k ≡ Some x → slice_get (xs ++ ys) k ≡ Some x
get_left [] ys k x e = cc
get_left (z ∷ xs) ys zero x e = e
get_left (z ∷ xs) ys (suc k) x e = get_left xs ys k x e

get_end : (xs : List ℕ) (x : ℕ) → slice_get (xs ++ (x ∷ [])) (length xs) ≡ Some x
get_end [] x = refl
get_end (y ∷ xs) x = get_end xs x

-- ---- along a way

-- how many parents of a way are filtered below the one where j's way parts from it
unfoldable filtered_below : List Step → ℕ → ℕ
filtered_below [] j = 0
filtered_below (s ∷ ss) j = if is_beside s j then filtered_count ss else filtered_below ss j

secret_is : (ss : List Step) (j : ℕ) (start : List ℕ) → secret_for ss j start ≡ chain start (filtered_below ss j)
unfolding secret_for filtered_below chain
secret_is [] j start = refl
secret_is (s ∷ ss) j start = by_side (is_beside s j) (secret_is ss j start)
  where
    by_side : (u : Bool) → secret_for ss j start ≡ chain start (filtered_below ss j) → (if u then secret_above ss start else secret_for ss j start) ≡ chain start (if u then filtered_count ss else filtered_below ss j)
    by_side true rec = refl
    by_side false rec = rec

-- the nodes of the filtered parents, the lowest first
nodes_of : List Step → List ℕ
nodes_of ss = reverse (map (λ s. s.node) (filter is_filtered ss))

length-nodes : (ss : List Step) → length (nodes_of ss) ≡ filtered_count ss
unfolding nodes_of
length-nodes ss =
    length-reverse (map (λ (s : Step). s.node) (filter is_filtered ss)) ∙ length-map (filter is_filtered ss) (λ (s : Step). s.node) ∙ sym (count_filtered ss)

nodes_in_all : (s : Step) (ss : List Step) (k x : ℕ) → slice_get (nodes_of ss) k ≡ Some x → slice_get (nodes_of (s ∷ ss)) k ≡ Some x
unfolding nodes_of
nodes_in_all s ss k x e = by_test (is_filtered s)
  where
    by_test : (t : Bool) → slice_get (reverse (map (λ s. s.node) (if t then s ∷ filter is_filtered ss else filter is_filtered ss))) k ≡ Some x
    by_test true = ap (λ ns. slice_get ns k) (reverse-cons s.node (map (λ s. s.node) (filter is_filtered ss))) ∙ get_left (nodes_of ss) (s.node ∷ []) k x e
    by_test false = e

top_node : (s : Step) (ss : List Step) → is_filtered s ≡ true → slice_get (nodes_of (s ∷ ss)) (filtered_count ss) ≡ Some s.node
unfolding nodes_of
top_node s ss is =
    ap₂ slice_get
    (ap (λ t. reverse (map (λ s. s.node) (if t then s ∷ filter is_filtered ss else filter is_filtered ss))) is ∙ reverse-cons s.node (map (λ s. s.node) (filter is_filtered ss)))
    (sym (length-nodes ss))
    ∙ get_end (nodes_of ss) s.node

-- at the step where the ways part, and above it
part_here : (s : Step) (ss : List Step) (j : ℕ) → is_beside s j ≡ true → IsSome (leaf_at s.first s.other j) → slice_get (nodes_of (s ∷ ss)) (filtered_below (s ∷ ss) j) ≡ Some s.node
unfolding filtered_below
part_here s ss j e taken = rw e (top_node s ss (reached s.first s.other (leaf_taken s.first s.other j taken)))

part_below : (s : Step) (ss : List Step) (j x : ℕ) → is_beside s j ≡ false → slice_get (nodes_of ss) (filtered_below ss j) ≡ Some x → slice_get (nodes_of (s ∷ ss)) (filtered_below (s ∷ ss) j) ≡ Some x
unfolding filtered_below
part_below s ss j x e h = rw e (nodes_in_all s ss (filtered_below ss j) x h)

-- ---- in a tree

fork_left : (h b i j : ℕ) → i < b + leaves_in h → j < b + leaves_in h → fork_of (suc h) b i j ≡ fork_of h b i j
unfolding fork_of
fork_left h b i j li lj = cond-true _ _ _ (lt-ltb i (b + leaves_in h) li) ∙ cond-true _ _ _ (lt-ltb j (b + leaves_in h) lj)

fork_right : (h b i j : ℕ) → b + leaves_in h ≤ i → b + leaves_in h ≤ j → fork_of (suc h) b i j ≡ fork_of h (b + leaves_in h) i j
unfolding fork_of
fork_right h b i j ri rj = cond-false _ _ _ (le-ltb i (b + leaves_in h) ri) ∙ cond-false _ _ _ (le-ltb j (b + leaves_in h) rj)

fork_between : (h b i j : ℕ) → i < b + leaves_in h → b + leaves_in h ≤ j → fork_of (suc h) b i j ≡ 2 * b + nodes_in h
unfolding fork_of
fork_between h b i j li rj = cond-true _ _ _ (lt-ltb i (b + leaves_in h) li) ∙ cond-false _ _ _ (le-ltb j (b + leaves_in h) rj)

fork_across : (h b i j : ℕ) → b + leaves_in h ≤ i → j < b + leaves_in h → fork_of (suc h) b i j ≡ 2 * b + nodes_in h
unfolding fork_of
fork_across h b i j ri lj = cond-false _ _ _ (le-ltb i (b + leaves_in h) ri) ∙ cond-true _ _ _ (lt-ltb j (b + leaves_in h) lj)

abbrev At : ℕ → List Step → ℕ → Type 0
At x ss j = slice_get (nodes_of ss) (filtered_below ss j) ≡ Some x

fork_at : (h b : ℕ) (t : Term) (i j : ℕ) → is_perfect h t ≡ true → IsIn b t i → IsIn b t j → (j ≡ i → ⊥) → IsSome (leaf_at b t j) → At (fork_of h b i j) (way b t i) j
unfolding is_perfect width
fork_at zero b (Leaf v) i j e hi hj ne taken = absurd (ne (omega arith))
fork_at (suc h) b (Leaf v) i j e hi hj ne taken = absurd (true≢false (sym e))
fork_at zero b (Branch p l r) i j e hi hj ne taken = absurd (true≢false (sym e))
fork_at (suc h) b (Branch p l r) i j e hi hj ne taken =
    let q = and_parts (is_perfect h l) (is_perfect h r) e in
    let w : width l ≡ leaves_in h = width-perfect h l q.0 ∙ sym (width_perfect h) in
    let z : size l ≡ nodes_in h = size-perfect h l q.0 in
    elim (cases_lt i (b + width l)) [
      | inl li ↦
          let s : Step = step_at p (2 * b + size l) (b + width l) r in
          subst (λ ss. At (fork_of (suc h) b i j) ss j) (sym (way_left b p l r i li)) elim (cases_lt j (b + width l)) [
            | inl lj ↦
                subst (λ x. At x (s ∷ way b l i) j) (sym (fork_left h b i j (omega arith) (omega arith)))
                (part_below s (way b l i) j (fork_of h b i j) (below (b + width l) (width r) j lj)
                (fork_at h b l i j q.0 (record { low = hi.low; high = li }) (record { low = hj.low; high = lj }) ne (subst IsSome (leaf_at_left b p l r j lj) taken)))
            | inr rj ↦
                subst (λ x. At x (s ∷ way b l i) j) (ap (λ n. 2 * b + n) z ∙ sym (fork_between h b i j (omega arith) (omega arith)))
                (part_here s (way b l i) j (within (b + width l) (width r) j rj (omega arith)) (subst IsSome (leaf_at_right b p l r j rj) taken))
          ]
      | inr ri ↦
          let s : Step = step_at p (2 * b + size l) b l in
          subst (λ ss. At (fork_of (suc h) b i j) ss j) (sym (way_right b p l r i ri)) elim (cases_lt j (b + width l)) [
            | inl lj ↦
                subst (λ x. At x (s ∷ way (b + width l) r i) j) (ap (λ n. 2 * b + n) z ∙ sym (fork_across h b i j (omega arith) (omega arith)))
                (part_here s (way (b + width l) r i) j (within b (width l) j hj.low lj) (subst IsSome (leaf_at_left b p l r j lj) taken))
            | inr rj ↦
                subst (λ x. At x (s ∷ way (b + width l) r i) j) (ap (λ n. fork_of h n i j) (ap (λ n. b + n) w) ∙ sym (fork_right h b i j (omega arith) (omega arith)))
                (part_below s (way (b + width l) r i) j (fork_of h (b + width l) i j) (beyond b (width l) j rj)
                (fork_at h (b + width l) r i j q.1 (record { low = ri; high = omega arith }) (record { low = rj; high = omega arith }) ne (subst IsSome (leaf_at_right b p l r j rj) taken)))
          ]
    ]

pub secret_at_ancestor : SecretAtAncestor
unfolding filtered_path filtered_way nodes_of
secret_at_ancestor h t i j start perfect tree two taken =
    let w : width t ≡ leaves_in h = width-perfect h t perfect ∙ sym (width_perfect h) in
    let first : IsIn 0 t i = two.first in
    let second : IsIn 0 t j = two.second in
    record {
      number = filtered_below (way 0 t i) j;
      node = fork_of h 0 i j;
      over_both = common_ancestor_of-leaves (width t) h i j tree (let k : i < 0 + width t = first.high in omega arith) (let k : j < 0 + width t = second.high in omega arith);
      in_path = fork_at h 0 t i j perfect first second two.apart taken;
      secret = secret_is (way 0 t i) j start;
    }

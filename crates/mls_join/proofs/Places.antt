-- The first leaf that passes a test, one leaf after another.
use Rattle.std.proofs.Common.{◌≡◌, ℕ, zero, suc, ◌+◌, ◌-◌, ◌<◌, ◌≤◌, Bool, true, false, if◌then◌else◌, Option, Some, None, refl, sym, ap, ◌∙◌, arith, add-one}
use Rattle.std.specs.Prelude.{find}
use Rattle.std.specs.Bool.{Decides}
use Rattle.std.specs.Option.{option_map, option_or}
use Rattle.std.proofs.lemmas.List.Folds.{find-append}
use Rattle.std.proofs.lemmas.Slice.Eq.{bytes_eq-Decides}
use Rattle.mls_leaf.specs.Leaf.{leaf_node}
use Rattle.mls_leaf.proofs.WholeLaws.{spells_same}
use Rattle.mls_leaf.specs.declared.leaf.LeafNode.{LeafNode}
use Rattle.mls_tree_model.specs.Term.{Term, Leaf, Branch, width, leaf_at, leaf_of}
use Rattle.mls_tree_model.specs.Keys.{members}
use Rattle.mls_tree_model.proofs.Equations.{leaf_at_leaf, leaf_at_left, leaf_at_right, leaf_of_in, members_blank_leaf, members_leaf, members_branch}
use Rattle.mls_model.specs.Join.{is_same_leaf, place_of}
use Rattle.mls_join.specs.Stages.{is_at}

-- ---- two leaves

-- leaves with a spelling are spelled alike just where they are the same
pub same_decides : (x y : LeafNode) → leaf_node.Fits x → leaf_node.Fits y → Decides (is_same_leaf x y) (x ≡ y)
same_decides x y one other =
    let d = bytes_eq-Decides (leaf_node.spell x) (leaf_node.spell y) in
    (λ e. spells_same leaf_node x y (leaf_node.spell x) (record { fits = one; spelled = refl }) (record { fits = other; spelled = d.0 e }), λ e. d.1 (ap leaf_node.spell e))

-- ---- the first of some leaves

-- the first of the n leaves from leaf i on that passes a test
abbrev pub first_from : (ℕ → Bool) → ℕ → ℕ → Option ℕ
first_from p i zero = None
first_from p i (suc n) = if p i then Some i else first_from p (suc i) n

either_first : (t : Bool) (i : ℕ) (x y : Option ℕ) → (if t then Some i else option_or x y) ≡ option_or (if t then Some i else x) y
either_first true i x y = refl
either_first false i x y = refl

first_add : (p : ℕ → Bool) (i n m : ℕ) → first_from p i (n + m) ≡ option_or (first_from p i n) (first_from p (i + n) m)
first_add p i zero m =
    let e : 0 + m ≡ m = omega arith in
    let g : i ≡ i + 0 = omega arith in
    ap (first_from p i) e ∙ ap (λ j. first_from p j m) g
first_add p i (suc n) m =
    let e : suc n + m ≡ suc (n + m) = omega arith in
    let g : suc i + n ≡ i + suc n = omega arith in
    ap (first_from p i) e
    ∙ ap (λ (o : Option ℕ). if p i then Some i else o) (first_add p (suc i) n m ∙ ap (λ j. option_or (first_from p (suc i) n) (first_from p j m)) g)
    ∙ either_first (p i) i (first_from p (suc i) n) (first_from p (i + suc n) m)

first_same : (p q : ℕ → Bool) (i n : ℕ) → ((j : ℕ) → i ≤ j → j < i + n → p j ≡ q j) → first_from p i n ≡ first_from q i n
first_same p q i zero same = refl
first_same p q i (suc n) same =
    ap (λ (t : Bool). if t then Some i else first_from p (suc i) n) (same i (omega arith) (omega arith))
    ∙ ap (λ (o : Option ℕ). if q i then Some i else o) (first_same p q (suc i) n (λ j low high. same j (omega arith) (omega arith)))

-- ---- among the members of a tree

abbrev is_this : LeafNode → ℕ × LeafNode → Bool
is_this leaf x = is_same_leaf x.1 leaf

abbrev number_in : Option (ℕ × LeafNode) → Option ℕ
number_in o = option_map (λ x. x.0) o

one_here : (t : Bool) (b : ℕ) (v : LeafNode) → number_in (if t then Some (b, v) else None) ≡ (if t then Some b else None)
one_here true b v = refl
one_here false b v = refl

numbers_or : (x y : Option (ℕ × LeafNode)) → number_in (option_or x y) ≡ option_or (number_in x) (number_in y)
numbers_or None y = refl
numbers_or (Some x) y = refl

module _ (leaf : LeafNode) where
  abbrev pub at : (ℕ → Option LeafNode) → ℕ → Bool
  at f j = is_at leaf (f j)

  found : (b : ℕ) (t : Term) → number_in (find (is_this leaf) (members b t)) ≡ first_from (at (leaf_at b t)) b (width t)
  unfolding width
  found b (Leaf None) =
      ap (λ xs. number_in (find (is_this leaf) xs)) (members_blank_leaf b)
      ∙ ap (λ v. if is_at leaf v then Some b else None) (sym (leaf_at_leaf b None b))
  found b (Leaf (Some v)) =
      ap (λ xs. number_in (find (is_this leaf) xs)) (members_leaf b v)
      ∙ one_here (is_same_leaf v leaf) b v
      ∙ ap (λ v. if is_at leaf v then Some b else None) (sym (leaf_at_leaf b (Some v) b))
  found b (Branch c l r) =
      ap (λ xs. number_in (find (is_this leaf) xs)) (members_branch b c l r)
      ∙ ap number_in (find-append (is_this leaf) (members b l) (members (b + width l) r))
      ∙ numbers_or (find (is_this leaf) (members b l)) (find (is_this leaf) (members (b + width l) r))
      ∙ ap (λ o. option_or o (number_in (find (is_this leaf) (members (b + width l) r)))) (found b l ∙ first_same (at (leaf_at b l)) (at (leaf_at b (Branch c l r))) b (width l) (λ j low high. ap (is_at leaf) (sym (leaf_at_left b c l r j high))))
      ∙ ap (option_or (first_from (at (leaf_at b (Branch c l r))) b (width l))) (found (b + width l) r ∙ first_same (at (leaf_at (b + width l) r)) (at (leaf_at b (Branch c l r))) (b + width l) (width r) (λ j low high. ap (is_at leaf) (sym (leaf_at_right b c l r j low))))
      ∙ sym (first_add (at (leaf_at b (Branch c l r))) b (width l) (width r))

  pub found_first : (t : Term) → first_from (at (leaf_of t)) 0 (width t - 0) ≡ option_map (λ x. x.0) (place_of leaf t)
  unfolding place_of
  found_first t =
      let e : width t - 0 ≡ width t = omega arith in
      ap (first_from (at (leaf_of t)) 0) e
      ∙ first_same (at (leaf_of t)) (at (leaf_at 0 t)) 0 (width t) (λ j low high. ap (is_at leaf) (leaf_of_in t j (omega arith)))
      ∙ sym (found 0 t)

  one_more : (t : Term) (i : ℕ) → i < width t → first_from (at (leaf_of t)) i (width t - i) ≡ (if is_at leaf (leaf_of t i) then Some i else first_from (at (leaf_of t)) (i + 1) (width t - (i + 1)))
  one_more t i lt =
      let e : width t - i ≡ suc (width t - (i + 1)) = omega arith in
      ap (first_from (at (leaf_of t)) i) e
      ∙ ap (λ j. if is_at leaf (leaf_of t i) then Some i else first_from (at (leaf_of t)) j (width t - (i + 1))) (sym (add-one i))

  pub is_here : (t : Term) (i : ℕ) → i < width t → is_at leaf (leaf_of t i) ≡ true → first_from (at (leaf_of t)) i (width t - i) ≡ Some i
  is_here t i lt e = one_more t i lt ∙ rw e refl

  pub is_later : (t : Term) (i : ℕ) → i < width t → is_at leaf (leaf_of t i) ≡ false → first_from (at (leaf_of t)) i (width t - i) ≡ first_from (at (leaf_of t)) (i + 1) (width t - (i + 1))
  is_later t i lt e = one_more t i lt ∙ rw e refl

  pub is_none : (t : Term) (i : ℕ) → width t ≤ i → first_from (at (leaf_of t)) i (width t - i) ≡ None
  is_none t i ge =
      let e : width t - i ≡ 0 = omega arith in
      ap (first_from (at (leaf_of t)) i) e

-- Which nodes are cold after a call.
use Rattle.std.proofs.Common.{◌≡◌, ℕ, suc, ◌+◌, ◌-◌, ◌*◌, ◌^◌, ◌<◌, ◌≤◌, nat_le, Bool, true, false, not, ◌||◌, List, [], ◌++◌, length, take, replicate, Option, Some, None, is_some, refl, sym, ◌∙◌, ap, subst, arith, inl, inr, le-leb, length-append, add-one}
use Rattle.std.specs.Prelude.{Result, Ok, Err, OnErr}
use Rattle.std.proofs.Math.Bool.{or-false, or-true}
use Rattle.std.proofs.lemmas.Bool.{true≢false, cases_lt, lt-leb}
use Rattle.std.proofs.lemmas.List.{get_or_append_left, get_or-append_right, length-take-le, length-replicate}
use Rattle.mls_leaf.specs.declared.node.Node.{Node}
use Rattle.mls_treemath.specs.Paths.{nodes_in}
use Rattle.mls_treemath.proofs.Sizes.{nodes_in-suc, nodes_in_up}
use Rattle.mls_tree_model.specs.Sets.{has}
use Rattle.mls_tree_model.specs.Term.{Term, width, size, height, is_perfect, leaf_of}
use Rattle.mls_tree_model.specs.Edits.{first_blank, room_for, grow}
use Rattle.mls_tree_model.specs.Arrays.{term_of}
use Rattle.mls_tree_model.proofs.ShapeLaws.{height-perfect}
use Rattle.mls_tree_model.proofs.PlaceLaws.{first_blank_at, width-grow}
use Rattle.mls_tree_model.proofs.TakenLaws.{some_at, taken_at}
use Rattle.mls_tree_model.proofs.ArrayLaws.{size-term_of, size-perfect, width-term_of, perfect-term_of}
use Rattle.mls_tree_array.proofs.StandingLaws.{height-term_of}
use Rattle.mls_tree_hash.specs.Counter.{counted}
use Rattle.mls_tree_array.specs.KeptHashes.{hashes_of, Keeps, is_cold_at, cold_places, drop_hashes, nodes_upward}
use Rattle.mls_tree_array.proofs.KeptLaws.{keeps_long, none_cold, none_counted, all_counted, cold_none, cold-append, length-drop_hashes, cold-drop_hashes, few_dropped, few_taken, cold_in_take}
use Rattle.mls_tree.specs.Tree.{Tree, term}
use Rattle.mls_tree.specs.ColdNodes.{is_cold, cold_nodes, IsNewTree, Warms, Chills}
use Rattle.mls_tree.proofs.KeptHashes.{grown_perfect}

-- a member's place is inside
inside : (t : Term) (i : ℕ) → is_some (leaf_of t i) ≡ true → i < width t
inside t i some = let found = some_at (leaf_of t i) some in (taken_at t i found.0 found.1).inside

pub new_tree : (t : Tree) (n : ℕ) → t.hashes ≡ replicate n None → n ≡ size (term t) → t.hash_count ≡ 0 → IsNewTree t
new_tree t n kept all none =
    record {
      each = λ k lt. ap (λ hs. is_cold_at hs k) kept ∙ cold_none n k (omega arith);
      count = ap cold_places kept ∙ all_counted n ∙ all;
      done = none;
    }

pub warmed : (old new : Tree) → new.hashes ≡ hashes_of 0 (term old) → new.hash_count ≡ counted old.hash_count (cold_nodes old) → Warms old new
warmed old new all made =
    let none : cold_nodes new ≡ 0 = ap cold_places all ∙ none_cold 0 (term old) in
    let same : cold_nodes old ≡ cold_nodes old - cold_nodes new = omega arith in
    record {
      each = λ n cold. absurd (true≢false (sym cold ∙ none_counted new.hashes n none));
      fewer = omega arith;
      done = made ∙ ap (counted old.hash_count) same;
    }

pub on_err : {A E : Type 0} (r : Result A E) (P : Type 0) → P → OnErr r P
on_err (Ok v) P p = tt
on_err (Err e) P p = p

pub unchanged : (old new : Tree) → new ≡ old → Warms old new
unchanged old new same = subst (Warms old) (sym same) (record { each = λ n cold. cold; fewer = omega arith; done = omega arith })

or_middle : (p q : Bool) (r : Bool) → r ≡ false → (p || q) ≡ (p || (r || q))
or_middle p q r e = rw e refl

module _ (t : Term) (i : ℕ) (old new : Tree) (is : term old ≡ t) (in_tree : i < width t) (shape : is_perfect (height t) t ≡ true) (same : new.hash_count ≡ old.hash_count) where
  -- an edit in place
  pub chilled_in : new.hashes ≡ drop_hashes 0 t i old.hashes → size (term new) ≡ size t → length old.hashes ≡ size t → Chills t i old new
  chilled_in kept as_large long =
      record {
        each = λ n lt.
            let less : n < size t = omega arith in
            let high : i < 0 + width t = omega arith in
            let at : 2 * 0 + n ≡ n = omega arith in
            let outside : nat_le (size (term old)) n ≡ false = lt-leb (size (term old)) n (subst (λ u. n < size u) (sym is) less) in
            ap (λ hs. is_cold_at hs n) kept
            ∙ cold-drop_hashes 0 t i old.hashes n long (omega arith) high less
            ∙ ap (λ x. is_cold old n || has (nodes_upward 0 t i) x) at
            ∙ or_middle (is_cold old n) (has (nodes_upward 0 t i) n) _ outside;
        whole = ap length kept ∙ length-drop_hashes 0 t i old.hashes long ∙ sym as_large;
        few = let few = few_dropped (height t) 0 t i old.hashes shape long in let e : cold_nodes new ≡ cold_places (drop_hashes 0 t i old.hashes) = ap cold_places kept in omega arith;
        done = same;
      }

  -- an edit of which only the first nodes are left
  pub chilled_front : (m : ℕ) → new.hashes ≡ take m (drop_hashes 0 t i old.hashes) → size (term new) ≡ m → m ≤ size t → length old.hashes ≡ size t → Chills t i old new
  chilled_front m kept as_large fits long =
      record {
        each = λ n lt.
            let less : n < size t = omega arith in
            let high : i < 0 + width t = omega arith in
            let at : 2 * 0 + n ≡ n = omega arith in
            let outside : nat_le (size (term old)) n ≡ false = lt-leb (size (term old)) n (subst (λ u. n < size u) (sym is) less) in
            ap (λ hs. is_cold_at hs n) kept
            ∙ cold_in_take m n (drop_hashes 0 t i old.hashes) (omega arith)
            ∙ cold-drop_hashes 0 t i old.hashes n long (omega arith) high less
            ∙ ap (λ x. is_cold old n || has (nodes_upward 0 t i) x) at
            ∙ or_middle (is_cold old n) (has (nodes_upward 0 t i) n) _ outside;
        whole = ap length kept ∙ length-take-le m (drop_hashes 0 t i old.hashes) (let all = length-drop_hashes 0 t i old.hashes long in omega arith) ∙ sym as_large;
        few =
            let few = few_dropped (height t) 0 t i old.hashes shape long in
            let cut = few_taken m (drop_hashes 0 t i old.hashes) in
            let e : cold_nodes new ≡ cold_places (take m (drop_hashes 0 t i old.hashes)) = ap cold_places kept in
            omega arith;
        done = same;
      }

-- cold nodes behind others
cold_behind : (hs : List (Option (List ℕ))) (k m n : ℕ) → length hs ≡ m → n < m + k → is_cold_at (hs ++ replicate k None) n ≡ (is_cold_at hs n || nat_le m n)
cold_behind hs k m n long lt =
    elim (cases_lt n m) [
      | inl less ↦
          ap (λ o. not (is_some o)) (get_or_append_left hs (replicate k None) (Some []) n (omega arith))
          ∙ sym (or-false (is_cold_at hs n))
          ∙ ap (λ v. is_cold_at hs n || v) (sym (lt-leb m n less))
      | inr more ↦
          ap (λ o. not (is_some o)) (get_or-append_right hs (replicate k None) m n (Some []) long more)
          ∙ cold_none k (n - m) (omega arith)
          ∙ sym (or-true (is_cold_at hs n))
          ∙ ap (λ v. is_cold_at hs n || v) (sym (le-leb m n more))
    ]

or_three : (p q r : Bool) → ((p || q) || r) ≡ (p || (q || r))
or_three true q r = refl
or_three false q r = refl

pub chilled_beside : (g : Term) (i k : ℕ) (old new : Tree) → i < width g → is_perfect (height g) g ≡ true → new.hash_count ≡ old.hash_count → new.hashes ≡ drop_hashes 0 g i (old.hashes ++ replicate k None) → size (term new) ≡ size g → length old.hashes ≡ size (term old) → size g ≡ size (term old) + k → Chills g i old new
chilled_beside g i k old new in_tree shape same kept as_large long grown =
    let all : length (old.hashes ++ replicate k None) ≡ size g = length-append old.hashes (replicate k None) ∙ ap (λ m. length old.hashes + m) (length-replicate k None) ∙ omega arith in
    record {
      each = λ n lt.
          let less : n < size g = omega arith in
          let high : i < 0 + width g = omega arith in
          let at : 2 * 0 + n ≡ n = omega arith in
          ap (λ hs. is_cold_at hs n) kept
          ∙ cold-drop_hashes 0 g i (old.hashes ++ replicate k None) n all (omega arith) high less
          ∙ ap (λ x. is_cold_at (old.hashes ++ replicate k None) n || has (nodes_upward 0 g i) x) at
          ∙ ap (λ v. v || has (nodes_upward 0 g i) n) (cold_behind old.hashes k (size (term old)) n long (omega arith))
          ∙ or_three (is_cold old n) (nat_le (size (term old)) n) (has (nodes_upward 0 g i) n);
      whole = ap length kept ∙ length-drop_hashes 0 g i (old.hashes ++ replicate k None) all ∙ sym as_large;
      few =
          let few = few_dropped (height g) 0 g i (old.hashes ++ replicate k None) shape all in
          let sum : cold_places (old.hashes ++ replicate k None) ≡ cold_nodes old + k = cold-append old.hashes (replicate k None) ∙ ap (λ m. cold_nodes old + m) (all_counted k) in
          let e : cold_nodes new ≡ cold_places (drop_hashes 0 g i (old.hashes ++ replicate k None)) = ap cold_places kept in
          omega arith;
      done = same;
    }

-- ---- the same, where the trees are given by their parts

abbrev pub tree_of : ℕ → List (Option Node) → List (Option (List ℕ)) → ℕ → Tree
tree_of h xs hs d = record { height = h; nodes = xs; hashes = hs; hash_count = d }

perfect_here : (h : ℕ) (xs : List (Option Node)) → is_perfect (height (term_of h xs)) (term_of h xs) ≡ true
perfect_here h xs = subst (λ k. is_perfect k (term_of h xs) ≡ true) (sym (height-term_of h xs)) (perfect-term_of h xs)

module _ (h i : ℕ) (xs : List (Option Node)) (hs : List (Option (List ℕ))) (d : ℕ) (old : Tree) (view : tree_of h xs hs d ≡ old) (keeps : Keeps 0 (term_of h xs) hs) (is_member : is_some (leaf_of (term old) i) ≡ true) where
  in_tree : i < width (term_of h xs)
  in_tree = inside (term_of h xs) i (ap (λ t. is_some (leaf_of (term t) i)) view ∙ is_member)

  pub edited_in : (ys : List (Option Node)) (gs : List (Option (List ℕ))) (e : ℕ) → gs ≡ drop_hashes 0 (term_of h xs) i hs → e ≡ d → Chills (term old) i old (tree_of h ys gs e)
  edited_in ys gs e is same =
      subst (λ o. Chills (term o) i o (tree_of h ys gs e)) view
      (chilled_in (term_of h xs) i (tree_of h xs hs d) (tree_of h ys gs e) refl in_tree (perfect_here h xs) same is (size-term_of h ys ∙ sym (size-term_of h xs)) (keeps_long 0 (term_of h xs) hs keeps))

  pub trimmed_in : (j n : ℕ) (ys : List (Option Node)) (gs fs : List (Option (List ℕ))) (e : ℕ) → gs ≡ drop_hashes 0 (term_of h xs) i hs → fs ≡ take n gs → n ≡ nodes_in j → j ≤ h → e ≡ d → Chills (term old) i old (tree_of j ys fs e)
  trimmed_in j n ys gs fs e is cut all low same =
      let fits : n ≤ size (term_of h xs) = let a = size-term_of h xs in let b = up j h low in omega arith in
      subst (λ o. Chills (term o) i o (tree_of j ys fs e)) view
      (chilled_front (term_of h xs) i (tree_of h xs hs d) (tree_of j ys fs e) refl in_tree (perfect_here h xs) same n (cut ∙ ap (take n) is) (size-term_of j ys ∙ sym all) fits (keeps_long 0 (term_of h xs) hs keeps))
    where
      up : (j h : ℕ) → j ≤ h → nodes_in j ≤ nodes_in h
      up j h low = elim (cases_lt j h) [ inl lt ↦ (let e = nodes_in_up (suc j) h (omega arith) in let s = nodes_in-suc j in omega arith) | inr ge ↦ (let e : j ≡ h = omega arith in let f = ap nodes_in e in omega arith) ]

-- added in the same tree
module _ (h : ℕ) (xs cells : List (Option Node)) (hs : List (Option (List ℕ))) (d : ℕ) (old : Tree) (view : tree_of h xs hs d ≡ old) (same_cells : cells ≡ xs) (keeps : Keeps 0 (term_of h xs) hs) where
  first_is : (o : Option ℕ) → o ≡ first_blank 0 (term_of h cells) → first_blank 0 (term old) ≡ o
  first_is o e = sym (e ∙ ap (λ ys. first_blank 0 (term_of h ys)) same_cells ∙ ap (λ t. first_blank 0 (term t)) view)

  pub added_in : (i : ℕ) → Some i ≡ first_blank 0 (term_of h cells) → (ys : List (Option Node)) (gs : List (Option (List ℕ))) (e : ℕ) → gs ≡ drop_hashes 0 (term_of h xs) i hs → e ≡ d → Chills (room_for (first_blank 0 (term old)) (term old)) i old (tree_of h ys gs e)
  added_in i some ys gs e is same =
      let found = first_blank_at 0 (term_of h xs) i (ap (λ t. first_blank 0 (term t)) view ∙ first_is (Some i) some) in
      rw (first_is (Some i) some)
      (subst (λ o. Chills (term o) i o (tree_of h ys gs e)) view
      (chilled_in (term_of h xs) i (tree_of h xs hs d) (tree_of h ys gs e) refl (omega (arith, found.1)) (perfect_here h xs) same is (size-term_of h ys ∙ sym (size-term_of h xs)) (keeps_long 0 (term_of h xs) hs keeps)))

  pub added_beside : (i : ℕ) → None ≡ first_blank 0 (term_of h cells) → i ≡ 2 ^ h → (ys : List (Option Node)) (gs : List (Option (List ℕ))) (e : ℕ) → gs ≡ drop_hashes 0 (grow (term_of h xs)) (2 ^ h) (hs ++ replicate (suc (nodes_in h)) None) → e ≡ d → Chills (room_for (first_blank 0 (term old)) (term old)) i old (tree_of (h + 1) ys gs e)
  added_beside i none at ys gs e is same =
      let g = grow (term_of h xs) in
      let wide : width (term_of h xs) < width g = width-grow (term_of h xs) in
      let low : 2 ^ h < width g = subst (λ w. w < width g) (width-term_of h xs) wide in
      let tall : is_perfect (height g) g ≡ true = subst (λ k. is_perfect k g ≡ true) (sym (height-perfect (h + 1) g (grown_perfect h xs))) (grown_perfect h xs) in
      let large : size g ≡ size (term_of h xs) + suc (nodes_in h) = size-perfect (h + 1) g (grown_perfect h xs) ∙ ap nodes_in (add-one h) ∙ nodes_in-suc h ∙ ap (λ n. n + suc (nodes_in h)) (sym (size-term_of h xs)) in
      rw (first_is None none, at)
      (subst (λ o. Chills (grow (term o)) (2 ^ h) o (tree_of (h + 1) ys gs e)) view
      (chilled_beside g (2 ^ h) (suc (nodes_in h)) (tree_of h xs hs d) (tree_of (h + 1) ys gs e) low tall same is (size-term_of (h + 1) ys ∙ sym (size-perfect (h + 1) g (grown_perfect h xs))) (keeps_long 0 (term_of h xs) hs keeps) large))

-- A rising list in two parts, and an original tree by the leaves that lie in it.
use Rattle.std.proofs.Common.{◌≡◌, ◌≢◌, ℕ, zero, suc, ◌+◌, ◌<◌, ◌≤◌, Bool, true, false, ◌||◌, ◌==◌, cond, List, [], ◌∷◌, length, get_or, take, drop, Result, Ok, Err, Option, Some, None, refl, sym, ap, ◌∙◌, arith, nat_cmp, length-take}
use Rattle.std.specs.Prelude.{nat_le}
use Rattle.std.specs.List.Sorted.{IsBinarySearchResult}
use Rattle.std.proofs.lemmas.Bool.{and_parts, leb-true, ne_eqb, or_left, or_right}
use Rattle.std.proofs.lemmas.List.{get_or-take, get_or-drop, take-append-drop, length-drop}
use Rattle.std.proofs.lemmas.List.Sorted.{searched}
use Rattle.std.proofs.Math.Bool.{or-false}
use Rattle.mls_leaf.specs.Parent.{Parent, rises_from}
use Rattle.mls_leaf.proofs.ParentLaws.{rises_from-nil, rises_from-cons, rises_from-more}
use Rattle.mls_leaf.proofs.RisingLaws.{above_front, no_less, from_lower}
use Rattle.mls_tree_model.specs.Term.{Term, Leaf, Branch, width}
use Rattle.mls_tree_model.specs.Sets.{has, less}
use Rattle.mls_tree_model.proofs.SetLaws.{has-append, eqb_refl}
use Rattle.mls_tree_model.specs.Lists.{parent_passes, all_parents, lists_here}
use Rattle.mls_tree_model.proofs.NamedLaws.{lists_bound}
use Rattle.mls_tree_model.proofs.ParentLaws.{parents_parts}
use Rattle.mls_tree_model.specs.Hashes.{tree_hash, unlist_leaves, original_tree}
use Rattle.mls_tree_array.specs.Splits.{Splits}
use Rattle.mls_tree_array.specs.Subtrees.{Subtree, IsOver}
use Rattle.mls_tree_array.proofs.Sides.{second}

-- ---- its parts rise

take_rises : (low n : ℕ) (xs : List ℕ) → rises_from low xs ≡ true → rises_from low (take n xs) ≡ true
take_rises low zero xs rise = rises_from-nil low
take_rises low (suc n) [] rise = rises_from-nil low
take_rises low (suc n) (x ∷ xs) rise =
    let both = and_parts (nat_le low x) (rises_from (x + 1) xs) (sym (rises_from-cons low x xs) ∙ rise) in
    rises_from-more low x (take n xs) (leb-true low x both.0) ∙ take_rises (x + 1) n xs both.1

drop_rises : (low n : ℕ) (xs : List ℕ) → rises_from low xs ≡ true → rises_from low (drop n xs) ≡ true
drop_rises low zero xs rise = rise
drop_rises low (suc n) [] rise = rise
drop_rises low (suc n) (x ∷ xs) rise =
    let both = and_parts (nat_le low x) (rises_from (x + 1) xs) (sym (rises_from-cons low x xs) ∙ rise) in
    let above = leb-true low x both.0 in
    from_lower low (x + 1) (drop n xs) (omega arith) (drop_rises (x + 1) n xs both.1)

-- ---- which part has a number

nowhere : (xs : List ℕ) (x : ℕ) → ((k : ℕ) → k < length xs → get_or xs k 0 ≢ x) → has xs x ≡ false
unfolding has
nowhere [] x none = refl
nowhere (y ∷ xs) x none = ap (λ (b : Bool). b || has xs x) (ne_eqb y x (none 0 (omega arith))) ∙ nowhere xs x (λ k lt. none (suc k) (omega arith))

in_two : (us : List ℕ) (n j : ℕ) → has us j ≡ (has (take n us) j || has (drop n us) j)
in_two us n j = ap (λ l. has l j) (sym (take-append-drop n us)) ∙ has-append (take n us) (drop n us) j

split_at : (us : List ℕ) (x n : ℕ) → rises_from 0 us ≡ true → n ≤ length us → ((k : ℕ) → k < n → get_or us k 0 < x) → ((k : ℕ) → n ≤ k → k < length us → x ≤ get_or us k 0) → Splits us x n
split_at us x n rise fits low high =
    record {
      within = fits;
      before = λ j lt.
          let none : has (drop n us) j ≡ false = nowhere (drop n us) j (λ k less e.
          let long = length-drop n us in
          let is = get_or-drop n us k 0 in
          let above = high (n + k) (omega arith) (omega arith) in
          absurd (omega arith)) in
          in_two us n j ∙ ap (λ v. has (take n us) j || v) none ∙ or-false (has (take n us) j);
      behind = λ j ge.
          let none : has (take n us) j ≡ false = nowhere (take n us) j (λ k less e.
          let long = length-take n us in
          let in_front : k < n = omega arith in
          let is = get_or-take n us k 0 in_front in
          let below = low k in_front in
          absurd (omega arith)) in
          in_two us n j ∙ ap (λ v. v || has (drop n us) j) none;
      front_rises = take_rises 0 n us rise;
      back_rises = drop_rises 0 n us rise;
    }

abbrev place_of : Result ℕ ℕ → ℕ
place_of (Ok i) = i
place_of (Err i) = i

pub splits_at : (us : List ℕ) (x : ℕ) (r : Result ℕ ℕ) → rises_from 0 us ≡ true → IsBinarySearchResult (λ y. nat_cmp y x) us r → Splits us x (place_of r)
splits_at us x (Ok i) rise h =
    let at = searched us x (Ok i) h (λ a b. no_less us a b rise) in
    let less = at.0 in
    let is = at.1 in
    split_at us x i rise (omega arith) (λ k lt. let above = above_front 0 us k i rise lt less in omega arith) (λ k ge lt. let above = no_less us i k rise ge lt in omega arith)
splits_at us x (Err i) rise h =
    let at = searched us x (Err i) h (λ a b. no_less us a b rise) in
    split_at us x i rise at.0 at.1 (λ k ge lt. let above = at.2 k ge lt in omega arith)

-- ---- an original tree depends on the leaves that lie in it

less_same : (us vs xs : List ℕ) → ((x : ℕ) → has xs x ≡ true → has us x ≡ has vs x) → less us xs ≡ less vs xs
unfolding has
less_same us vs [] same = refl
less_same us vs (x ∷ xs) same =
    let here : has us x ≡ has vs x = same x (or_left (x == x) (has xs x) (eqb_refl x)) in
    let rest = less_same us vs xs (λ y e. same y (or_right (x == y) (has xs y) e)) in
    rw (here, rest) refl

unlisting_same : (us vs : List ℕ) (b : ℕ) (c : Option Parent) (l r : Term) → parent_passes lists_here b c l r ≡ true → ((j : ℕ) → b ≤ j → j < b + (width l + width r) → has us j ≡ has vs j) → unlist_leaves us c ≡ unlist_leaves vs c
unlisting_same us vs b None l r h same = refl
unlisting_same us vs b (Some p) l r h same =
    ap (λ ys. let q : Parent = record { encryption_key = p.encryption_key; parent_hash = p.parent_hash; unmerged_leaves = ys } in Some q)
    (less_same us vs p.unmerged_leaves (λ x e. let at = lists_bound b p l r x h e in same x at.0 at.1))

original_same : (us vs : List ℕ) (b : ℕ) (t : Term) → all_parents lists_here b t ≡ true → ((j : ℕ) → b ≤ j → j < b + width t → has us j ≡ has vs j) → original_tree us b t ≡ original_tree vs b t
unfolding original_tree width
original_same us vs b (Leaf v) h same = ap (λ w. Leaf (cond w None v)) (same b (omega arith) (omega arith))
original_same us vs b (Branch c l r) h same =
    let p = parents_parts lists_here b c l r h in
    ap (λ d. Branch d (original_tree us b l) (original_tree us (b + width l) r)) (unlisting_same us vs b c l r p.0 same)
    ∙ ap (λ x. Branch (unlist_leaves vs c) x (original_tree us (b + width l) r)) (original_same us vs b l p.1 (λ j low high. same j low (omega arith)))
    ∙ ap (λ x. Branch (unlist_leaves vs c) (original_tree vs b l) x) (original_same us vs (b + width l) r p.2 (λ j low high. same j (omega arith) (omega arith)))

-- so each side needs the leaves on it alone
module _ (t l : Subtree) (c : Option Parent) (r : Subtree) (over : IsOver t l c r) (lists : all_parents lists_here t.first t.term ≡ true) where
  pub side_lists : (all_parents lists_here l.first l.term ≡ true) × (all_parents lists_here r.first r.term ≡ true)
  side_lists =
      let p = parents_parts lists_here t.first c l.term r.term (ap (all_parents lists_here t.first) (sym over.is) ∙ lists) in
      (rw over.left_first p.1, rw over.right_first p.2)

  pub left_original : (us : List ℕ) (k : ℕ) → Splits us r.first k → tree_hash l.first (original_tree (take k us) l.first l.term) ≡ tree_hash l.first (original_tree us l.first l.term)
  left_original us k splits =
      let is = second t l c r over in
      ap (tree_hash l.first) (original_same (take k us) us l.first l.term side_lists.0 (λ j low high. sym (splits.before j (omega arith))))

  pub right_original : (us : List ℕ) (k : ℕ) → Splits us r.first k → tree_hash r.first (original_tree (drop k us) r.first r.term) ≡ tree_hash r.first (original_tree us r.first r.term)
  right_original us k splits =
      ap (tree_hash r.first) (original_same (drop k us) us r.first r.term side_lists.1 (λ j low high. sym (splits.behind j low)))

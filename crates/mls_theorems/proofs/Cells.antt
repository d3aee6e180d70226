-- A tree that is made of nodes that have a spelling, as they are sent.
use Rattle.std.proofs.Common.{◌≡◌, ℕ, zero, suc, ◌+◌, true, List, [], ◌∷◌, length, get_or, take, drop, Option, Some, None, Ok, refl, subst, ◌∙◌}
use Rattle.std.specs.List.{AllByRecursion}
use Rattle.std.proofs.lemmas.Bool.{and_from, leb-true}
use Rattle.mls_wire.specs.Checks.{passed}
use Rattle.mls_wire.specs.Laws.{ok_is}
use Rattle.mls_leaf.specs.Node.{node}
use Rattle.mls_leaf.specs.Parent.{Parent, rises_from}
use Rattle.mls_leaf.proofs.ParentLaws.{rises_from-nil, rises_from-more}
use Rattle.mls_leaf.specs.ParentNode.{parent_node, rising_rule}
use Rattle.mls_leaf.specs.declared.node.Node.{Node}
use Rattle.mls_leaf.specs.declared.node.Node.TheVariants.{Leaf as in_leaf, Parent as in_parent}
use Rattle.mls_suite.specs.Crypto.{Crypto}
use Rattle.mls_treemath.specs.Paths.{nodes_in}
use Rattle.mls_tree_model.proofs.ArrayLaws.{perfect-term_of}
use Rattle.mls_tree_model.specs.Arrays.{leaf_in, parent_in, term_of, with_padding, height_for, has_last, alternates, sent_term, from_nodes}
use Rattle.mls_tree_model.specs.Good.{IsGood, has_good_shape, is_within, tree_checks}
use Rattle.mls_tree_model.proofs.GoodLaws.{good_from_checks}
use Rattle.mls_tree_model.specs.Lists.{all_parents, parent_passes, rises_here}
use Rattle.mls_tree_model.proofs.PlaceLaws.{perfect_itself}
use Rattle.mls_tree_model.specs.Term.{Term, height, is_full_width, is_perfect}
use Rattle.mls_tree.specs.Rules.{rules_of}
use Rattle.mls_tree.specs.Tree.{max_leaves}
use Rattle.mls_model.specs.MemberInvariant.{NodeFits}
use Rattle.mls_theorems.specs.NodeSpelling.{LeafFits, ParentShort, PartsFit}
use Rattle.mls_wire.proofs.CheckLaws.{require_ok}
use Rattle.mls_wire.specs.StatefulReads.{RunFits}
use Rattle.mls_tree.proofs.Cells.{Cells, of_front, of_back, of_padded}

-- ---- what holds of each cell, and of a blank one

of_all : (P : Option Node → Type 0) → P None → (xs : List (Option Node)) → AllByRecursion P xs → Cells P xs
of_all P blank [] all zero = blank
of_all P blank [] all (suc k) = blank
of_all P blank (x ∷ xs) all zero = all.0
of_all P blank (x ∷ xs) all (suc k) = of_all P blank xs all.1 k

-- ---- lists rise

list_rises : (low : ℕ) (xs : List ℕ) → RunFits rising_rule low xs → rises_from low xs ≡ true
list_rises low [] fits = rises_from-nil low
list_rises low (x ∷ xs) fits = rises_from-more low x xs (leb-true low x fits.0.1) ∙ list_rises (x + 1) xs fits.1

abbrev ParentRises : Option Parent → Type 0
ParentRises None = Unit {0}
ParentRises (Some p) = rises_from 0 p.unmerged_leaves ≡ true

cell_rises : (c : Option Node) → NodeFits c → ParentRises (parent_in c)
unfolding node parent_node
cell_rises None fits = tt
cell_rises (Some (in_leaf v)) fits = tt
cell_rises (Some (in_parent p)) fits = list_rises 0 p.unmerged_leaves fits.1.1.1.0

asked_here : (c : Option Parent) (b : ℕ) (l r : Term) → ParentRises c → parent_passes rises_here b c l r ≡ true
unfolding rises_here
asked_here None b l r e = refl
asked_here (Some p) b l r e = e

cells_rise : (h b : ℕ) (xs : List (Option Node)) → Cells NodeFits xs → all_parents rises_here b (term_of h xs) ≡ true
unfolding term_of all_parents
cells_rise zero b xs all = refl
cells_rise (suc h) b xs all =
    and_from _ _ (asked_here (parent_in (get_or xs (nodes_in h) None)) b _ _ (cell_rises (get_or xs (nodes_in h) None) (all (nodes_in h))))
    (and_from _ _
    (cells_rise h b (take (nodes_in h) xs) (of_front NodeFits tt (nodes_in h) xs all))
    (cells_rise h _ (drop (suc (nodes_in h)) xs) (of_back NodeFits (suc (nodes_in h)) xs all)))

-- ---- parts have a spelling

cell_leaf : (c : Option Node) → NodeFits c → LeafFits (leaf_in c)
unfolding node
cell_leaf None fits = tt
cell_leaf (Some (in_leaf v)) fits = fits.1
cell_leaf (Some (in_parent p)) fits = tt

cell_parent : (c : Option Node) → NodeFits c → ParentShort (parent_in c)
unfolding node parent_node
cell_parent None fits = tt
cell_parent (Some (in_leaf v)) fits = tt
cell_parent (Some (in_parent p)) fits = (fits.1.0, fits.1.1.0)

cells_parts : (h : ℕ) (xs : List (Option Node)) → Cells NodeFits xs → PartsFit (term_of h xs)
unfolding term_of PartsFit
cells_parts zero xs all = cell_leaf (get_or xs 0 None) (all 0)
cells_parts (suc h) xs all = (
  cell_parent (get_or xs (nodes_in h) None) (all (nodes_in h)),
  (cells_parts h (take (nodes_in h) xs) (of_front NodeFits tt (nodes_in h) xs all), cells_parts h (drop (suc (nodes_in h)) xs) (of_back NodeFits (suc (nodes_in h)) xs all)),
)

-- ---- the tree

sent_cells : (xs : List (Option Node)) → AllByRecursion NodeFits xs → Cells NodeFits (with_padding xs)
unfolding with_padding
sent_cells xs fits = of_padded NodeFits tt _ xs (of_all NodeFits tt xs fits)

sent_rises : (xs : List (Option Node)) → AllByRecursion NodeFits xs → all_parents rises_here 0 (sent_term xs) ≡ true
unfolding sent_term
sent_rises xs fits = cells_rise (height_for (length xs)) 0 (with_padding xs) (sent_cells xs fits)

sent_parts : (xs : List (Option Node)) → AllByRecursion NodeFits xs → PartsFit (sent_term xs)
unfolding sent_term
sent_parts xs fits = cells_parts (height_for (length xs)) (with_padding xs) (sent_cells xs fits)

sent_perfect : (xs : List (Option Node)) → is_perfect (height (sent_term xs)) (sent_term xs) ≡ true
unfolding sent_term
sent_perfect xs = perfect_itself (height_for (length xs)) _ (perfect-term_of (height_for (length xs)) (with_padding xs))

shaped : (t : Term) → is_full_width t ≡ true → has_good_shape t ≡ true
unfolding has_good_shape
shaped t e = e

-- what was taken of nodes
record IsSent (xs : List (Option Node)) (t : Term) : Type 0 where
  is : sent_term xs ≡ t
  full : is_full_width (sent_term xs) ≡ true
  within : is_within max_leaves (sent_term xs) ≡ true

sent_is : (xs : List (Option Node)) (t : Term) → from_nodes max_leaves xs ≡ Ok t → IsSent xs t
unfolding from_nodes
sent_is xs t h =
    let s1 = require_ok 20 (has_last xs) _ _ h in
    let s2 = require_ok 20 (alternates true xs) _ _ s1.1 in
    let s3 = require_ok 20 (is_full_width (sent_term xs)) _ _ s2.1 in
    let s4 = require_ok 21 (is_within max_leaves (sent_term xs)) _ _ s3.1 in
    record { is = ok_is _ _ s4.1; full = s3.0; within = s4.0 }

-- it is good where its checks pass, and its parts have a spelling
pub taken_good : (c : Crypto) (group : List ℕ) (xs : List (Option Node)) (t : Term) → AllByRecursion NodeFits xs → from_nodes max_leaves xs ≡ Ok t → tree_checks (rules_of c group) t ≡ Ok passed → IsGood (rules_of c group) t
taken_good c group xs t fits h checks =
    let s = sent_is xs t h in
    good_from_checks (rules_of c group) t
    (subst (λ u. is_perfect (height u) u ≡ true) s.is (sent_perfect xs))
    (subst (λ u. all_parents rises_here 0 u ≡ true) s.is (sent_rises xs fits))
    (subst (λ u. has_good_shape u ≡ true) s.is (shaped (sent_term xs) s.full))
    (subst (λ u. is_within max_leaves u ≡ true) s.is s.within)
    checks

pub taken_parts : (xs : List (Option Node)) (t : Term) → AllByRecursion NodeFits xs → from_nodes max_leaves xs ≡ Ok t → PartsFit t
taken_parts xs t fits h = subst PartsFit (sent_is xs t h).is (sent_parts xs fits)

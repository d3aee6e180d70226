-- Nothing is refused of bytes just where they spell a good tree.
use Rattle.std.proofs.Common.{◌≡◌, ℕ, zero, suc, ◌+◌, true, List, [], ◌∷◌, length, get_or, take, drop, Option, Some, None, Result, Ok, Err, refl, sym, ◌∙◌, ap, subst}
use Rattle.std.specs.Prelude.{IfOk, IfSome, ◌↔◌}
use Rattle.std.specs.List.{AllByRecursion}
use Rattle.std.specs.declared.alloc.AllocError.{AllocError}
use Rattle.std.proofs.lemmas.Bool.{and_from, leb-true}
use Rattle.mls_wire.specs.Checks.{Passed, passed}
use Rattle.mls_wire.specs.Combine.{optional}
use Rattle.mls_wire.specs.Format.{IsBytes}
use Rattle.mls_wire.specs.Laws.{bind_ok}
use Rattle.mls_wire.specs.StatefulReads.{RunFits}
use Rattle.mls_wire.specs.Whole.{whole}
use Rattle.mls_leaf.specs.Limits.{input_limit}
use Rattle.mls_leaf.specs.Node.{node}
use Rattle.mls_leaf.specs.Parent.{Parent, rises_from}
use Rattle.mls_leaf.proofs.ParentLaws.{rises_from-nil, rises_from-more}
use Rattle.mls_leaf.specs.ParentNode.{parent_node, rising_rule}
use Rattle.mls_leaf.specs.declared.node.Node.{Node}
use Rattle.mls_leaf.specs.declared.node.Node.TheVariants.{Leaf as in_leaf, Parent as in_parent}
use Rattle.mls_leaf.proofs.WholeLaws.{whole_takes}
use Rattle.mls_types.specs.GroupInfo.{ratchet_tree}
use Rattle.mls_suite.specs.Crypto.{Crypto}
use Rattle.mls_treemath.specs.Paths.{nodes_in}
use Rattle.mls_tree_model.specs.Term.{Term, height, is_full_width, is_perfect}
use Rattle.mls_tree_model.specs.Lists.{all_parents, parent_passes, rises_here}
use Rattle.mls_tree_model.specs.Good.{IsGood, has_good_shape, is_within, tree_checks}
use Rattle.mls_tree_model.specs.Arrays.{parent_in, term_of, with_padding, height_for, sent_term, from_nodes}
use Rattle.mls_tree_model.proofs.ArrayLaws.{perfect-term_of}
use Rattle.mls_tree_model.proofs.GoodLaws.{good_from_checks, good_passes}
use Rattle.mls_tree_model.proofs.PlaceLaws.{perfect_itself}
use Rattle.mls_tree.specs.Rules.{rules_of}
use Rattle.mls_tree.specs.Tree.{max_leaves}
use Rattle.mls_cli_text.specs.Page.{page_of}
use Rattle.mls_cli_text.specs.Text.{entry_of}
use Rattle.mls_cli_text.specs.declared.page.Ending.TheVariants.{Good}
use Rattle.mls_cli_text.specs.declared.page.Page as code
use Rattle.mls_cli_text.specs.declared.text.Line.{Line}
use Rattle.mls_cli_check.specs.Check.{SpellsGoodTree, check_text, report_on, tree_in}
use Rattle.mls_cli_check.proofs.Reports.{report_by}
use Rattle.mls_tree.proofs.Cells.{Cells, of_front, of_back, of_padded}
use Rattle.mls_cli_check.proofs.Orders.{rules-by_order}
use Rattle.mls_tree.proofs.SentLemmas.{sent_is}

-- ---- the lists of a tree that bytes spell rise

-- the list of the parent in a cell rises, where there is one
abbrev RisingCell : Option Node → Type 0
RisingCell c = IfSome (parent_in c) (λ p. rises_from 0 p.unmerged_leaves ≡ true)

list_rises : (low : ℕ) (xs : List ℕ) → RunFits rising_rule low xs → rises_from low xs ≡ true
list_rises low [] fits = rises_from-nil low
list_rises low (x ∷ xs) fits = rises_from-more low x xs (leb-true low x fits.0.1) ∙ list_rises (x + 1) xs fits.1

of_cell : (c : Option Node) → (optional node).Fits c → RisingCell c
unfolding node parent_node
of_cell None fits = tt
of_cell (Some (in_leaf v)) fits = tt
of_cell (Some (in_parent p)) fits = list_rises 0 p.unmerged_leaves fits.1.1.1.1.0

of_spelled : (xs : List (Option Node)) → AllByRecursion (optional node).Fits xs → Cells RisingCell xs
of_spelled [] fits k = tt
of_spelled (c ∷ cs) fits zero = of_cell c fits.0
of_spelled (c ∷ cs) fits (suc k) = of_spelled cs fits.1 k

asked_here : (c : Option Parent) (b : ℕ) (l r : Term) → IfSome c (λ p. rises_from 0 p.unmerged_leaves ≡ true) → parent_passes rises_here b c l r ≡ true
unfolding rises_here
asked_here None b l r e = refl
asked_here (Some p) b l r e = e

of_cells : (h b : ℕ) (xs : List (Option Node)) → Cells RisingCell xs → all_parents rises_here b (term_of h xs) ≡ true
unfolding term_of all_parents
of_cells zero b xs all = refl
of_cells (suc h) b xs all =
    and_from _ _ (asked_here (parent_in (get_or xs (nodes_in h) None)) b _ _ (all (nodes_in h)))
    (and_from _ _
    (of_cells h b (take (nodes_in h) xs) (of_front RisingCell tt (nodes_in h) xs all))
    (of_cells h _ (drop (suc (nodes_in h)) xs) (of_back RisingCell (suc (nodes_in h)) xs all)))

sent_rises : (xs : List (Option Node)) → AllByRecursion (optional node).Fits xs → all_parents rises_here 0 (sent_term xs) ≡ true
unfolding sent_term with_padding
sent_rises xs fits = of_cells (height_for (length xs)) 0 _ (of_padded RisingCell tt _ xs (of_spelled xs fits))

sent_perfect : (xs : List (Option Node)) → is_perfect (height (sent_term xs)) (sent_term xs) ≡ true
unfolding sent_term
sent_perfect xs = perfect_itself (height_for (length xs)) _ (perfect-term_of (height_for (length xs)) (with_padding xs))

-- ---- a tree that bytes spell is good where its checks pass

shaped : (t : Term) → is_full_width t ≡ true → has_good_shape t ≡ true
unfolding has_good_shape
shaped t e = e

good_read : (c : Crypto) (group spelled : List ℕ) (t : Term) → IsBytes spelled → tree_in spelled ≡ Ok t → tree_checks (rules_of c group) t ≡ Ok passed → IsGood (rules_of c group) t
unfolding tree_in
good_read c group spelled t are_bytes e checks =
    let parts = bind_ok (whole ratchet_tree input_limit spelled) (from_nodes max_leaves) t e in
    let spells = whole_takes ratchet_tree input_limit spelled parts.0 are_bytes parts.1 in
    let sent = sent_is parts.0 t parts.2 in
    good_from_checks (rules_of c group) t
    (subst (λ s. is_perfect (height s) s ≡ true) sent.0 (sent_perfect parts.0))
    (subst (λ s. all_parents rises_here 0 s ≡ true) sent.0 (sent_rises parts.0 spells.fits.0))
    (subst (λ s. has_good_shape s ≡ true) sent.0 (shaped (sent_term parts.0) sent.1))
    (subst (λ s. is_within max_leaves s ≡ true) sent.0 sent.2)
    checks

-- ---- what a report refuses

none_failed : (c : Crypto) (r : Result Passed ℕ) → (report_by c r).ending ≡ Good → r ≡ Ok passed
none_failed c (Ok passed) e = refl
none_failed c (Err n) e = absurd cc

unrefused : (c : Crypto) (group spelled : List ℕ) (r : Result Term ℕ) → IsBytes spelled → tree_in spelled ≡ r → (report_on c group r).ending ≡ Good → SpellsGoodTree c group spelled
unrefused c group spelled (Ok t) are_bytes is e =
    record {
      tree = t;
      is_read = is;
      good = good_read c group spelled t are_bytes is (none_failed c (tree_checks (rules_of c group) t) (ap (λ p. p.ending) (sym (rules-by_order c group t)) ∙ e));
    }
unrefused c group spelled (Err n) are_bytes is e = absurd cc

refuses_none : (c : Crypto) (group : List ℕ) (t : Term) → IsGood (rules_of c group) t → (report_on c group (Ok t)).ending ≡ Good
refuses_none c group t good = ap (λ p. p.ending) (rules-by_order c group t ∙ ap (report_by c) (good_passes (rules_of c group) t good))

refused_unless_good : (c : Crypto) (group spelled : List ℕ) → IsBytes spelled → ((check_text c spelled group).ending ≡ Good) ↔ SpellsGoodTree c group spelled
unfolding check_text
refused_unless_good c group spelled are_bytes = (
  λ e. unrefused c group spelled (tree_in spelled) are_bytes refl e,
  λ good. ap (λ r. (report_on c group r).ending) good.is_read ∙ refuses_none c group good.tree good.good,
)

pub good_or_refused : (c : Crypto) (group spelled : List ℕ) (r : Result (code.Page Line) AllocError) → IsBytes spelled
    → IfOk r (λ page. page_of entry_of page ≡ check_text c spelled group) → IfOk r (λ page. (page.ending ≡ Good) ↔ SpellsGoodTree c group spelled)
good_or_refused c group spelled (Ok page) are_bytes is =
    let same = ap (λ p. p.ending) is in
    let both = refused_unless_good c group spelled are_bytes in
    (λ e. both.0 (sym same ∙ e), λ good. same ∙ both.1 good)
good_or_refused c group spelled (Err e) are_bytes is = tt

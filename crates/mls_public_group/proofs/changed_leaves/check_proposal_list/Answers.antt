use Rattle.std.proofs.Common.{◌++◌, sym, ap, ◌∙◌, arith}
use Rattle.mls_public_group.proofs.Folding.{apart_updated, apart_removed, apart_twice, apart_second, apart_fine}
use Rattle.mls_public_group.proofs.changed_leaves.check_proposal_list.Goals as goal

pub returns-then-contains : goal.returns-then-contains
returns-then-contains c = λ other.
    apart_updated c.args.committer c.args.used.now c.deref.result.now c.contains.result (c.deref.ensures.value ∙ c.in_ok-changed.ensures) c.contains.ensures.value c.if-contains.true

pub returns-then-contains-2 : goal.returns-then-contains-2
returns-then-contains-2 c = λ other.
    apart_removed c.args.committer c.args.used.now c.deref.result.now c.contains.result (c.deref.ensures.value ∙ c.in_ok-changed.ensures) c.contains.ensures.value c.if-contains.false
    c.deref-2.result.now c.contains-2.result (c.deref-2.ensures.value ∙ c.in_ok-leaving.ensures) c.contains-2.ensures.value c.if-contains-2.true

pub returns-then-not-are_distinct : goal.returns-then-not-are_distinct
returns-then-not-are_distinct c = λ other.
    apart_twice c.args.committer c.args.used.now c.deref.result.now c.contains.result (c.deref.ensures.value ∙ c.in_ok-changed.ensures) c.contains.ensures.value c.if-contains.false
    c.deref-2.result.now c.contains-2.result (c.deref-2.ensures.value ∙ c.in_ok-leaving.ensures) c.contains-2.ensures.value c.if-contains-2.false
    c.extend_from_slice.new.self.items c.are_distinct.result
    (c.in_ok-extend_from_slice.ensures.items ∙ ap (λ xs. xs ++ c.deref-3.result.now) (sym c.deref.ensures.value) ∙ ap (λ xs. c.deref.result.now ++ xs) (c.deref-3.ensures.value ∙ sym c.deref-2.ensures.value))
    c.are_distinct.ensures c.if-not-are_distinct.true

pub returns : goal.returns
returns c =
    apart_fine c.args.committer c.args.used.now c.deref.result.now c.contains.result (c.deref.ensures.value ∙ c.in_ok-changed.ensures) c.contains.ensures.value c.if-contains.false
    c.deref-2.result.now c.contains-2.result (c.deref-2.ensures.value ∙ c.in_ok-leaving.ensures) c.contains-2.ensures.value c.if-contains-2.false
    c.extend_from_slice.new.self.items c.are_distinct.result
    (c.in_ok-extend_from_slice.ensures.items ∙ ap (λ xs. xs ++ c.deref-3.result.now) (sym c.deref.ensures.value) ∙ ap (λ xs. c.deref.result.now ++ xs) (c.deref-3.ensures.value ∙ sym c.deref-2.ensures.value))
    c.are_distinct.ensures c.if-not-are_distinct.false
    c.count_lists.result c.count_lists.ensures (omega (arith, c.if-count_lists-gt1.false))

pub returns-then-count_lists-gt1 : goal.returns-then-count_lists-gt1
returns-then-count_lists-gt1 c = λ other.
    apart_second c.args.committer c.args.used.now c.deref.result.now c.contains.result (c.deref.ensures.value ∙ c.in_ok-changed.ensures) c.contains.ensures.value c.if-contains.false
    c.deref-2.result.now c.contains-2.result (c.deref-2.ensures.value ∙ c.in_ok-leaving.ensures) c.contains-2.ensures.value c.if-contains-2.false
    c.extend_from_slice.new.self.items c.are_distinct.result
    (c.in_ok-extend_from_slice.ensures.items ∙ ap (λ xs. xs ++ c.deref-3.result.now) (sym c.deref.ensures.value) ∙ ap (λ xs. c.deref.result.now ++ xs) (c.deref-3.ensures.value ∙ sym c.deref-2.ensures.value))
    c.are_distinct.ensures c.if-not-are_distinct.false
    c.count_lists.result c.count_lists.ensures (omega (arith, c.if-count_lists-gt1.true))

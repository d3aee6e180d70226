use Rattle.std.proofs.Common.{[], ◌∷◌, ◌++◌, length, sym, ◌∙◌, ap, arith, append_assoc, append-nil, eqb-true}
use Rattle.std.proofs.lemmas.List.{nil_from_length}
use Rattle.mls_tree_index.specs.Blocks.{are_shared, blocks_of, joined}
use Rattle.mls_tree_index.proofs.BlockLaws.{first_block, pushed_blocks, pushed_entries}
use Rattle.mls_tree_index.proofs.StepLaws.{at_least}
use Rattle.mls_tree_index.proofs.blocks.Blocks.new.Goals as goal

pub loop-rest-init : goal.loop-rest-init
loop-rest-init c =
    let none = c.new-list.ensures.items in
    let first = c.split_at.result.0.now in
    let is = c.in_ok-push_block.ensures.blocks ∙ ap (λ vs. blocks_of vs ++ first ∷ []) none in
    record {
      blocks = first_block _ first is;
      entries = ap (λ ns. ns ++ c.split_at.result.1.now) (pushed_entries [] _ first is) ∙ sym c.split_at.ensures.by_index.0;
      own = c.in_ok-push_block.ensures.own (ap are_shared none);
    }

pub loop-rest-preserved : goal.loop-rest-preserved
loop-rest-preserved c =
    let before = c.loop-rest.invariant in
    let next = c.split_at-in-loop-rest.result.0.now in
    let others = c.split_at-in-loop-rest.result.1.now in
    let bs = blocks_of c.loop-rest.list.items in
    let is = c.in_ok-push_block-2.ensures.blocks in
    let some = at_least (length c.loop-rest.rest.now) (sym c.is_empty.ensures ∙ c.loop-rest-test.true) in
    let size = c.min-in-loop-rest.ensures in
    let long = c.split_at-in-loop-rest.ensures.front_len in
    record {
      blocks = pushed_blocks bs _ next is (omega arith) before.blocks;
      entries = ap (λ ns. ns ++ others) (pushed_entries bs _ next is) ∙ append_assoc (joined bs) next others ∙ ap (λ ns. joined bs ++ ns) (sym c.split_at-in-loop-rest.ensures.by_index.0) ∙ before.entries;
      own = c.in_ok-push_block-2.ensures.own before.own;
    }

pub returns-clause-entries : goal.returns-clause-entries
returns-clause-entries c =
    let bs = blocks_of c.loop-rest.list.items in
    sym (append-nil (joined bs)) ∙ ap (λ ns. joined bs ++ ns) (sym (nil_from_length c.loop-rest.rest.now (eqb-true (length c.loop-rest.rest.now) 0 (sym c.is_empty.ensures ∙ c.loop-rest-test.false)))) ∙ c.loop-rest.invariant.entries

use Rattle.std.proofs.Common.{◌-◌, ◌<◌, length, set, sym, ◌∙◌, ap, subst, arith}
use Rattle.std.specs.List.{All}
use Rattle.std.specs.Vec.{vec_len}
use Rattle.std.proofs.lemmas.List.{length-set}
use Rattle.std.proofs.lemmas.List.Elements.{All-take}
use Rattle.mls_tree_index.specs.Block.{BlockEntries, IsSpare}
use Rattle.mls_tree_index.specs.Blocks.{AreBlocks}
use Rattle.mls_tree_index.proofs.BlockLaws.{blocks_stay, own_here, own_set}
use Rattle.mls_tree_index.proofs.blocks.own_block.Goals as goal

pub returns-then-try_own-clause-kept : goal.returns-then-try_own-clause-kept
returns-then-try_own-clause-kept c =
    let vs = c.args.list.now.items in
    let kept = c.requires.kept in
    let ok = c.args.list.now.ok.0 in
    let low = c.requires.block in
    let lt : c.args.b < length vs = omega arith in
    record {
      blocks = subst AreBlocks (sym (blocks_stay vs c.args.b c.index_mut.result.now c.try_own.new.self lt c.index_mut.ensures.value c.try_own.ensures.entries)) kept.blocks;
      spare = kept.spare;
      room = kept.room;
    }

pub returns-then-try_own-clause-blocks : goal.returns-then-try_own-clause-blocks
returns-then-try_own-clause-blocks c =
    let vs = c.args.list.now.items in
    let ok = c.args.list.now.ok.0 in
    let low = c.requires.block in
    let lt : c.args.b < length vs = omega arith in
    blocks_stay vs c.args.b c.index_mut.result.now c.try_own.new.self lt c.index_mut.ensures.value c.try_own.ensures.entries

pub returns-then-try_own-clause-own : goal.returns-then-try_own-clause-own
returns-then-try_own-clause-own c =
    let vs = c.args.list.now.items in
    let ok = c.args.list.now.ok.0 in
    let low = c.requires.block in
    let lt : c.args.b < length vs = omega arith in
    own_here vs c.args.b c.try_own.new.self lt (c.try_own.ensures.own c.if-try_own.true)

pub returns-then-try_own-clause-others : goal.returns-then-try_own-clause-others
returns-then-try_own-clause-others c = λ none. own_set c.args.list.now.items c.args.b c.try_own.new.self (c.try_own.ensures.own c.if-try_own.true) none

pub returns-clause-kept : goal.returns-clause-kept
returns-clause-kept c =
    let vs = c.args.list.now.items in
    let ws = set vs c.args.b c.try_own.new.self in
    let kept = c.requires.kept in
    let ok = c.args.list.now.ok.0 in
    let low = c.requires.block in
    let lt : c.args.b < length vs = omega arith in
    let same = length-set vs c.args.b c.try_own.new.self in
    let less = c.pop.ensures.cases in
    let more = c.in-Some.ensures.cases in
    let room = kept.room in
    record {
      blocks = subst AreBlocks (sym (blocks_stay ws c.args.b c.index_mut-2.result.now c.make_own.new.self (omega arith) c.index_mut-2.ensures.value (ap (λ (v : BlockEntries). v.entries) c.make_own.ensures) ∙ blocks_stay vs c.args.b c.index_mut.result.now c.try_own.new.self lt c.index_mut.ensures.value c.try_own.ensures.entries)) kept.blocks;
      spare = subst (All IsSpare) (sym c.pop.ensures.rest) (All-take IsSpare (vec_len c.args.spares.now - 1) c.args.spares.now.items kept.spare);
      room = omega arith;
    }

pub returns-clause-blocks : goal.returns-clause-blocks
returns-clause-blocks c =
    let vs = c.args.list.now.items in
    let ws = set vs c.args.b c.try_own.new.self in
    let ok = c.args.list.now.ok.0 in
    let low = c.requires.block in
    let lt : c.args.b < length vs = omega arith in
    let same = length-set vs c.args.b c.try_own.new.self in
    blocks_stay ws c.args.b c.index_mut-2.result.now c.make_own.new.self (omega arith) c.index_mut-2.ensures.value (ap (λ (v : BlockEntries). v.entries) c.make_own.ensures)
    ∙ blocks_stay vs c.args.b c.index_mut.result.now c.try_own.new.self lt c.index_mut.ensures.value c.try_own.ensures.entries

pub returns-clause-own : goal.returns-clause-own
returns-clause-own c =
    let vs = c.args.list.now.items in
    let ok = c.args.list.now.ok.0 in
    let low = c.requires.block in
    let same = length-set vs c.args.b c.try_own.new.self in
    own_here (set vs c.args.b c.try_own.new.self) c.args.b c.make_own.new.self (omega arith) (ap (λ (v : BlockEntries). v.shared) c.make_own.ensures)

use Rattle.std.proofs.Common.{set, ◌∙◌, ap, arith}
use Rattle.std.proofs.lemmas.List.{length-set}
use Rattle.mls_tree_index.specs.Block.{BlockEntries}
use Rattle.mls_tree_index.proofs.BlockLaws.{blocks_stay, own_here, own_stays, own_stays_if}
use Rattle.mls_tree_index.proofs.blocks.own_one.Goals as goal

pub returns-then-try_own-clause-blocks : goal.returns-then-try_own-clause-blocks
returns-then-try_own-clause-blocks c =
    let ok = c.args.list.now.ok.0 in
    let low = c.requires in
    blocks_stay c.args.list.now.items c.args.b c.index_mut.result.now c.try_own.new.self (omega arith) c.index_mut.ensures.value c.try_own.ensures.entries

pub returns-then-try_own-clause-own : goal.returns-then-try_own-clause-own
returns-then-try_own-clause-own c =
    let ok = c.args.list.now.ok.0 in
    let low = c.requires in
    own_here c.args.list.now.items c.args.b c.try_own.new.self (omega arith) (c.try_own.ensures.own c.if-try_own.true)

pub returns-then-try_own-clause-others : goal.returns-then-try_own-clause-others
returns-then-try_own-clause-others c = λ k own. own_stays c.args.list.now.items c.args.b k c.try_own.new.self (c.try_own.ensures.own c.if-try_own.true) own

pub returns-in_err-spare-clause-blocks : goal.returns-in_err-spare-clause-blocks
returns-in_err-spare-clause-blocks c =
    let ok = c.args.list.now.ok.0 in
    let low = c.requires in
    blocks_stay c.args.list.now.items c.args.b c.index_mut.result.now c.try_own.new.self (omega arith) c.index_mut.ensures.value c.try_own.ensures.entries

pub returns-in_err-spare-clause-others : goal.returns-in_err-spare-clause-others
returns-in_err-spare-clause-others c = λ k own.
    let ok = c.args.list.now.ok.0 in
    let low = c.requires in
    own_stays_if c.args.list.now.items c.args.b k c.index_mut.result.now c.try_own.new.self (omega arith) c.index_mut.ensures.value c.try_own.ensures.stays own

pub returns-clause-blocks : goal.returns-clause-blocks
returns-clause-blocks c =
    let vs = c.args.list.now.items in
    let ws = set vs c.args.b c.try_own.new.self in
    let ok = c.args.list.now.ok.0 in
    let low = c.requires in
    let same = length-set vs c.args.b c.try_own.new.self in
    blocks_stay ws c.args.b c.index_mut-2.result.now c.make_own.new.self (omega arith) c.index_mut-2.ensures.value (ap (λ (v : BlockEntries). v.entries) c.make_own.ensures)
    ∙ blocks_stay vs c.args.b c.index_mut.result.now c.try_own.new.self (omega arith) c.index_mut.ensures.value c.try_own.ensures.entries

pub returns-clause-own : goal.returns-clause-own
returns-clause-own c =
    let vs = c.args.list.now.items in
    let ok = c.args.list.now.ok.0 in
    let low = c.requires in
    let same = length-set vs c.args.b c.try_own.new.self in
    own_here (set vs c.args.b c.try_own.new.self) c.args.b c.make_own.new.self (omega arith) (ap (λ (v : BlockEntries). v.shared) c.make_own.ensures)

pub returns-clause-others : goal.returns-clause-others
returns-clause-others c = λ k own.
    let vs = c.args.list.now.items in
    let ok = c.args.list.now.ok.0 in
    let low = c.requires in
    own_stays (set vs c.args.b c.try_own.new.self) c.args.b k c.make_own.new.self (ap (λ (v : BlockEntries). v.shared) c.make_own.ensures)
    (own_stays_if vs c.args.b k c.index_mut.result.now c.try_own.new.self (omega arith) c.index_mut.ensures.value c.try_own.ensures.stays own)

use Rattle.std.proofs.Common.{suc, drop, set, sym, ◌∙◌, ap, subst, take, add-one}
use Rattle.std.specs.List.{insert}
use Rattle.mls_tree_index.specs.Block.{BlockEntries}
use Rattle.mls_tree_index.specs.Blocks.{IsOwnAt, are_shared, blocks_of}
use Rattle.mls_tree_index.proofs.BlockLaws.{own_insert, own_lower, own_set, own_upper, own_within, parts_of, read_at}
use Rattle.mls_tree_index.proofs.blocks.split_block.Goals as goal

pub returns-clause-blocks : goal.returns-clause-blocks
returns-clause-blocks c =
    let vs = c.args.list.now.items in
    let b = c.args.b in
    let lower = c.split-upper.new.self in
    let upper = c.split-upper.result in
    let read = read_at vs b c.index_mut.result.now (own_within vs b c.requires.own) c.index_mut.ensures.value in
    ap blocks_of (c.in-Ok.ensures.items ∙ ap (λ n. insert (set vs b lower) n upper) (add-one b))
    ∙ parts_of vs b lower upper
    (ap (λ (v : BlockEntries). v.entries) c.split-upper.ensures.lower ∙ ap (take 256) read)
    (ap (λ (v : BlockEntries). v.entries) c.split-upper.ensures.upper ∙ ap (drop 256) read)

pub returns-clause-lower : goal.returns-clause-lower
returns-clause-lower c =
    let vs = c.args.list.now.items in
    let b = c.args.b in
    let lower = c.split-upper.new.self in
    let upper = c.split-upper.result in
    subst (λ us. IsOwnAt us b) (sym (c.in-Ok.ensures.items ∙ ap (λ n. insert (set vs b lower) n upper) (add-one b)))
    (own_lower vs b lower upper (own_within vs b c.requires.own) (ap (λ (v : BlockEntries). v.shared) c.split-upper.ensures.lower))

pub returns-clause-upper : goal.returns-clause-upper
returns-clause-upper c =
    let vs = c.args.list.now.items in
    let b = c.args.b in
    let lower = c.split-upper.new.self in
    let upper = c.split-upper.result in
    subst (λ us. IsOwnAt us (suc b)) (sym (c.in-Ok.ensures.items ∙ ap (λ n. insert (set vs b lower) n upper) (add-one b)))
    (own_upper vs b lower upper (own_within vs b c.requires.own) (ap (λ (v : BlockEntries). v.shared) c.split-upper.ensures.upper))

pub returns-clause-others : goal.returns-clause-others
returns-clause-others c = λ none.
    let vs = c.args.list.now.items in
    let b = c.args.b in
    let lower = c.split-upper.new.self in
    let upper = c.split-upper.result in
    ap are_shared c.in-Ok.ensures.items
    ∙ own_insert (set vs b lower) _ upper (ap (λ (v : BlockEntries). v.shared) c.split-upper.ensures.upper)
    (own_set vs b lower (ap (λ (v : BlockEntries). v.shared) c.split-upper.ensures.lower) none)

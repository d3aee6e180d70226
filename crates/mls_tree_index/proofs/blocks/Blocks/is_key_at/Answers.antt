use Rattle.std.proofs.Common.{◌&&◌, nat_eq, ◌∙◌, ap}
use Rattle.mls_tree_index.specs.Blocks.{joined, place_of}
use Rattle.mls_tree_index.specs.Keys.{is_key, key_in}
use Rattle.mls_tree_index.proofs.SearchLaws.{found_at, none_at}
use Rattle.mls_tree_index.proofs.blocks.Blocks.is_key_at.Goals as goal

pub returns-in-Some : goal.returns-in-Some
returns-in-Some c = λ at part are.
    let kind = c.args.kind in
    let cells = c.args.cells.now.nodes in
    let bs = c.args.self.now.blocks in
    let key = c.args.key.now in
    let own = c.in-Some.own in
    c.is_of.ensures
    ∙ ap (λ n. nat_eq own.front n && is_key key (key_in kind cells own.number)) c.requires.front
    ∙ found_at kind cells at part (joined bs) are key (place_of bs c.args.spot) own c.in-Some.ensures.0 c.in-Some.ensures.1

pub returns-in-None : goal.returns-in-None
returns-in-None c = λ at part are.
    let bs = c.args.self.now.blocks in
    none_at c.args.kind c.args.cells.now.nodes at part (joined bs) are c.args.key.now (place_of bs c.args.spot) c.in-None.ensures

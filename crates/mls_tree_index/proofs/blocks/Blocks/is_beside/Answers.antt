use Rattle.std.proofs.Common.{◌-◌, sym, ◌∙◌, ap, arith, inl, inr}
use Rattle.std.proofs.lemmas.Bool.{cases_Bool}
use Rattle.mls_tree_index.specs.Blocks.{joined, place_of}
use Rattle.mls_tree_index.specs.Entries.{numbers_of}
use Rattle.mls_tree_index.specs.Keys.{is_key_at, key_in}
use Rattle.mls_tree_index.proofs.SearchLaws.{place_zero, place_before}
use Rattle.mls_tree_index.proofs.StepLaws.{held_here, held_not_beside}
use Rattle.mls_tree_index.proofs.blocks.Blocks.is_beside.Goals as goal

pub returns-then-is_key_at : goal.returns-then-is_key_at
returns-then-is_key_at c = λ cells part are x gap.
    let bs = c.args.self.now.blocks in
    held_here c.args.kind cells c.args.cells.now.nodes part (numbers_of (joined bs)) are.numbers c.args.key.now (place_of bs c.args.spot) (sym c.if-is_key_at.true ∙ c.is_key_at.ensures (key_in c.args.kind cells) part are)

pub returns-then-spot-eq0 : goal.returns-then-spot-eq0
returns-then-spot-eq0 c = λ cells part are x gap.
    let bs = c.args.self.now.blocks in
    let first = place_zero bs c.args.spot.block c.args.spot.offset (c.requires.inner c.if-spot-eq0.true) c.if-spot-eq0.true in
    held_not_beside c.args.kind cells c.args.cells.now.nodes part (numbers_of (joined bs)) are.numbers c.args.key.now x (place_of bs c.args.spot) gap (sym c.if-is_key_at.false ∙ c.is_key_at.ensures (key_in c.args.kind cells) part are) (λ some. absurd (omega arith))

pub returns : goal.returns
returns c = λ cells part are x gap.
    let kind = c.args.kind in
    let bs = c.args.self.now.blocks in
    let p = place_of bs c.args.spot in
    let key = c.args.key.now in
    let before = c.is_key_at-2.result in
    let other = c.if-spot-eq0.false in
    let at = place_before bs c.args.spot.block c.args.spot.offset (omega arith) in
    let is = c.is_key_at-2.ensures (key_in c.args.kind cells) part are ∙ ap (λ n. is_key_at kind c.args.cells.now.nodes (numbers_of (joined bs)) n key) at in
    let here = sym c.if-is_key_at.false ∙ c.is_key_at.ensures (key_in c.args.kind cells) part are in
    elim (cases_Bool before) [
      | inl on ↦ on ∙ held_here kind cells c.args.cells.now.nodes part (numbers_of (joined bs)) are.numbers key (p - 1) (sym on ∙ is)
      | inr out ↦ out ∙ held_not_beside kind cells c.args.cells.now.nodes part (numbers_of (joined bs)) are.numbers key x p gap here (λ some. sym out ∙ is)
    ]

use Rattle.std.proofs.Common.{refl, sym, ◌∙◌, ap, subst, arith}
use Rattle.mls_tree_index.specs.Blocks.{joined, place_of}
use Rattle.mls_tree_index.specs.Indexes.{Listing}
use Rattle.mls_tree_index.specs.Keys.{key_in}
use Rattle.mls_tree_index.specs.Searches.{IsPlaceOf}
use Rattle.mls_tree_index.proofs.EnterLaws.{enters_again, enters_never, enters_new}
use Rattle.mls_tree_index.proofs.StepLaws.{nothing_entered}
use Rattle.mls_tree_index.proofs.index.Index.enter.Goals as goal

pub returns-in_default-clause-entered : goal.returns-in_default-clause-entered
returns-in_default-clause-entered c = λ b d without is.
    let none = ap (λ j. key_in j c.args.cells.now.nodes c.args.x) (sym (ap (λ (t : Listing). t.kind) c.self.view_is)) ∙ sym c.in_default.ensures in
    nothing_entered c.args.x c.args.cells.now.nodes b d c.args.self.now without none is

pub returns-then-not-again-clause-entered : goal.returns-then-not-again-clause-entered
returns-then-not-again-clause-entered c =
    let kinds = ap (λ (t : Listing). t.kind) c.self.view_is in
    let entries = ap (λ (t : Listing). t.entries) c.self.view_is in
    let key = ap (λ j. key_in j c.args.cells.now.nodes c.args.x) (sym kinds) ∙ sym c.in-Some.ensures in
    let place = subst (λ n. IsPlaceOf c.self.inside.kind (joined c.self.inside.blocks.blocks) c.args.cells.now.nodes c.in-Some.key.now n (place_of c.self.inside.blocks.blocks c.spot_of-spot.result)) c.new-entry.ensures.number c.spot_of-spot.ensures.gap in
    enters_new c.args.x c.args.cells.now.nodes c.args.self.now c.self.inside.kind (joined c.self.inside.blocks.blocks) c.in-Some.key.now (place_of c.self.inside.blocks.blocks c.spot_of-spot.result) c.is_beside-again.result c.new-entry.result kinds entries key c.new-entry.ensures.number c.new-entry.ensures.front c.new-entry.ensures.bytes place c.is_beside-again.ensures
    _ refl c.insert.ensures.entries (ap (λ (t : Listing). t.repeats) c.self.view_is) c.if-not-again.true

pub returns-then-self-len-clause-entered : goal.returns-then-self-len-clause-entered
returns-then-self-len-clause-entered c =
    let kinds = ap (λ (t : Listing). t.kind) c.self.view_is in
    let entries = ap (λ (t : Listing). t.entries) c.self.view_is in
    let key = ap (λ j. key_in j c.args.cells.now.nodes c.args.x) (sym kinds) ∙ sym c.in-Some.ensures in
    let place = subst (λ n. IsPlaceOf c.self.inside.kind (joined c.self.inside.blocks.blocks) c.args.cells.now.nodes c.in-Some.key.now n (place_of c.self.inside.blocks.blocks c.spot_of-spot.result)) c.new-entry.ensures.number c.spot_of-spot.ensures.gap in
    let repeats = ap (λ (t : Listing). t.repeats) c.self.view_is in
    enters_again c.args.x c.args.cells.now.nodes c.args.self.now c.self.inside.kind (joined c.self.inside.blocks.blocks) c.in-Some.key.now (place_of c.self.inside.blocks.blocks c.spot_of-spot.result) c.is_beside-again.result c.new-entry.result kinds entries key c.new-entry.ensures.number c.new-entry.ensures.front c.new-entry.ensures.bytes place c.is_beside-again.ensures
    _ refl c.insert.ensures.entries (omega arith) c.if-not-again.false

pub returns-else-self-len-clause-entered : goal.returns-else-self-len-clause-entered
returns-else-self-len-clause-entered c =
    let kinds = ap (λ (t : Listing). t.kind) c.self.view_is in
    let entries = ap (λ (t : Listing). t.entries) c.self.view_is in
    let key = ap (λ j. key_in j c.args.cells.now.nodes c.args.x) (sym kinds) ∙ sym c.in-Some.ensures in
    let place = subst (λ n. IsPlaceOf c.self.inside.kind (joined c.self.inside.blocks.blocks) c.args.cells.now.nodes c.in-Some.key.now n (place_of c.self.inside.blocks.blocks c.spot_of-spot.result)) c.new-entry.ensures.number c.spot_of-spot.ensures.gap in
    let repeats = ap (λ (t : Listing). t.repeats) c.self.view_is in
    let long = c.len.ensures.nodes in
    let past = c.if-self-len.false in
    enters_never c.args.x c.args.cells.now.nodes c.args.self.now c.self.inside.kind (joined c.self.inside.blocks.blocks) c.in-Some.key.now (place_of c.self.inside.blocks.blocks c.spot_of-spot.result) c.is_beside-again.result c.new-entry.result kinds entries key c.new-entry.ensures.number c.new-entry.ensures.front c.new-entry.ensures.bytes place c.is_beside-again.ensures
    (record { kind = c.self.inside.kind; entries = joined c.insert.new.self.blocks; repeats = c.self.inside.repeats; room = c.insert.new.self.room; shared = c.insert.new.self.shared }) c.if-not-again.false (omega arith)

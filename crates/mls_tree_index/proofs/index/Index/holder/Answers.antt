use Rattle.std.proofs.Common.{refl, ◌&&◌, nat_eq, sym, ◌∙◌, ap, subst}
use Rattle.std.proofs.lemmas.Bool.{and_parts}
use Rattle.mls_tree_index.specs.Blocks.{joined, place_of}
use Rattle.mls_tree_index.specs.Entries.{AreOrdered, numbers_of}
use Rattle.mls_tree_index.specs.Indexes.{Listing}
use Rattle.mls_tree_index.specs.Keys.{is_held, is_key, key_in}
use Rattle.mls_tree_index.specs.Searches.{IsPlaceOf}
use Rattle.mls_tree_index.proofs.OrderLaws.{key_found}
use Rattle.mls_tree_index.proofs.SearchLaws.{found_at, none_at}
use Rattle.mls_tree_index.proofs.StepLaws.{held_first}
use Rattle.mls_tree_index.proofs.index.Index.holder.Goals as goal

pub returns-in_default : goal.returns-in_default
returns-in_default c = λ is.
    let s = c.args.self.now in
    let kind = c.self.inside.kind in
    let es = joined c.self.inside.blocks.blocks in
    let cells = c.args.cells.now.nodes in
    let p = place_of c.self.inside.blocks.blocks c.spot_of-spot.result in
    let kinds = ap (λ (t : Listing). t.kind) c.self.view_is in
    let entries = ap (λ (t : Listing). t.entries) c.self.view_is in
    let k = c.args.key.now in
    let are = subst (λ j. AreOrdered (key_in j cells) es) (sym kinds) (subst (AreOrdered (key_in s.kind cells)) (sym entries) is.entries) in
    let place = subst (λ n. IsPlaceOf kind es cells k n p) c.new-entry.ensures.number c.spot_of-spot.ensures.gap in
    let first = held_first kind cells cells (λ x some. refl) (numbers_of es) are.numbers k p (place (key_in kind cells) (λ x some. refl) are) in
    ap (λ j. is_held j cells k) (sym kinds) ∙ sym first ∙ sym (none_at kind cells (key_in kind cells) (λ x some. refl) es are k p c.in_default.ensures)

pub returns-then-is_of : goal.returns-then-is_of
returns-then-is_of c = λ is.
    let cells = c.args.cells.now.nodes in
    let kinds = ap (λ (t : Listing). t.kind) c.self.view_is in
    let own = c.in-Some.own in
    let both = and_parts (nat_eq own.front c.new-entry.result.front) (is_key c.args.key.now (key_in c.self.inside.kind cells own.number)) (sym c.is_of.ensures ∙ c.if-is_of.true) in
    ap (λ j. key_in j cells own.number) (sym kinds) ∙ key_found c.args.key.now (key_in c.self.inside.kind cells own.number) both.1

pub returns-else-is_of : goal.returns-else-is_of
returns-else-is_of c = λ is.
    let s = c.args.self.now in
    let kind = c.self.inside.kind in
    let es = joined c.self.inside.blocks.blocks in
    let cells = c.args.cells.now.nodes in
    let p = place_of c.self.inside.blocks.blocks c.spot_of-spot.result in
    let kinds = ap (λ (t : Listing). t.kind) c.self.view_is in
    let entries = ap (λ (t : Listing). t.entries) c.self.view_is in
    let k = c.args.key.now in
    let own = c.in-Some.own in
    let are = subst (λ j. AreOrdered (key_in j cells) es) (sym kinds) (subst (AreOrdered (key_in s.kind cells)) (sym entries) is.entries) in
    let place = subst (λ n. IsPlaceOf kind es cells k n p) c.new-entry.ensures.number c.spot_of-spot.ensures.gap in
    let first = held_first kind cells cells (λ x some. refl) (numbers_of es) are.numbers k p (place (key_in kind cells) (λ x some. refl) are) in
    let found = found_at kind cells (key_in kind cells) (λ x some. refl) es are k p own c.in-Some.ensures.0 c.in-Some.ensures.1 in
    let other = ap (λ n. nat_eq own.front n && is_key k (key_in kind cells own.number)) (sym c.new-entry.ensures.front) ∙ sym c.is_of.ensures ∙ c.if-is_of.false in
    ap (λ j. is_held j cells k) (sym kinds) ∙ sym first ∙ sym found ∙ other

use Rattle.std.proofs.Common.{◌≡◌, length, sym, ◌∙◌, ap, subst, arith}
use Rattle.std.specs.List.{remove}
use Rattle.mls_tree_index.specs.Blocks.{joined, place_of}
use Rattle.mls_tree_index.specs.Indexes.{Listing}
use Rattle.mls_tree_index.specs.Keys.{key_in, keys_of, is_held, repeats_in}
use Rattle.mls_tree_index.specs.Order.{IsPart}
use Rattle.mls_tree_index.specs.Entries.{AreOrdered}
use Rattle.mls_tree_index.specs.Searches.{IsPlaceOf}
use Rattle.mls_tree_index.proofs.StepLaws.{one_held, none_held, not_less, placed, left}
use Rattle.mls_tree_index.proofs.StepLaws.{indexes_from, nothing_left, part_before, place_for}
use Rattle.mls_tree_index.proofs.index.Index.leave.Goals as goal

pub returns-in_default-clause-left : goal.returns-in_default-clause-left
returns-in_default-clause-left c = λ b d without is.
    let none = ap (λ j. key_in j c.args.cells.now.nodes c.args.x) (sym (ap (λ (t : Listing). t.kind) c.self.view_is)) ∙ sym c.in_default.ensures in
    nothing_left c.args.x c.args.cells.now.nodes b d c.args.self.now without none is

pub returns-then-self-eq0-clause-left : goal.returns-then-self-eq0-clause-left
returns-then-self-eq0-clause-left c = λ b d without is.
    let s = c.args.self.now in
    let kind = c.self.inside.kind in
    let es = joined c.self.inside.blocks.blocks in
    let cells = c.args.cells.now.nodes in
    let p = place_of c.self.inside.blocks.blocks c.spot_of-spot.result in
    let kinds = ap (λ (t : Listing). t.kind) c.self.view_is in
    let entries = ap (λ (t : Listing). t.entries) c.self.view_is in
    let x = c.args.x in
    let k = c.in-Some.key.now in
    let key = ap (λ j. key_in j cells x) (sym kinds) ∙ sym c.in-Some.ensures in
    let part = part_before x cells b d s without in
    let place = subst (λ n. IsPlaceOf kind es cells k n p) c.new-entry.ensures.number c.spot_of-spot.ensures.gap in
    let gap = place_for s kind es cells k x p kinds entries place (key_in s.kind d) without.part is.entries in
    let inside = placed x cells b d s without k key p is.entries gap in
    let rest = left x cells b d s without k key p is.entries gap in
    let wide = ap length entries in
    let all = c.remove.ensures.some (omega arith) ∙ ap (λ fs. remove fs p) entries in
    let old : c.self.inside.repeats ≡ repeats_in (keys_of s.kind d) = ap (λ (t : Listing). t.repeats) c.self.view_is ∙ is.repeats in
    let less = not_less x cells b d s without k key in
    let none = c.if-self-eq0.true in
    let now : c.self.inside.repeats ≡ repeats_in (keys_of s.kind b) = omega arith in
    indexes_from s.kind (remove s.entries p) b _ kinds all rest now

pub returns-then-holds-clause-left : goal.returns-then-holds-clause-left
returns-then-holds-clause-left c = λ b d without is.
    let s = c.args.self.now in
    let kind = c.self.inside.kind in
    let es = joined c.self.inside.blocks.blocks in
    let cells = c.args.cells.now.nodes in
    let p = place_of c.self.inside.blocks.blocks c.spot_of-spot.result in
    let kinds = ap (λ (t : Listing). t.kind) c.self.view_is in
    let entries = ap (λ (t : Listing). t.entries) c.self.view_is in
    let x = c.args.x in
    let k = c.in-Some.key.now in
    let key = ap (λ j. key_in j cells x) (sym kinds) ∙ sym c.in-Some.ensures in
    let part = part_before x cells b d s without in
    let place = subst (λ n. IsPlaceOf kind es cells k n p) c.new-entry.ensures.number c.spot_of-spot.ensures.gap in
    let gap = place_for s kind es cells k x p kinds entries place (key_in s.kind d) without.part is.entries in
    let inside = placed x cells b d s without k key p is.entries gap in
    let rest = left x cells b d s without k key p is.entries gap in
    let wide = ap length entries in
    let all = c.remove.ensures.some (omega arith) ∙ ap (λ fs. remove fs p) entries in
    let old : c.self.inside.repeats ≡ repeats_in (keys_of s.kind d) = ap (λ (t : Listing). t.repeats) c.self.view_is ∙ is.repeats in
    let there = subst (λ j. AreOrdered (key_in j b) (joined c.remove.new.self.blocks)) (sym kinds) (subst (AreOrdered (key_in s.kind b)) (sym all) rest) in
    let held = c.holds.ensures b (subst (λ j. IsPart (key_in j b) (key_in j cells)) (sym kinds) part) there ∙ ap (λ j. is_held j b k) kinds in
    let one = one_held x cells b d s without k key (sym c.if-holds.true ∙ held) in
    indexes_from s.kind (remove s.entries p) b _ kinds all rest (omega arith)

pub returns-else-holds-clause-left : goal.returns-else-holds-clause-left
returns-else-holds-clause-left c = λ b d without is.
    let s = c.args.self.now in
    let kind = c.self.inside.kind in
    let es = joined c.self.inside.blocks.blocks in
    let cells = c.args.cells.now.nodes in
    let p = place_of c.self.inside.blocks.blocks c.spot_of-spot.result in
    let kinds = ap (λ (t : Listing). t.kind) c.self.view_is in
    let entries = ap (λ (t : Listing). t.entries) c.self.view_is in
    let x = c.args.x in
    let k = c.in-Some.key.now in
    let key = ap (λ j. key_in j cells x) (sym kinds) ∙ sym c.in-Some.ensures in
    let part = part_before x cells b d s without in
    let place = subst (λ n. IsPlaceOf kind es cells k n p) c.new-entry.ensures.number c.spot_of-spot.ensures.gap in
    let gap = place_for s kind es cells k x p kinds entries place (key_in s.kind d) without.part is.entries in
    let inside = placed x cells b d s without k key p is.entries gap in
    let rest = left x cells b d s without k key p is.entries gap in
    let wide = ap length entries in
    let all = c.remove.ensures.some (omega arith) ∙ ap (λ fs. remove fs p) entries in
    let old : c.self.inside.repeats ≡ repeats_in (keys_of s.kind d) = ap (λ (t : Listing). t.repeats) c.self.view_is ∙ is.repeats in
    let there = subst (λ j. AreOrdered (key_in j b) (joined c.remove.new.self.blocks)) (sym kinds) (subst (AreOrdered (key_in s.kind b)) (sym all) rest) in
    let held = c.holds.ensures b (subst (λ j. IsPart (key_in j b) (key_in j cells)) (sym kinds) part) there ∙ ap (λ j. is_held j b k) kinds in
    let none = none_held x cells b d s without k key (sym c.if-holds.false ∙ held) in
    indexes_from s.kind (remove s.entries p) b _ kinds all rest (old ∙ none)

use Rattle.std.proofs.Common.{◌≡◌, [], ◌∷◌, nat_eq, true, length, sym, ◌∙◌, subst, arith}
use Rattle.std.proofs.lemmas.List.{nil_from_length}
use Rattle.mls_tree_model.specs.Sets.{is_distinct}
use Rattle.mls_tree_index.specs.Indexes.{CanLeave, Indexes}
use Rattle.mls_tree_index.specs.BlankedCells.{HasPlaces, cells_without}
use Rattle.mls_tree_index.proofs.ClearedLaws.{first_without, rest_places}
use Rattle.mls_tree_index.proofs.ClearedLaws.{rest_distinct, all_left, none_cleared}
use Rattle.mls_tree_index.proofs.Laws.{can_leave}
use Rattle.mls_tree_index.proofs.index.Index.+leave_all.Goals as goal

pub leave_all-requires : goal.leave_all-requires
leave_all-requires t c =
    let rest = c.in-Some.rest.now in
    let shorter = c.in-Some.ensures.cases.1 in
    let all = subst (λ ns. CanLeave (length ns) c.args.self.now) c.in-Some.ensures.cases.0 c.requires.room in (
      omega arith,
      (
        rest_distinct c.in-Some.x.now rest (subst (λ ns. is_distinct nat_eq ns ≡ true) c.in-Some.ensures.cases.0 c.requires.distinct),
        can_leave (length rest) c.args.self.now c.leave.new.self all c.leave.ensures.own c.leave.ensures.room,
      ),
    )

pub returns-in-Some-clause-left : goal.returns-in-Some-clause-left
returns-in-Some-clause-left t c = λ d places is.
    let x = c.in-Some.x.now in
    let rest = c.in-Some.rest.now in
    let cells = c.args.cells.now.nodes in
    let parts = c.in-Some.ensures.cases.0 in
    let distinct = subst (λ ns. is_distinct nat_eq ns ≡ true) parts c.requires.distinct in
    let here = subst (λ ns. HasPlaces c.args.self.now.kind ns cells d) parts places in
    let first = c.leave.ensures.left (cells_without 0 (x ∷ []) d) d (first_without x rest distinct c.args.self.now.kind cells d here) is in
    let more = subst (λ k. HasPlaces k rest cells (cells_without 0 (x ∷ []) d)) (sym c.leave.ensures.kind) (rest_places x rest distinct c.args.self.now.kind cells d here) in
    let all = c.leave_all.ensures.left (cells_without 0 (x ∷ []) d) more first in
    let there = subst (λ k. HasPlaces k (x ∷ rest) cells d) (sym (c.leave_all.ensures.kind ∙ c.leave.ensures.kind)) here in
    subst (λ ns. Indexes (cells_without 0 ns d) c.leave_all.new.self) (sym parts) (all_left x rest distinct c.leave_all.new.self cells d there all)

pub returns-in_default-clause-left : goal.returns-in_default-clause-left
returns-in_default-clause-left t c = λ d places is.
    subst (λ ns. Indexes (cells_without 0 ns d) c.args.self.now) (sym (nil_from_length c.args.places.now c.in_default.ensures.cases)) (none_cleared c.args.self.now d is)

use Rattle.std.proofs.Common.{◌≡◌, [], ◌∷◌, nat_eq, true, sym, subst, arith}
use Rattle.std.proofs.lemmas.List.{nil_from_length}
use Rattle.mls_tree_model.specs.Sets.{is_distinct}
use Rattle.mls_tree_index.specs.Indexes.{Indexes, Without}
use Rattle.mls_tree_index.specs.BlankedCells.{HasPlaces, cells_without}
use Rattle.mls_tree_index.proofs.ClearedLaws.{first_without, rest_places}
use Rattle.mls_tree_index.proofs.ClearedLaws.{rest_distinct, all_blank, cleared_none}
use Rattle.mls_tree_index.proofs.index.Index.+enter_all.Goals as goal

pub enter_all-requires : goal.enter_all-requires
enter_all-requires t c =
    let shorter = c.in-Some.ensures.cases.1 in
    let room = c.requires.room in
    (omega arith, (rest_distinct c.in-Some.x.now c.in-Some.rest.now (subst (λ ns. is_distinct nat_eq ns ≡ true) c.in-Some.ensures.cases.0 c.requires.distinct), omega arith))

pub returns-in-Some-clause-entered : goal.returns-in-Some-clause-entered
returns-in-Some-clause-entered t c = λ d places is.
    let x = c.in-Some.x.now in
    let rest = c.in-Some.rest.now in
    let cells = c.args.cells.now.nodes in
    let parts = c.in-Some.ensures.cases.0 in
    let distinct = subst (λ ns. is_distinct nat_eq ns ≡ true) parts c.requires.distinct in
    let here = subst (λ ns. HasPlaces c.args.self.now.kind ns cells d) parts places in
    let before = all_blank x rest distinct c.args.self.now cells d here (subst (λ ns. Indexes (cells_without 0 ns d) c.args.self.now) parts is) in
    let most = c.enter_all.ensures.entered (cells_without 0 (x ∷ []) d) (rest_places x rest distinct c.args.self.now.kind cells d here) before in
    let last = subst (λ k. Without k x cells (cells_without 0 (x ∷ []) d) d) (sym c.enter_all.ensures.kind) (first_without x rest distinct c.args.self.now.kind cells d here) in
    c.enter.ensures.entered (cells_without 0 (x ∷ []) d) d last most

pub returns-in_default-clause-entered : goal.returns-in_default-clause-entered
returns-in_default-clause-entered t c = λ d places is.
    cleared_none c.args.self.now d (subst (λ ns. Indexes (cells_without 0 ns d) c.args.self.now) (nil_from_length c.args.places.now c.in_default.ensures.cases) is)

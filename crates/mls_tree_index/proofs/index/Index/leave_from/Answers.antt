use Rattle.std.proofs.Common.{◌≡◌, ◌+◌, ◌-◌, refl, sym, ◌∙◌, subst, arith}
use Rattle.std.proofs.lemmas.Bool.{true≢false}
use Rattle.mls_tree_index.specs.Indexes.{Without}
use Rattle.mls_tree_index.proofs.FrontLaws.{front, without_front, front_whole, front_cut}
use Rattle.mls_tree_index.proofs.index.Index.leave_from.Goals as goal

pub loop-end-init : goal.loop-end-init
loop-end-init c =
    let all = c.len-end.ensures.nodes in
    record {
      kind = refl;
      room = omega arith;
      own = c.requires.own;
      within = omega arith;
      past = λ y lt ge. omega arith;
      left = front_whole _ c.args.cells.now.nodes c.args.self.now (omega arith);
    }

pub leave-requires : goal.leave-requires
leave-requires c = λ on. absurd (true≢false (sym on ∙ c.loop-end.invariant.own))

pub loop-end-preserved : goal.loop-end-preserved
loop-end-preserved c =
    let more = c.loop-end-test.true in
    let invariant = c.loop-end.invariant in
    let stays = c.leave.ensures.stays invariant.own in
    let before = invariant.room in
    let inside = invariant.within in
    let cells = c.args.cells.now.nodes in
    let next : (c.loop-end.end - 1) + 1 ≡ c.loop-end.end = omega arith in
    let without = subst (λ n. Without c.loop-end.self.kind (c.loop-end.end - 1) cells (front (c.loop-end.end - 1) cells) (front n cells)) next (without_front c.loop-end.self.kind (c.loop-end.end - 1) cells) in
    record {
      kind = c.leave.ensures.kind ∙ invariant.kind;
      room = omega arith;
      own = c.leave.ensures.own invariant.own;
      within = omega arith;
      past = λ y lt ge. absurd (omega arith);
      left = λ is. c.leave.ensures.left _ _ without (invariant.left is);
    }

pub returns-clause-left : goal.returns-clause-left
returns-clause-left c = λ is. front_cut c.loop-end.end c.args.count c.args.cells.now.nodes c.loop-end.self c.loop-end-test.false c.loop-end.invariant.past (c.loop-end.invariant.left is)

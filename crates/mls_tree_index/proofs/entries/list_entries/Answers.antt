use Rattle.std.proofs.Common.{◌+◌, sym, ◌∙◌, ap, subst, arith}
use Rattle.std.specs.Vec.{vec_len, vec_capacity}
use Rattle.mls_tree_index.specs.Keys.{key_in}
use Rattle.mls_tree_index.proofs.SortLaws.{AreBelow, below_none, below_same, below_more, below_all, past_cells}
use Rattle.mls_tree_index.proofs.entries.list_entries.Goals as goal
use Rattle.mls_tree_index.proofs.entries.list_entries.Goals.{in-Some, in_default}

pub loop-x-init : goal.loop-x-init
loop-x-init c =
    let capacity = c.in_ok-entries.ensures.capacity in
    let len = c.in_ok-entries.ensures.len in
    record {
      few = omega arith;
      room = omega arith;
      below = subst (AreBelow (key_in c.args.kind c.args.cells.now.nodes) 0) (sym c.in_ok-entries.ensures.items) (below_none (key_in c.args.kind c.args.cells.now.nodes));
    }

pub loop-x-preserved : goal.loop-x-preserved
loop-x-preserved c =
    let before = c.loop-x.invariant in
    let few = before.few in
    let room = before.room in
    let at = key_in c.args.kind c.args.cells.now.nodes in
    elim c.match-key_in.branch [
      | in-Some w ↦
          let len = w.push_reserved.ensures.len in
          let capacity = w.push_reserved.ensures.capacity in
          let wide = ap vec_len w.entries-is in
          let held = ap vec_capacity w.entries-is in
          record {
            few = omega arith;
            room = omega arith;
            below = subst (λ v. AreBelow at (c.loop-x.x + 1) v.items) (sym w.entries-is) (subst (AreBelow at (c.loop-x.x + 1)) (sym w.push_reserved.ensures.items) (below_more at c.loop-x.x c.loop-x.entries.items _ (record { key = _; here = ap at (w.new-entry.ensures.number) ∙ sym w.in-Some.ensures; front = w.new-entry.ensures.front; bytes = w.new-entry.ensures.bytes }) (w.new-entry.ensures.number) before.below));
          }
      | in_default w ↦
          let wide = ap vec_len w.entries-is in
          let held = ap vec_capacity w.entries-is in
          record {
            few = omega arith;
            room = omega arith;
            below = subst (λ v. AreBelow at (c.loop-x.x + 1) v.items) (sym w.entries-is) (below_same at c.loop-x.x c.loop-x.entries.items (sym w.in_default.ensures) before.below);
          }
    ]

pub returns : goal.returns
returns c =
    let past = c.loop-x-test.false in
    below_all (key_in c.args.kind c.args.cells.now.nodes) c.loop-x.x c.loop-x.entries.items (past_cells c.args.kind c.args.cells.now.nodes c.loop-x.x (omega arith)) c.loop-x.invariant.below

use Rattle.std.proofs.Common.{ap, ◌∙◌, sym, refl, Some, Ok}
use Rattle.mls_tree_model.specs.Edits.{put}
use Rattle.mls_tree_model.proofs.Equations.{update_is}
use Rattle.mls_tree.specs.Tree.{term}
use Rattle.mls_tree.specs.Faults.{number_of}
use Rattle.mls_tree.proofs.EditsKeepGood.{update_good, update_sound}
use Rattle.mls_tree.proofs.Answering.{update_refused, update_done}
use Rattle.mls_tree.proofs.RefusalLaws.{one_number, not_refused}
use Rattle.mls_tree.proofs.KeptHashes.{kept_long, kept-put}
use Rattle.mls_tree.proofs.Bounding.{updated}
use Rattle.mls_tree.proofs.Chilling.{edited_in}
use Rattle.mls_tree.proofs.tree.PublicTree.update.Goals as goal

pub returns-in-Err-clause-answer : goal.returns-in-Err-clause-answer
returns-in-Err-clause-answer c = (refl, λ _. update_refused _ _ c.args.leaf c.in-Err.ensures.1 ∙ ap (λ e. Rattle.std.proofs.Common.Err (number_of e)) (sym c.in-Err.ensures.0))

pub returns-clause-answer : goal.returns-clause-answer
returns-clause-answer c =
    let put_leaf = rw c.in_ok-leaf.ensures at c.in_ok-put_with_indexes.ensures.ok in
    update_done _ _ c.args.leaf c.in-Ok.ensures
    ∙ ap Ok (update_is _ c.args.i c.args.leaf ∙ ap (λ t. put 0 (term t) c.args.i (Some c.args.leaf)) (sym c.self.view_is) ∙ sym put_leaf.nodes.term)

pub returns-clause-good : goal.returns-clause-good
returns-clause-good c = update_good _ _ c.args.i c.args.leaf (returns-clause-answer c)

pub returns-clause-sound : goal.returns-clause-sound
returns-clause-sound c = update_sound _ _ c.args.i c.args.leaf (returns-clause-answer c)

pub returns-in-Err-clause-outright : goal.returns-in-Err-clause-outright
returns-in-Err-clause-outright c = one_number _ _ (update_refused _ _ c.args.leaf c.in-Err.ensures.1 ∙ ap (λ e. Rattle.std.proofs.Common.Err (number_of e)) (sym c.in-Err.ensures.0))

pub returns-clause-outright : goal.returns-clause-outright
returns-clause-outright c = not_refused _ _ (update_done _ _ c.args.leaf c.in-Ok.ensures)

pub returns-in_err-leaf-clause-outright : goal.returns-in_err-leaf-clause-outright
returns-in_err-leaf-clause-outright c = λ n h. absurd (not_refused _ _ (update_done _ _ c.args.leaf c.in-Ok.ensures) n h)

pub returns-in_err-put_with_indexes-clause-outright : goal.returns-in_err-put_with_indexes-clause-outright
returns-in_err-put_with_indexes-clause-outright c = λ n h. absurd (not_refused _ _ (update_done _ _ c.args.leaf c.in-Ok.ensures) n h)

pub put_with_indexes-requires-clause-long : goal.put_with_indexes-requires-clause-long
put_with_indexes-requires-clause-long c = kept_long c.self.inside.height c.self.inside.cells.nodes _ c.self.invariant.2

pub invariant_of-self : goal.invariant_of-self
invariant_of-self c =
    let indexed = c.put_with_indexes.ensures.indexes c.self.invariant.4 in
    rw c.in_err-put_with_indexes.ensures.err (c.self.invariant.0, c.self.invariant.1, c.self.invariant.2, c.self.invariant.3, rw c.in_err-put_with_indexes.ensures.err at indexed)

pub invariant_of-self-2 : goal.invariant_of-self-2
invariant_of-self-2 c =
    let put_leaf = c.in_ok-put_with_indexes.ensures.ok in
    (put_leaf.nodes.stands, c.self.invariant.1, kept-put _ _ _ c.self.invariant.2 _ _ _ _ _ put_leaf.hashes put_leaf.nodes, updated _ _ _ _ _ (ap term c.self.view_is) c.self.invariant.3 _ _ _ _ put_leaf.nodes c.in-Ok.ensures, c.put_with_indexes.ensures.indexes c.self.invariant.4)

pub returns-clause-cold : goal.returns-clause-cold
returns-clause-cold c =
    edited_in c.self.inside.height c.args.i c.self.inside.cells.nodes _ _ _ c.self.view_is c.self.invariant.2 c.in-Ok.ensures _ _ _ c.in_ok-put_with_indexes.ensures.ok.hashes refl

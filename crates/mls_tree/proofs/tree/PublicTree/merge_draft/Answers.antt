use Rattle.std.specs.Prelude.{OnOk}
use Rattle.mls_tree.specs.EditsKeepGood.{MakesGood}
use Rattle.mls_tree.specs.PathDraft.{Draft}
use Rattle.mls_tree.proofs.tree.PublicTree.merge_draft.Goals as goal
use Rattle.std.proofs.Common.{ℕ, List, subst}

pub returns-clause-checked : goal.returns-clause-checked
returns-clause-checked c =
    let inside = subst (λ (keys : List (List ℕ)). OnOk c.merge_made.result (MakesGood c.draft.inside.index c.args.leaf keys c.args.self.now c.merge_made.new.self)) c.deref.ensures.value c.merge_made.ensures.checked in
    subst (λ (draft : Draft). OnOk c.merge_made.result (MakesGood draft.index c.args.leaf draft.keys c.args.self.now c.merge_made.new.self)) c.draft.view_is inside

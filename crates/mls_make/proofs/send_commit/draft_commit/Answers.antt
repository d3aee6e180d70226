use Rattle.std.proofs.Common.{List, ℕ, ap, ◌∙◌}
use Rattle.mls_types.specs.Content.{framed_content}
use Rattle.mls_tree.specs.Tree.{term}
use Rattle.mls_model.specs.Commit.{change_of}
use Rattle.mls_make.proofs.send_commit.draft_commit.Goals as goal

pub returns-clause-change : goal.returns-clause-change
returns-clause-change g c =
    c.in_ok-outcome.ensures
    ∙ ap (λ (b : List ℕ). change_of c.args.speaker.now.group.now c.args.extensions.now c.args.edits (term c.args.tree) b c.deref.result.now) c.bytes.ensures.bytes
    ∙ ap (λ (s : List ℕ). change_of c.args.speaker.now.group.now c.args.extensions.now c.args.edits (term c.args.tree) (framed_content.spell c.args.framed.now) s) c.deref.ensures.value

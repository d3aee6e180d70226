use Rattle.std.proofs.Common.{refl}
use Rattle.std.proofs.lemmas.Result.{err_from_is_err_and}
use Rattle.mls_leaf.specs.Faults.{number_of as number_of_leaf}
use Rattle.mls_types.specs.Content.{framed_content}
use Rattle.mls_tree.specs.Tree.{term}
use Rattle.mls_make.proofs.TwoSteps.{content_refused, sent_fails, sent_done, edits_are, tree_is}
use Rattle.mls_make.proofs.send_commit.send_commit.Goals as goal

pub returns-in_err-framed-clause-answer : goal.returns-in_err-framed-clause-answer
returns-in_err-framed-clause-answer g c =
    let p = err_from_is_err_and c.from_residual.result c.from_residual.ensures.1 in
    rw (p.1, p.2) (λ m speaks other. content_refused g.S.Suite.crypto m c.args.extensions.now c.args.commit c.args.edits (term c.args.tree) c.args.commit_secret.now (number_of_leaf c.in_err-framed.field-0.0) (c.in_err-framed.ensures m speaks other))

pub returns-in_err-draft-clause-answer : goal.returns-in_err-draft-clause-answer
returns-in_err-draft-clause-answer g c =
    let p = err_from_is_err_and c.from_residual-in_err-draft.result c.from_residual-in_err-draft.ensures.1 in
    rw (p.1, p.2) (λ m speaks other. absurd (other refl))

pub returns-in_err-message-clause-answer : goal.returns-in_err-message-clause-answer
returns-in_err-message-clause-answer g c =
    let p = err_from_is_err_and c.from_residual-in_err-message.result c.from_residual-in_err-message.ensures.1 in
    rw (p.1, p.2) (λ m speaks other.
    sent_fails g.S.Suite.crypto m c.args.speaker.now c.args.extensions.now c.args.commit c.args.edits (term c.args.tree) c.args.commit_secret.now speaks c.in_ok-framed.framed (c.in_ok-framed.ensures m speaks)
    c.in_ok-draft.draft.signature.items (c.in_ok-draft.ensures.signature m speaks) (framed_content.spell c.in_ok-framed.framed) c.in_ok-draft.draft.signature.items refl refl
    c.in_ok-draft.draft.outcome.change c.in_ok-draft.ensures.change c.in_ok-draft.draft.begun.joiner c.in_ok-draft.draft.begun.epoch c.in_ok-draft.draft.begun.tag
    c.in_ok-draft.ensures.joiner c.in_ok-draft.ensures.epoch c.in_ok-draft.ensures.tag (number_of_leaf c.in_err-message.field-0.0) (c.in_err-message.ensures m speaks other))

pub returns-clause-answer : goal.returns-clause-answer
returns-clause-answer g c = λ m speaks.
    sent_done g.S.Suite.crypto m c.args.speaker.now c.args.extensions.now c.args.commit c.args.edits (term c.args.tree) c.args.commit_secret.now speaks c.in_ok-framed.framed (c.in_ok-framed.ensures m speaks)
    c.in_ok-draft.draft.signature.items (c.in_ok-draft.ensures.signature m speaks) (framed_content.spell c.in_ok-framed.framed) c.in_ok-draft.draft.signature.items refl refl
    c.in_ok-draft.draft.outcome.change c.in_ok-draft.ensures.change c.in_ok-draft.draft.begun.joiner c.in_ok-draft.draft.begun.epoch c.in_ok-draft.draft.begun.tag
    c.in_ok-draft.ensures.joiner c.in_ok-draft.ensures.epoch c.in_ok-draft.ensures.tag c.in_ok-message.message.items (c.in_ok-message.ensures m speaks)

pub returns-clause-short : goal.returns-clause-short
returns-clause-short g c = c.know_short_commit.ensures c.args.commit c.in_ok-framed.ensures

pub returns-clause-edits : goal.returns-clause-edits
returns-clause-edits g c = edits_are c.args.speaker.now.group.now c.args.extensions.now c.args.edits (term c.args.tree) (framed_content.spell c.in_ok-framed.framed) c.in_ok-draft.draft.signature.items c.in_ok-draft.draft.outcome.change c.in_ok-draft.ensures.change

pub returns-clause-tree : goal.returns-clause-tree
returns-clause-tree g c = tree_is c.args.speaker.now.group.now c.args.extensions.now c.args.edits (term c.args.tree) (framed_content.spell c.in_ok-framed.framed) c.in_ok-draft.draft.signature.items c.in_ok-draft.draft.outcome.change c.in_ok-draft.ensures.change

use Rattle.mls_view.proofs.PublicLaws.{text_auth, proposal_auth, commit_auth}
use Rattle.mls_view.proofs.auth.read_auth_data.Goals as goal

pub returns-in-Application : goal.returns-in-Application
returns-in-Application c = λ said shows. text_auth c.args.content.now _ said c.args.reader.now c.opaque.new.self c.in_ok-signature.signature c.in-Application.is shows c.in_ok-signature.ensures

pub returns-in-Proposal : goal.returns-in-Proposal
returns-in-Proposal c = λ said shows. proposal_auth c.args.content.now _ said c.args.reader.now c.opaque.new.self c.in_ok-signature.signature c.in-Proposal.is shows c.in_ok-signature.ensures

pub returns-in_ok-confirmation_tag-in-Commit : goal.returns-in_ok-confirmation_tag-in-Commit
returns-in_ok-confirmation_tag-in-Commit c = λ said shows.
    commit_auth c.args.content.now _ _ said c.args.reader.now c.opaque.new.self c.opaque-in-Commit.new.self c.in_ok-signature.signature c.in_ok-confirmation_tag-in-Commit.confirmation_tag c.in-Commit.is shows
    c.in_ok-signature.ensures c.in_ok-confirmation_tag-in-Commit.ensures

use Rattle.std.proofs.Common.{rules}
use Rattle.mls_member.proofs.ContentLaws.{application_is, proposal_does, commit_does}
use Rattle.mls_member.proofs.member.Member.message_verdict.Goals as goal

pub returns-in-Application-clause-verdict : goal.returns-in-Application-clause-verdict
returns-in-Application-clause-verdict g c = λ shown shows. (search rules, λ _. application_is g.S.Suite.crypto c.args.self.now c.args.view.now shown c.args.bytes.now _ shows c.in-Application.is (c.in_ok-framing_checks.ensures.answer shown shows))

pub returns-in-Proposal-clause-verdict : goal.returns-in-Proposal-clause-verdict
returns-in-Proposal-clause-verdict g c = λ shown shows. proposal_does g.S.Suite.crypto c.args.self.now c.args.view.now shown c.args.bytes.now _ _ _ shows c.in-Proposal.is (c.in_ok-framing_checks.ensures.answer shown shows) (λ made spells. c.proposal_verdict.ensures shown made shows spells)

pub returns-in-Commit-clause-verdict : goal.returns-in-Commit-clause-verdict
returns-in-Commit-clause-verdict g c = λ shown shows. commit_does g.S.Suite.crypto c.args.self.now c.args.view.now shown c.args.bytes.now _ _ _ _ shows c.in-Commit.is (c.in_ok-framing_checks.ensures.answer shown shows) (λ commit tag is list path. c.commit_verdict.ensures shown commit tag shows is list path)

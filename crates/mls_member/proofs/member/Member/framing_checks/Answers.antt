use Rattle.std.proofs.Common.{rules}
use Rattle.mls_member.proofs.TwoParts.{fails_first, goes_on}
use Rattle.mls_member.proofs.member.Member.framing_checks.Goals as goal

pub returns-in_err-leaf-clause-answer : goal.returns-in_err-leaf-clause-answer
returns-in_err-leaf-clause-answer g c = λ shown shows. let e = fails_first g.S.Suite.crypto c.args.self.now shown c.args.bytes.now _ (c.in_err-leaf.ensures shown shows) in rw e (search rules)

pub returns-clause-answer : goal.returns-clause-answer
returns-clause-answer g c = λ shown shows. rw (goes_on g.S.Suite.crypto c.args.self.now shown c.args.bytes.now _ (c.in_ok-leaf.ensures shown shows)) (c.check_sender.ensures shown shows)

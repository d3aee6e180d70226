use Rattle.std.proofs.lemmas.Result.{err_from_is_err_and}
use Rattle.mls_test_pair.proofs.Sharing.{refused_still, refused_at_end, added_follows, added_is_welcome, added_enters, added_shares_at_end}
use Rattle.mls_member.specs.Faults.{number_of}
use Rattle.mls_model.specs.Verdict.{verdict}
use Rattle.mls_model.specs.Make.{commit_call}
use Rattle.std.proofs.Common.{true}
use Rattle.mls_test_pair.specs.Pair.{addition_of, member_by_welcome}
use Rattle.mls_test_pair.proofs.pair.admit.Goals as goal

pub returns-in_err-process-clause-refused : goal.returns-in_err-process-clause-refused
returns-in_err-process-clause-refused g c =
    let p = err_from_is_err_and c.from_residual-in_err-process.result c.from_residual-in_err-process.ensures.1 in
    refused_still c.from_residual-in_err-process.result p.0 c.in_err-process.field-0.0 (verdict g.S.Suite.crypto c.add.new.member c.deref.result.now) (commit_call g.S.Suite.crypto c.args.member.now (addition_of c.args.candidate.now) true c.args.seed.now)
    p.1 p.2
    (added_follows g.S.Suite.crypto c.args.member.now c.add.new.member c.args.candidate.now c.in_ok-commit.field-0 c.in_ok-commit.ensures.reaches c.deref.result.now c.deref.ensures.value)
    c.in_err-process.ensures.verdict.1

pub unreachable-requires : goal.unreachable-requires
unreachable-requires g c = added_is_welcome g.S.Suite.crypto c.args.member.now c.add.new.member c.args.candidate.now c.in_ok-commit.field-0 c.in_ok-commit.ensures.reaches c.requires.candidate c.in_default.is

pub returns-clause-shares : goal.returns-clause-shares
returns-clause-shares g c =
    added_shares_at_end g.S.Suite.crypto c.args.member.now c.add.new.member c.args.candidate.now c.in_ok-commit.field-0 c.in_ok-commit.ensures.reaches c.requires.candidate c.in-Some.welcome c.in-Some.is c.deref-2.result.now c.deref-2.ensures.value
    (λ m. m.value) number_of c.enter.result c.deref.result.now c.process.new.self c.in_ok-process.field-0 c.deref.ensures.value c.in_ok-process.ensures.verdict c.enter.ensures

pub returns-clause-refused : goal.returns-clause-refused
returns-clause-refused g c =
    refused_at_end (λ m. m.value) c.enter.result (member_by_welcome g.S.Suite.crypto c.args.candidate.now c.deref-2.result.now) (commit_call g.S.Suite.crypto c.args.member.now (addition_of c.args.candidate.now) true c.args.seed.now)
    (added_enters g.S.Suite.crypto c.args.member.now c.add.new.member c.args.candidate.now c.in_ok-commit.field-0 c.in_ok-commit.ensures.reaches c.requires.candidate c.in-Some.welcome c.in-Some.is c.deref-2.result.now c.deref-2.ensures.value)
    c.enter.ensures

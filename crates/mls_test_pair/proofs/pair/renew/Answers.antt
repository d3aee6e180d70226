use Rattle.std.proofs.lemmas.Result.{err_from_is_err_and}
use Rattle.mls_test_pair.proofs.Sharing.{refused_still, none_taken, none_shares}
use Rattle.mls_model.specs.Verdict.{verdict}
use Rattle.mls_model.specs.Make.{commit_call}
use Rattle.std.proofs.Common.{[], true}
use Rattle.mls_test_pair.proofs.pair.renew.Goals as goal

pub returns-in_err-process-clause-refused : goal.returns-in_err-process-clause-refused
returns-in_err-process-clause-refused g c =
    let p = err_from_is_err_and c.from_residual-in_err-process.result c.from_residual-in_err-process.ensures.1 in
    refused_still c.from_residual-in_err-process.result p.0 c.in_err-process.field-0.0 (verdict g.S.Suite.crypto c.args.second.now c.deref.result.now) (commit_call g.S.Suite.crypto c.args.first.now [] true c.args.seed.now)
    p.1 p.2
    (none_taken g.S.Suite.crypto c.args.first.now c.commit.new.self c.args.second.now c.in_ok-made.made (c.in_ok-made.ensures.reaches c.requires.good) c.requires c.deref.result.now c.deref.ensures.value)
    c.in_err-process.ensures.verdict.1

pub returns-clause-shares : goal.returns-clause-shares
returns-clause-shares g c =
    none_shares g.S.Suite.crypto c.args.first.now c.commit.new.self c.args.second.now c.in_ok-made.made (c.in_ok-made.ensures.reaches c.requires.good) c.requires c.deref-2.result.now c.deref.result.now
    c.process-2.new.self c.process.new.self c.in_ok-process-2.field-0 c.in_ok-process.field-0 c.deref-2.ensures.value c.deref.ensures.value c.in_ok-process-2.ensures.verdict c.in_ok-process.ensures.verdict

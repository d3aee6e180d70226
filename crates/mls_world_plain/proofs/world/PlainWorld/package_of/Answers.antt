use Rattle.std.proofs.lemmas.Result.{err_from_is_err_and}
use Rattle.mls_world_plain.proofs.EarlyChecks.{package_unlent, package_lent}
use Rattle.mls_world_plain.proofs.world.PlainWorld.package_of.Goals as goal

pub returns-in_err-bytes-clause-outright : goal.returns-in_err-bytes-clause-outright
returns-in_err-bytes-clause-outright g c = λ n h.
    let p = err_from_is_err_and c.from_residual.result c.from_residual.ensures.1 in
    rw (p.1, p.2) (package_unlent c.args.self.now c.args.source.now _ n c.in_err-bytes.ensures h)

pub returns-clause-outright : goal.returns-clause-outright
returns-clause-outright g c = λ n h. c.read_package.ensures.outright n (package_lent c.args.self.now c.args.source.now c.in_ok-bytes.bytes.now n c.in_ok-bytes.ensures h)

use Rattle.std.proofs.Common.{sym, subst}
use Rattle.mls_leaf.specs.KeyPackage.{key_package as key_package_format}
use Rattle.mls_member.proofs.Good.{not_gone, add_good}
use Rattle.mls_member.proofs.Own.{add_fits}
use Rattle.mls_member.proofs.member.Member.propose_add.Goals as goal

pub send_and_keep-requires : goal.send_and_keep-requires
send_and_keep-requires g c = λ _. add_fits c.in_ok-clone.field-0 (subst key_package_format.Fits (sym c.in_ok-clone.ensures.cases) c.requires.fits)

pub returns-clause-good : goal.returns-clause-good
returns-clause-good g c = λ good.
    add_good g.S.Suite.crypto c.args.self.now c.send_and_keep.new.self c.args.key_package.now c.in_ok-clone.field-0 c.send_and_keep.result good c.requires.fits c.in_ok-clone.ensures.cases (not_gone c.args.self.now _ c.self.view_is c.if-self.false) c.in_ok-require_package.ensures
    c.send_and_keep.ensures

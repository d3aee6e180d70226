use Rattle.std.proofs.Common.{◌∙◌}
use Rattle.mls_test_suite.proofs.Uses.{verified}
use Rattle.mls_test_suite.proofs.sign_and_verify.Goals as goal

pub returns : goal.returns
returns g c =
    verified g.S.Suite.crypto g.met.S.Suite.lawful _ _ _ _ _ _ (c.deref.ensures.value ∙ c.in_ok-pk.ensures) (c.deref-2.ensures.value ∙ c.in_ok-signature.ensures) c.in_ok-good.ensures

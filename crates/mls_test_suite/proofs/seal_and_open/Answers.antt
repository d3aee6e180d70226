use Rattle.std.proofs.Common.{◌∙◌}
use Rattle.mls_test_suite.proofs.Uses.{reads, never_unmade}
use Rattle.mls_test_suite.proofs.seal_and_open.Goals as goal

pub returns-in_default : goal.returns-in_default
returns-in_default g c =
    let sealed = rw c.in_default.is at c.in_ok-sealed.ensures in
    absurd (never_unmade g.S.Suite.crypto g.met.S.Suite.lawful _ _ _ _ _ _ (c.deref.ensures.value ∙ c.in_ok-pk.ensures) sealed)

pub returns : goal.returns
returns g c =
    let sealed = rw c.in-Some.is at c.in_ok-sealed.ensures in
    let opened = rw (c.deref-2.ensures.value, c.deref-3.ensures.value) at c.in_ok-read.ensures in
    reads g.S.Suite.crypto g.met.S.Suite.lawful _ _ _ _ _ _ _ _ (c.deref.ensures.value ∙ c.in_ok-pk.ensures) sealed opened

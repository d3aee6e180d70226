use Rattle.std.proofs.Common.{◌≡◌, drop, map}
use Rattle.mls_welcome.specs.Joiners.{package_and_leaf_of}
use Rattle.mls_welcome.specs.WelcomeMessage.{have_fit_keys}
use Rattle.mls_welcome.proofs.entries.have_fit_keys.Given as goal

abbrev pub invariant-loop-joiner : goal.invariant-loop-joiner
invariant-loop-joiner g l = have_fit_keys g.S.Suite.crypto (map package_and_leaf_of (drop l.joiner-index l.joiners)) ≡ have_fit_keys g.S.Suite.crypto (map package_and_leaf_of l.joiners)

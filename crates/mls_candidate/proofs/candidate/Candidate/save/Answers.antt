use Rattle.std.proofs.Common.{sym, subst}
use Rattle.mls_leaf.specs.KeyPackage.{key_package}
use Rattle.mls_candidate.proofs.Saving.{saved_fits}
use Rattle.mls_candidate.proofs.candidate.Candidate.save.Goals as goal

pub saved_spelling-requires : goal.saved_spelling-requires
saved_spelling-requires g c =
    saved_fits _ (subst key_package.Fits (sym c.in_ok-clone.ensures.cases) c.self.invariant.1.fits) c.in_ok-secret_bytes.ensures.long
    c.in_ok-secret_bytes-2.ensures.long c.in_ok-secret_bytes-3.ensures.long

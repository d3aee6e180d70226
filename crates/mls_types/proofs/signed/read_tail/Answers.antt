use Rattle.std.proofs.Common.{refl}
use Rattle.mls_types.specs.Signed.{signed_tail}
use Rattle.mls_types.proofs.signed.read_tail.Goals as goal

pub returns-in_ok-commit-in-3 : goal.returns-in_ok-commit-in-3
unfolding signed_tail
returns-in_ok-commit-in-3 c = rw (c.in_ok-u8.ensures, c.in-3.is, c.in_ok-commit-in-3.ensures) refl

use Rattle.std.proofs.Common.{refl}
use Rattle.mls_types.specs.Content.{content}
use Rattle.mls_types.proofs.content.ContentCodec.read.Goals as goal

pub returns-in_ok-commit-in-3 : goal.returns-in_ok-commit-in-3
unfolding content
returns-in_ok-commit-in-3 c = rw (c.in_ok-u8.ensures, c.in-3.is, c.in_ok-commit-in-3.ensures) refl

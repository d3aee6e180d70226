use Rattle.std.proofs.Common.{ℕ, List, length, arith, lit<}
use Rattle.std.specs.Int.{w8}
use Rattle.mls_wire.specs.Reading.{uint, header, opaque}
use Rattle.mls_types.specs.Content.{content}
use Rattle.mls_types.specs.declared.content.Content.TheVariants as says
use Rattle.mls_public_group.specs.MessageLimit.{FitsIfShort}
use Rattle.mls_public_group.proofs.Lengths.{last_within}
use Rattle.mls_test_member.proofs.messages.text.Goals as goal

application_fits : (x : List ℕ) → FitsIfShort content (says.Application x)
unfolding content
application_fits x = λ short. (lit< tt, omega (arith, short, last_within (uint w8 1) (opaque x), last_within (header (length x)) x))

pub returns : goal.returns
returns c = application_fits c.from_vec-bytes.result

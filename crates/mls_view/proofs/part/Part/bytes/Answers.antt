use Rattle.mls_leaf.proofs.WholeLaws.{passed_spells}
use Rattle.mls_view.proofs.part.Part.bytes.Goals as goal

pub returns-clause-spelled : goal.returns-clause-spelled
returns-clause-spelled g c = rw c.lend_bytes.ensures.same (passed_spells g.T.Codec.format c.self.inside.bytes.now c.lend_bytes.ensures.bytes c.self.invariant)

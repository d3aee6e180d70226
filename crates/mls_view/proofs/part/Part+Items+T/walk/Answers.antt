use Rattle.std.proofs.Common.{◌≡◌, ◌∙◌, ap, sym}
use Rattle.mls_wire.specs.Reading.{opaque_at}
use Rattle.mls_view.proofs.WalkLaws.{walked}
use Rattle.mls_view.proofs.part.Part+Items+T.walk.Goals as goal

pub returns-in-Ok : goal.returns-in-Ok
returns-in-Ok g c =
    let begins : c.args.self.now ≡ c.new-reader.result = let same : c.args.self.now ≡ c.self.inside.bytes.now = cc in same ∙ sym c.new-reader.ensures in
    λ vs spells. rw c.new.ensures (walked g.T.Codec.format g.T.Codec.nonempty vs c.args.self.now c.in-Ok.content.now c.opaque.new.self spells (ap opaque_at begins ∙ c.in-Ok.ensures))

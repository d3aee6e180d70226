use Rattle.std.proofs.Common.{◌≡◌, ◌∙◌, List, ℕ, subst}
use Rattle.mls_leaf.specs.Faults.{ReadsFront}
use Rattle.mls_view.specs.Views.{Owns}
use Rattle.mls_view.proofs.PartLaws.{owned}
use Rattle.mls_view.proofs.part.Part.to_owned.Goals as goal

pub returns : goal.returns
returns g c =
    let begins : c.new-reader.result ≡ c.self.inside.bytes.now = c.new-reader.ensures ∙ c.lend_bytes.ensures.same in
    let same : c.self.inside.bytes.now ≡ c.args.self.now = cc in
    let reads : ReadsFront g.T.Codec.format c.self.inside.bytes.now c.read.result c.read.new.reader = subst (λ (l : List ℕ). ReadsFront g.T.Codec.format l c.read.result c.read.new.reader) begins c.read.ensures in
    subst (λ (l : List ℕ). Owns g.T.Codec.format l c.read.result) same (owned g.T.Codec.format c.self.inside.bytes.now c.read.new.reader c.read.result c.lend_bytes.ensures.bytes c.self.invariant reads)

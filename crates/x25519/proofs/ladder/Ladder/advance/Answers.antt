use Rattle.std.proofs.Common.{refl, ap, ◌∙◌, ◌≡◌}
use Rattle.curve25519.specs.Field25519.{field}
use Rattle.curve25519.specs.Ladder.{State, advance}
use Rattle.curve25519.specs.X25519.{a24}
use Rattle.x25519.proofs.Steps.{constant}
use Rattle.x25519.proofs.ladder.Ladder.advance.Goals as goal

pub returns : goal.returns
returns c =
    let here : ◌≡◌ {A = State field} (c.multiply.result, c.multiply-2.result, c.square.result, c.multiply-3.result) (advance field a24 c.args.u.now (c.self.inside.x2, c.self.inside.z2, c.self.inside.x3, c.self.inside.z3)) =
    rw (c.multiply.ensures, c.multiply-2.ensures, c.square.ensures, c.multiply-3.ensures, c.add-factor.ensures, c.scale-scaled.ensures, c.square-squared.ensures, c.subtract-difference.ensures, c.add-sum.ensures, c.multiply-cb.ensures, c.multiply-da.ensures, c.subtract-d.ensures, c.add-c.ensures, c.subtract-e.ensures, c.square-bb.ensures, c.subtract-b.ensures, c.square-aa.ensures, c.add-a.ensures, constant) refl in
    here ∙ ap (advance field a24 c.args.u.now) c.self.view_is

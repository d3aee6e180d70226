use Rattle.std.proofs.Common.{ℕ, ◌≡◌, ◌+◌, sym, ap, subst, ◌∙◌, arith}
use Rattle.curve25519.specs.Curve25519.{multiple}
use Rattle.curve25519.proofs.Group.{multiple_on}
use Rattle.curve25519.proofs.Curve25519.{curve}
use Rattle.ed25519.specs.Coordinates.{Represents}
use Rattle.ed25519.proofs.Steps.{together}
use Rattle.ed25519.proofs.point_multiple.SmallMultiples.add_to.Goals as goal

pub returns-in-1 : goal.returns-in-1
returns-in-1 c = λ q m on multiples rep.
    subst (Represents c.add.result) (together q m 1 on ∙ ap (λ t. multiple q (m + t)) (sym c.in-1.is))
    (c.add.ensures (multiple q m) (multiple q 1) (multiple_on curve q on m) (multiple_on curve q on 1) rep multiples.0)

pub returns-in-2 : goal.returns-in-2
returns-in-2 c = λ q m on multiples rep.
    subst (Represents c.add-in-2.result) (together q m 2 on ∙ ap (λ t. multiple q (m + t)) (sym c.in-2.is))
    (c.add-in-2.ensures (multiple q m) (multiple q 2) (multiple_on curve q on m) (multiple_on curve q on 2) rep multiples.1)

pub returns-in_default : goal.returns-in_default
returns-in_default c = λ q m on multiples rep.
    let e : ◌≡◌ {A = ℕ} 3 c.args.digit = omega arith in
    subst (Represents c.add-in_default.result) (together q m 3 on ∙ ap (λ t. multiple q (m + t)) e)
    (c.add-in_default.ensures (multiple q m) (multiple q 3) (multiple_on curve q on m) (multiple_on curve q on 3) rep multiples.2)

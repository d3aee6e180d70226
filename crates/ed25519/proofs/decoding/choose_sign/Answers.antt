use Rattle.std.proofs.Common.{ap₂, subst}
use Rattle.curve25519.specs.Field25519.{field}
use Rattle.ed25519.specs.Coordinates.{Represents}
use Rattle.ed25519.proofs.Opposite.{negative_on}
use Rattle.ed25519.proofs.Branches.{first_root, other_root}
use Rattle.ed25519.proofs.decoding.choose_sign.Goals as goal

pub returns-then-lowest_bit-sign : goal.returns-then-lowest_bit-sign
returns-then-lowest_bit-sign c = λ on. (
  (c.args.x.now, c.args.y.now),
  first_root c.args.x.now c.args.y.now c.args.sign _ c.lowest_bit.ensures c.if-lowest_bit-sign.true,
  on,
  subst (Represents c.from_coordinates.result) (ap₂ (λ a b. (a, b)) c.copy.ensures c.copy-then-lowest_bit-sign.ensures) c.from_coordinates.ensures,
)

pub returns-else-is_zero : goal.returns-else-is_zero
returns-else-is_zero c = λ on. (
  (field.neg c.args.x.now, c.args.y.now),
  other_root c.args.x.now c.args.y.now c.args.sign _ _ c.lowest_bit.ensures c.if-lowest_bit-sign.false c.is_zero.ensures c.if-is_zero.false,
  negative_on (c.args.x.now, c.args.y.now) on,
  subst (Represents c.from_coordinates-else-is_zero.result) (ap₂ (λ a b. (a, b)) c.negate.ensures c.copy-else-is_zero.ensures) c.from_coordinates-else-is_zero.ensures,
)

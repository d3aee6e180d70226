-- The first iteration of RFC 7748, section 5.2: scalar and u are both 9, and the answer is 422c8e7a...ae3079.
use Rattle.std.proofs.Common.{◌≡◌, ◌+◌, ◌^◌, refl}
use native.Mathlib.Fin.{val_path}
use Rattle.curve25519.specs.Modular.{of, modulo}
use Rattle.curve25519.specs.Field25519.{field, residue}
use Rattle.curve25519.specs.Ladder.{State, ladder}
use Rattle.curve25519.specs.X25519.{a24, nine}

state : State field
unfolding ladder a24 nine residue field modulo of
state = ladder field a24 nine 255 (2 ^ 254 + 8)

published : field.Of
unfolding residue field modulo of
published = residue 54815864700279561125610391355931320566748822376190344121911385527384361806914

-- the published number times Z is X
vector : field.mul published state.1 ≡ state.0
unfolding state published ladder a24 nine residue field modulo of
vector = val_path refl

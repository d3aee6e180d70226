-- What tells numbers of the field, and states of the ladder, from others.
use Rattle.std.specs.Prelude.{◌≡◌, ℕ, refl}
use Rattle.std.specs.Coded.{Coded, code_by, coded_ℕ, coded×}
use Rattle.std.proofs.Common.{mod-eq_of_lt}
use native.Mathlib.Fin.{val_path}
use Rattle.curve25519.specs.Modular.{of, modulo}
use Rattle.curve25519.specs.Field25519.{field, residue, least}
use Rattle.curve25519.specs.Ladder.{State}

-- a number of the field is told by its least representative
pub residue_least : (x : field.Of) → residue (least x) ≡ x
unfolding residue least field modulo of
residue_least x = val_path (mod-eq_of_lt x.1)

abbrev pub coded_number : Coded field.Of
coded_number = code_by ℕ coded_ℕ least residue residue_least

-- a state is told by its four numbers
abbrev pub coded_state : Coded (State field)
coded_state =
    code_by ((field.Of × field.Of) × (field.Of × field.Of))
    (coded× (coded× coded_number coded_number) (coded× coded_number coded_number))
    (λ s. ((s.0, s.1), (s.2, s.3)))
    (λ p. (p.0.0, p.0.1, p.1.0, p.1.1))
    (λ _. refl)

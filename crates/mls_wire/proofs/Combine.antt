-- Formats that are put together, one word for each form that RFC 9420 section 2.1 and RFC 8446 section 3 have.
use Rattle.std.specs.Prelude.{◌≡◌, ℕ, Bool, true, false, cond, ◌==◌, refl}
use Rattle.std.proofs.Common.{sym}
use Rattle.std.proofs.lemmas.Bool.{eqb-true}
use Rattle.mls_wire.specs.Format.{Format}
use Rattle.mls_wire.specs.Combine.{no_format, Cases}

abbrev pub last_body : {V : Type 0} → ℕ → Format V → ℕ → ℕ → Format V
last_body k a fault t = cond (t == k) a (no_format fault)

last_chosen : {V : Type 0} (b : Bool) (fault : ℕ) (a : Format V) (v : V) → (cond b a (no_format fault)).Fits v → b ≡ true
last_chosen true fault a v fits = refl
last_chosen false fault a v fits = absurd fits

pub is_last : {V : Type 0} (k : ℕ) (a : Format V) (fault : ℕ) (t : ℕ) (v : V) → (last_body k a fault t).Fits v → k ≡ t
is_last k a fault t v fits = sym (eqb-true t k (last_chosen (t == k) fault a v fits))

-- this tag, or the fault
abbrev pub last : {V : Type 0} → ℕ → Format V → ℕ → Cases V
last k a fault = record { tag_of = λ _. k; body = last_body k a fault; is_tag = is_last k a fault }

-- Tags that are none of several.
use Rattle.std.proofs.Common.{◌≡◌, ℕ, Bool, true, false, cond, eqb, List, Result, Err, ap}
use Rattle.std.proofs.lemmas.Bool.{ne_eqb}
use Rattle.mls_wire.specs.Reading.{◌>>=◌}
use Rattle.mls_wire.specs.Format.{Format}
use Rattle.mls_wire.specs.Combine.{Cases, case_body, left_format, right_format, make_right}
use Rattle.mls_wire.specs.CombineReads.{seen_read}

read_by : {A B : Type 0} (b : Bool) (a : Format A) (r : Format B) (bytes : List ℕ) (fault : ℕ) → b ≡ false → r.read bytes ≡ Err fault → (cond b (left_format a) (right_format r)).read bytes ≡ Err fault
read_by true a r bytes fault is e = absurd cc
read_by {A} {B} false a r bytes fault is e = ap (λ (x : Result (B × List ℕ) ℕ). x >>= seen_read (make_right {A = A})) e

pass_by : {A B : Type 0} (b : Bool) (a : Format A) (r : Format B) (bytes : List ℕ) (fault : ℕ) → b ≡ false → r.pass bytes ≡ Err fault → (cond b (left_format a) (right_format r)).pass bytes ≡ Err fault
pass_by true a r bytes fault is e = absurd cc
pass_by false a r bytes fault is e = e

-- where a tag isn't this one, the fault of the others is the fault
pub read_other : {A B : Type 0} (k t : ℕ) (a : Format A) (c : Cases B) (bytes : List ℕ) (fault : ℕ) → (t ≡ k → ⊥) → (c.body t).read bytes ≡ Err fault → (case_body k a c t).read bytes ≡ Err fault
read_other k t a c bytes fault ne e = read_by (eqb t k) a (c.body t) bytes fault (ne_eqb t k ne) e

pub pass_other : {A B : Type 0} (k t : ℕ) (a : Format A) (c : Cases B) (bytes : List ℕ) (fault : ℕ) → (t ≡ k → ⊥) → (c.body t).pass bytes ≡ Err fault → (case_body k a c t).pass bytes ≡ Err fault
pass_other k t a c bytes fault ne e = pass_by (eqb t k) a (c.body t) bytes fault (ne_eqb t k ne) e

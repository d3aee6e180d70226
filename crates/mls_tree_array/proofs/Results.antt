-- What holds where a call succeeded.
use Rattle.std.proofs.Common.{Result, OnOk, Ok, Err}

-- from what one call ensured where it succeeded
pub on_ok : {A E : Type 0} {P Q : Type 0} (result : Result A E) → OnOk result P → (P → Q) → OnOk result Q
on_ok (Ok v) p f = f p
on_ok (Err e) p f = tt

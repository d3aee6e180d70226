-- How a page of what is told of a refusal ends.
use Rattle.std.proofs.Common.{◌≡◌, ℕ, Bool, false, List, Option, Some, None, refl}
use Rattle.std.specs.Prelude.{◌≢◌}
use Rattle.std.specs.Io.KnownBytes.{Keeps}
use Rattle.mls_cli_text.specs.InputOutput.{write_fails}
use Rattle.mls_cli_text.specs.declared.fault.Fault.{Fault}
use Rattle.mls_cli_text.specs.declared.fault.Fault.TheVariants as fault
use Rattle.mls_cli_serve.specs.Serving.{cause}

-- what isn't written to stays
pub stays : (known : Option (List ℕ)) → Keeps known known
stays None = tt
stays (Some bytes) = refl

-- a fault while an output that hadn't failed is written to, by whether it has failed since
pub cause_is : (e : Fault) (written : Bool) → e ≢ fault.Read → written ≡ write_fails false e → e ≡ cause false written
cause_is fault.OutOfMemory written unread is = rw is refl
cause_is fault.Read written unread is = absurd (unread refl)
cause_is fault.Write written unread is = rw is refl

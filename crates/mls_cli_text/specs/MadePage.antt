-- A page is printed by its lines, whether these are the code's or what they stand for.
use Rattle.std.specs.Prelude.{◌≡◌, ℕ, List, Option, Result, Ok, Err}
use Rattle.std.specs.declared.alloc.AllocError.{AllocError}
use Rattle.std.specs.Io.KnownBytes.{Keeps}
use Rattle.mls_cli_text.specs.declared.fault.Fault.{Fault}
use Rattle.mls_cli_text.specs.declared.fault.Fault.TheVariants.{OutOfMemory}
use Rattle.mls_cli_text.specs.Page.{Prints, printout_of}
use Rattle.mls_cli_text.specs.declared.page.Page as code

-- what is printed of a page that was made, and where there was no memory for it
abbrev pub PrintsMade : {L : Type 0} → (L → List ℕ) → Option (List ℕ) → Option (List ℕ) → Result (code.Page L) AllocError → Result ℕ Fault → Type 0
PrintsMade text a b (Ok p) r = Prints a b r (printout_of text p)
PrintsMade text a b (Err e) r = (r ≡ Err OutOfMemory) × Keeps a b

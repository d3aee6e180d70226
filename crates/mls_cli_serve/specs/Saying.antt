-- What the program says on the errors.
use Rattle.std.specs.Prelude.{◌≡◌, ◌⊎◌, ◌++◌, ℕ, Bool, true, List, [], codes, Option, Result, OnOk, OnErr}
use Rattle.std.specs.Io.KnownBytes.{Appends}
use Rattle.mls_cli_text.specs.InputOutput.{AppendsPart, out_failed, out_writer}
use Rattle.mls_cli_text.specs.declared.fault.Fault.{Fault}
use Rattle.mls_cli_text.specs.declared.fault.Fault.TheVariants as fault
use Rattle.mls_cli_text.specs.declared.output.Out.{Out}

abbrev pub unreadable : List ℕ → List ℕ
unreadable file = codes "mls: cannot read " ++ (file ++ codes "\n")

abbrev pub out_of_memory : List ℕ
out_of_memory = codes "mls: out of memory\n"

-- what is said of a fault while a file is read and printed; of a write that failed nothing
abbrev pub fault_text : List ℕ → Fault → List ℕ
fault_text file fault.OutOfMemory = out_of_memory
fault_text file fault.Read = unreadable file
fault_text file fault.Write = []

-- the errors grow by the text, or they have failed, and grow by less than that
abbrev pub SaysOrFails : Option (List ℕ) → Option (List ℕ) → Bool → List ℕ → Type 0
SaysOrFails old new failed text =
    Appends old new text ⊎ ((failed ≡ true) × AppendsPart old new text)

-- ---- of the code's ends

-- such a text is said
abbrev pub Says : {E : Type 0} → (E → Option (List ℕ)) → Out E → Out E → List ℕ → Type 0
Says contents old new text =
    SaysOrFails (contents (out_writer old)) (contents (out_writer new)) (out_failed new) text

-- Where it succeeds, a call writes the text to the errors.
abbrev pub WritesError : {E T X : Type 0} → (E → Option (List ℕ)) → Out E → Out E → List ℕ
    → Result T X → Type 0
WritesError contents old new text result =
    OnOk result (Appends (contents (out_writer old)) (contents (out_writer new)) text)

-- Where it fails, a call writes a beginning of the text to the errors, and not the whole.
abbrev pub BeginsError : {E T X : Type 0} → (E → Option (List ℕ)) → Out E → Out E → List ℕ
    → Result T X → Type 0
BeginsError contents old new text result =
    OnErr result (AppendsPart (contents (out_writer old)) (contents (out_writer new)) text)

-- What is written, and whether an end has failed.
use Rattle.std.specs.Prelude.{◌≡◌, ◌⊎◌, ◌<◌, ℕ, List, ◌++◌, length, Bool, true, false, Option, Result, Ok, Err, IfSome, OnOk, OnErr}
use Rattle.std.specs.Io.KnownBytes.{Appends, Keeps}
use Rattle.mls_cli_text.specs.declared.fault.Fault.{Fault}
use Rattle.mls_cli_text.specs.declared.fault.Fault.TheVariants as fault
use Rattle.mls_cli_text.specs.declared.output.Out.{Out}
use Rattle.mls_cli_text.specs.declared.input.In.{In}

-- known bytes grow by a beginning of bs that is not the whole
abbrev pub AppendsPart : Option (List ℕ) → Option (List ℕ) → List ℕ → Type 0
AppendsPart old new bs = (done rest : List ℕ) × (bs ≡ done ++ rest) × (0 < length rest) × Appends old new done

-- all of the bytes, or a beginning that is not the whole
abbrev pub PutsIf : Option (List ℕ) → Option (List ℕ) → Bool → List ℕ → Type 0
PutsIf old new true bs = Appends old new bs
PutsIf old new false bs = AppendsPart old new bs

-- nothing is written, or a beginning that is not the whole
abbrev pub KeepsOrAppendsPart : Option (List ℕ) → Option (List ℕ) → List ℕ → Type 0
KeepsOrAppendsPart old new bs = Keeps old new ⊎ AppendsPart old new bs

-- Where it succeeds, a call writes these bytes: what the output holds grows by them.
abbrev pub Writes : {O T E : Type 0} → (O → Option (List ℕ)) → O → O → List ℕ → Result T E → Type 0
Writes contents old new bs result = OnOk result (Appends (contents old) (contents new) bs)

-- Where it fails, a call writes a beginning of these bytes that is not the whole.
abbrev pub WritesPart : {O T E : Type 0} → (O → Option (List ℕ)) → O → O → List ℕ → Result T E → Type 0
WritesPart contents old new bs result = OnErr result (AppendsPart (contents old) (contents new) bs)

-- these are all of the bytes that are left, where those are known
abbrev pub AreAll : Option (List ℕ) → List ℕ → Type 0
AreAll remaining bs = IfSome remaining (λ (all : List ℕ). bs ≡ all)

-- ---- failures

-- whether a writer has failed, behind a fault
abbrev pub write_fails : Bool → Fault → Bool
write_fails was fault.OutOfMemory = was
write_fails was fault.Read = was
write_fails was fault.Write = true

-- whether a writer has failed, behind an answer
abbrev pub write_failed : {T : Type 0} → Bool → Result T Fault → Bool
write_failed was (Ok x) = was
write_failed was (Err e) = write_fails was e

-- whether a reader has failed, behind a fault
abbrev pub read_fails : Bool → Fault → Bool
read_fails was fault.OutOfMemory = was
read_fails was fault.Read = true
read_fails was fault.Write = was

-- whether a reader has failed, behind an answer
abbrev pub read_failed : {T : Type 0} → Bool → Result T Fault → Bool
read_failed was (Ok x) = was
read_failed was (Err e) = read_fails was e

-- ---- the parts of an end

abbrev pub out_failed : {W : Type 0} → Out W → Bool
out_failed o = o.failed

abbrev pub out_writer : {W : Type 0} → Out W → W
out_writer o = o.writer

abbrev pub in_failed : {R : Type 0} → In R → Bool
in_failed i = i.failed

abbrev pub in_reader : {R : Type 0} → In R → R
in_reader i = i.reader

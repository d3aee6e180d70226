-- What is reported of a file stays as it is where more is done with what was printed of it.
use Rattle.std.proofs.Common.{ℕ, List, Result, Ok, Err, IsErr, length}
use Rattle.mls_suite.specs.Crypto.{Crypto}
use Rattle.mls_cli_text.specs.declared.fault.Fault.{Fault}
use Rattle.mls_cli_recording.specs.Calls.{Recording}
use Rattle.mls_cli_recording.specs.Recording.{recording}
use Rattle.mls_cli_replay.specs.Progress.{ReportsFile, ReportsRecording}
use Rattle.mls_cli_replay.proofs.Reporting.{reports_done, reports_front}

recording_reported : {P : Type 0} (reports : P → P → ℕ → ℕ → Type 0) (found : Result Recording ℕ) (old new : P) (status : ℕ) (r : Result ℕ Fault) → ReportsRecording {T = ℕ} {E = Fault} reports found old new (Ok status) → ReportsRecording reports found old new r
recording_reported reports (Ok parts) old new status r all = reports_done reports (length parts.actions) old new r all
recording_reported reports (Err n) old new status r all = all

part_reported : {P : Type 0} (reports : P → P → ℕ → ℕ → Type 0) (found : Result Recording ℕ) (old new : P) (e : Fault) (r : Result ℕ Fault) → IsErr r → ReportsRecording {T = ℕ} {E = Fault} reports found old new (Err e) → ReportsRecording reports found old new r
part_reported reports (Ok parts) old new e r err part = reports_front reports (length parts.actions) old new r err part
part_reported reports (Err n) old new e r err part = part

-- behind what was printed whole, and behind a fault
pub file_reported : {P : Type 0} (reports : P → P → ℕ → ℕ → Type 0) (c : Crypto) (file : List ℕ) (old new : P) (status : ℕ) (r : Result ℕ Fault) → ReportsFile {T = ℕ} {E = Fault} reports c file old new (Ok status) → ReportsFile reports c file old new r
file_reported reports c file old new status r all = recording_reported reports (recording c.number file) old new status r all

pub fault_reported : {P : Type 0} (reports : P → P → ℕ → ℕ → Type 0) (c : Crypto) (file : List ℕ) (old new : P) (e : Fault) (r : Result ℕ Fault) → IsErr r → ReportsFile {T = ℕ} {E = Fault} reports c file old new (Err e) → ReportsFile reports c file old new r
fault_reported reports c file old new e r err part = part_reported reports (recording c.number file) old new e r err part

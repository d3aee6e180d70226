-- The number of what the schedule refuses.
use Rattle.std.specs.Prelude.{ℕ, Result, IsErrOf}
use Rattle.mls_kdf.specs.Faults.{number_of as kdf_number_of}
use Rattle.mls_kdf.specs.declared.KdfError.TheVariants.{OutputTooLong}
use Rattle.mls_schedule.specs.declared.error.ScheduleError.{ScheduleError}
use Rattle.mls_schedule.specs.declared.error.ScheduleError.TheVariants.{Kdf}

-- the number that the program answers
abbrev pub number_of : ScheduleError → ℕ
number_of (Kdf e) = kdf_number_of e

-- a call refuses an output that is too long
abbrev pub IsTooLong : {X : Type 0} → Result X ScheduleError → Type 0
IsTooLong result = IsErrOf result (Kdf OutputTooLong)

-- When it is said on the errors how far a replay is, and what is said.
use Rattle.std.specs.Prelude.{◌≡◌, ◌⊎◌, ◌==◌, ◌||◌, ◌-◌, ◌/◌, ◌%◌, max, nat_le, ℕ, Bool, true, false, List, ◌++◌, codes, Option, Some, None}
use Rattle.std.specs.Fmt.{decimal}
use Rattle.std.specs.Io.KnownBytes.{Appends}
use Rattle.std.specs.Time.{instant_nanos}
use Rattle.mls_cli_text.specs.InputOutput.{AppendsPart, out_failed, out_writer}
use Rattle.std.specs.declared.time.Instant.{Instant}
use Rattle.mls_cli_serve.specs.declared.meter.Meter.{Meter}
use Rattle.mls_cli_serve.specs.declared.meter.Pace.{Pace}
use Rattle.mls_cli_serve.specs.declared.meter.Pace.TheVariants.{Never, Seconds, Hundredths}
use Rattle.mls_cli_serve.specs.declared.tasks.ProgressChoice.{ProgressChoice}
use Rattle.mls_cli_serve.specs.declared.tasks.ProgressChoice.TheVariants.{Always, OnTerminal}

-- by hundredths where --progress is given, else by time on a terminal, and never elsewhere
abbrev pub pace_of : ProgressChoice → Bool → Pace
pace_of Always is_terminal = Hundredths
pace_of OnTerminal true = Seconds
pace_of OnTerminal false = Never

-- a text and a number
abbrev pub numbered : List ℕ → ℕ → List ℕ
numbered text n = text ++ decimal n

abbrev pub progress_line : ℕ → ℕ → List ℕ
progress_line done all =
    numbered (codes "mls: ") done ++ (numbered (codes " of ") all ++ codes " events\n")

-- ---- the parts of a meter

abbrev pub meter_writer : {C W : Type 0} → Meter C W → W
meter_writer m = out_writer m.writer

-- whether a write has failed
abbrev pub meter_failed : {C W : Type 0} → Meter C W → Bool
meter_failed m = out_failed m.writer

abbrev pub meter_pace : {C W : Type 0} → Meter C W → Pace
meter_pace m = m.pace

-- ---- when it is said

-- so many of all are a multiple of a hundredth of all, rounded down, or all
abbrev pub is_hundredth : ℕ → ℕ → Bool
is_hundredth done all = (done == all) || (done % max (all / 100) 1 == 0)

-- two seconds have passed between two readings of the clock
abbrev pub is_due : Option Instant → Option Instant → Bool
is_due (Some last) (Some now) =
    nat_le 2 ((instant_nanos now - instant_nanos last) / 1_000_000_000)
is_due (Some last) None = false
is_due None now = false

-- ---- what a report changes, that so many events of all are done

-- the line is written
abbrev pub WritesLine : {C W : Type 0} → (W → Option (List ℕ)) → ℕ → ℕ → Meter C W → Meter C W →
    Type 0
WritesLine contents done all old new =
    (new.pace ≡ old.pace) × (meter_failed new ≡ meter_failed old)
    × Appends (contents (meter_writer old)) (contents (meter_writer new)) (progress_line done all)

-- a write failed, a beginning of the line is written and not the whole, and no line is from then on
abbrev pub FailsLine : {C W : Type 0} → (W → Option (List ℕ)) → ℕ → ℕ → Meter C W → Meter C W →
    Type 0
FailsLine contents done all old new =
    (new.pace ≡ Never) × (meter_failed new ≡ true)
    × AppendsPart (contents (meter_writer old)) (contents (meter_writer new))
    (progress_line done all)

-- the line is written, or a write failed
abbrev pub SaysLine : {C W : Type 0} → (W → Option (List ℕ)) → ℕ → ℕ → Meter C W → Meter C W →
    Type 0
SaysLine contents done all old new =
    (new.last ≡ old.last)
    × (WritesLine contents done all old new ⊎ FailsLine contents done all old new)

-- it is where it is due, and else nothing changes
abbrev pub SaysIf : {C W : Type 0} → (W → Option (List ℕ)) → Bool → ℕ → ℕ → Meter C W → Meter C W →
    Type 0
SaysIf contents true done all old new = SaysLine contents done all old new
SaysIf contents false done all old new = new ≡ old

-- so it is at a reading of the clock, which is kept
abbrev pub SaysAt : {C W : Type 0} → (W → Option (List ℕ)) → Option Instant → Bool → ℕ → ℕ →
    Meter C W → Meter C W → Type 0
SaysAt contents now true done all old new =
    SaysLine contents done all (record old { last = now }) new
SaysAt contents now false done all old new = new ≡ old

-- by what the clock reads as the report comes
abbrev pub SaysInTime : {C W : Type 0} → (W → Option (List ℕ)) → ℕ → ℕ → Meter C W → Meter C W →
    Type 0
SaysInTime contents done all old new =
    (now : Option Instant) × SaysAt contents now (is_due old.last now) done all old new

abbrev pub SaysAtPace : {C W : Type 0} → Pace → (W → Option (List ℕ)) → ℕ → ℕ → Meter C W →
    Meter C W → Type 0
SaysAtPace Never contents done all old new = new ≡ old
SaysAtPace Seconds contents done all old new = SaysInTime contents done all old new
SaysAtPace Hundredths contents done all old new =
    SaysIf contents (is_hundredth done all) done all old new

-- What `mls replay` prints of a recording: a line for what each action came to, one where another
-- text is expected, at the end a line for each member, and one for each number at which these lines
-- aren't those that are expected.
use Rattle.std.specs.Prelude.{◌≡◌, ◌⊎◌, MatchResult, ℕ, zero, suc, ◌+◌, max, Bool, true, false, ◌&&◌, if◌then◌else◌, List, [], ◌∷◌, ◌++◌, codes, length, map, take, slice_get, Option, Some, None, option_map, option_to_list, Result, IfOk, OnErr, string_bytes}
use Rattle.std.specs.Borrow.{Bor}
use Rattle.std.specs.Fmt.{decimal}
use Rattle.std.specs.Global.{Global, Vec}
use Rattle.std.specs.List.{flat_map}
use Rattle.std.specs.Str.{bytes_eq}
use Rattle.std.specs.Io.KnownBytes.{Appends, Keeps}
use Rattle.std.specs.declared.string.String.{String}
use Rattle.hex.specs.Hex.{encode_lower}
use Rattle.mls_suite.specs.Crypto.{Crypto}
use Rattle.mls_schedule.specs.Epoch.{epoch_authenticator}
use Rattle.mls_model.specs.declared.event.Event.{Event}
use Rattle.mls_model.specs.Member.{Member}
use Rattle.mls_model.specs.World.{World, Seat, empty_world}
use Rattle.mls_model.specs.Run.{run}
use Rattle.mls_cli_text.specs.InputOutput.{AppendsPart, Writes, WritesPart}
use Rattle.mls_cli_text.specs.Page.{Page, Printout, Prints, printout, refused}
use Rattle.mls_cli_text.specs.declared.fault.Fault.{Fault}
use Rattle.mls_cli_text.specs.Text.{or_dash}
use Rattle.mls_cli_text.specs.declared.page.Ending.{Ending}
use Rattle.mls_cli_text.specs.declared.page.Ending.TheVariants.{Good, Failed}
use Rattle.mls_cli_json.specs.declared.error.JsonError.{JsonError}
use Rattle.mls_cli_json.specs.declared.error.JsonError.TheVariants as error
use Rattle.mls_cli_recording.specs.Calls.{texts_view}
use Rattle.mls_cli_recording.specs.declared.actions.Action.{Action}
use Rattle.mls_cli_recording.specs.declared.reading.Recorded.{Recorded}
use Rattle.mls_cli_recording.specs.declared.reading.RecordedRun.{RecordedRun}
use Rattle.mls_cli_replay.specs.Actions.{events_in, outcome_in, outcomes, run_all}
use Rattle.mls_cli_replay.specs.Progress.{ReportsFirst}
use Rattle.mls_cli_replay.specs.Reply.{outcome_text}
use Rattle.mls_cli_replay.specs.declared.line.ReplayLine.{ReplayLine}
use Rattle.mls_cli_replay.specs.declared.line.ReplayLine.TheVariants as code
use Rattle.mls_cli_replay.specs.declared.reply.Outcome.{Outcome}

-- ---- lines

pub data ReplayEntry : Type 0 where
  -- the number of an action, and what it came to
  replied : ℕ → Outcome → ReplayEntry
  -- the number of an action, and the text that is expected in place of its own
  expected : ℕ → List ℕ → ReplayEntry
  -- the number of a member that was removed
  gone : ℕ → ReplayEntry
  -- the number of a member, its leaf and epoch, its tree hash and its epoch authenticator
  present : ℕ → ℕ → ℕ → List ℕ → List ℕ → ReplayEntry
  -- the number of a member, and the line that is expected in place of its own, or of none
  missing : ℕ → List ℕ → ReplayEntry
  -- the number of a member for which no line is expected
  not_expected : ℕ → ReplayEntry

-- a line without its line feed
abbrev pub entry_words : ReplayEntry → List ℕ
entry_words (replied action outcome) = decimal action ++ (codes ": " ++ outcome_text outcome)
entry_words (expected action text) = decimal action ++ (codes ": expected " ++ text)
entry_words (gone member) = codes "member " ++ (decimal member ++ codes ": gone")
entry_words (present member leaf epoch tree authenticator) =
    codes "member " ++ (decimal member ++ (codes ": leaf " ++ (decimal leaf
    ++ (codes ", epoch " ++ (decimal epoch
    ++ (codes ", tree " ++ (or_dash encode_lower tree
    ++ (codes ", authenticator " ++ or_dash encode_lower authenticator))))))))
entry_words (missing member text) =
    codes "final " ++ (decimal member ++ (codes ": expected " ++ text))
entry_words (not_expected member) = codes "final " ++ (decimal member ++ codes ": expected nothing")

abbrev pub entry_text : ReplayEntry → List ℕ
entry_text entry = entry_words entry ++ codes "\n"

-- ---- what is said of an action

-- the text that a recording expects of an action, if it expects one
abbrev pub expectation : Recorded → Option (List ℕ)
expectation r = option_map string_bytes r.expect

-- whether the text is as expected
abbrev pub is_met : Outcome → Option (List ℕ) → Bool
is_met outcome None = true
is_met outcome (Some text) = bytes_eq text (outcome_text outcome)

-- the text that was expected
abbrev pub expected_entries : ℕ → Option (List ℕ) → List ReplayEntry
expected_entries action None = []
expected_entries action (Some text) = expected action text ∷ []

-- the text that was expected is said where it is another
abbrev pub unmet_entries : ℕ → Outcome → Option (List ℕ) → List ReplayEntry
unmet_entries action outcome expect =
    if is_met outcome expect then [] else expected_entries action expect

abbrev pub action_entries : ℕ → Outcome → Option (List ℕ) → List ReplayEntry
action_entries action outcome expect = replied action outcome ∷ unmet_entries action outcome expect

-- ---- what is said of all actions, numbered from here on

unfoldable pub outcome_entries : ℕ → List Outcome → List (Option (List ℕ)) → List ReplayEntry
outcome_entries action (o ∷ os) (e ∷ es) =
    action_entries action o e ++ outcome_entries (action + 1) os es
outcome_entries action os es = []

-- whether all texts are as expected
unfoldable pub all_met : List Outcome → List (Option (List ℕ)) → Bool
all_met (o ∷ os) (e ∷ es) = is_met o e && all_met os es
all_met os es = true

-- ---- what is said of members in the end

-- the tree hash is that of the GroupContext (RFC 9420, 8.1)
abbrev pub member_entry : ℕ → Member → ReplayEntry
member_entry k m =
    if m.gone then gone k
    else present k m.keys.leaf m.public.context.epoch m.public.context.tree_hash
    (epoch_authenticator m.epoch_secret)

-- from this number on
unfoldable pub member_entries : ℕ → List Seat → List ReplayEntry
member_entries k [] = []
member_entries k (s ∷ ss) = member_entry k s.member ∷ member_entries (k + 1) ss

-- ---- what is said of the lines of members that are expected

-- the line of the member of that number without its line feed, if there is one
abbrev pub line_at : List Seat → ℕ → Option (List ℕ)
line_at seats k =
    option_map (λ (s : Seat). entry_words (member_entry k s.member)) (slice_get seats k)

-- whether this line, if there is one, is the text
abbrev pub is_line : Option (List ℕ) → List ℕ → Bool
is_line (Some line) text = bytes_eq line text
is_line None text = false

-- what is said where this line, if there is one, isn't the one that is expected, if one is
abbrev pub difference : ℕ → Option (List ℕ) → Option (List ℕ) → Option ReplayEntry
difference k line (Some text) = if is_line line text then None else Some (missing k text)
difference k (Some line) None = Some (not_expected k)
difference k None None = None

-- at so many numbers, from number k on
unfoldable pub differences : List Seat → List (List ℕ) → ℕ → ℕ → List ReplayEntry
differences seats texts k zero = []
differences seats texts k (suc n) =
    option_to_list (difference k (line_at seats k) (slice_get texts k))
    ++ differences seats texts (k + 1) n

-- at each number that a member or a text has; nothing where no lines are recorded
abbrev pub final_entries : List Seat → Option (List (List ℕ)) → List ReplayEntry
final_entries seats None = []
final_entries seats (Some texts) = differences seats texts 0 (max (length seats) (length texts))

-- whether nothing is said
abbrev pub is_silent : List ReplayEntry → Bool
is_silent [] = true
is_silent (entry ∷ entries) = false

-- ---- the page

abbrev pub actions_of : List Recorded → List Action
actions_of rs = map (λ (r : Recorded). r.action) rs

abbrev pub expectations_of : List Recorded → List (Option (List ℕ))
expectations_of rs = map expectation rs

abbrev pub lines_of : RecordedRun → Option (List (List ℕ))
lines_of r = option_map texts_view r.final_lines

-- what is said in the end: the members, and where their lines aren't those that are expected
abbrev pub closing_entries : List Seat → Option (List (List ℕ)) → List ReplayEntry
closing_entries seats lines = member_entries 0 seats ++ final_entries seats lines

-- what the actions come to from the empty world on, and the members of the world that they leave
unfoldable pub played_entries : Crypto → List Recorded → Option (List (List ℕ)) → List ReplayEntry
played_entries c rs lines =
    outcome_entries 0 (outcomes c empty_world (actions_of rs)) (expectations_of rs)
    ++ closing_entries (run_all c empty_world (actions_of rs)).seats lines

-- whether all is as expected
unfoldable pub is_as_expected : Crypto → List Recorded → Option (List (List ℕ)) → Bool
is_as_expected c rs lines =
    all_met (outcomes c empty_world (actions_of rs)) (expectations_of rs)
    && is_silent (final_entries (run_all c empty_world (actions_of rs)).seats lines)

-- good where all is as expected
abbrev pub ending_by : Bool → Ending
ending_by met = if met then Good else Failed

unfoldable pub played_page : Crypto → List Recorded → Option (List (List ℕ)) → Page ReplayEntry
played_page c rs lines = record {
  entries = played_entries c rs lines;
  ending = ending_by (is_as_expected c rs lines);
}

-- the page of what was read
abbrev pub page_of_run : Crypto → RecordedRun → Page ReplayEntry
page_of_run c r = played_page c r.actions.items (lines_of r)

-- the printout of a file that isn't read; there is none where memory was refused
abbrev pub IsRefusal : JsonError → Printout → Type 0
IsRefusal error.OutOfMemory p = ⊥
IsRefusal error.NotHex p = p ≡ printout entry_text (refused 8)
IsRefusal error.BadJson p = p ≡ printout entry_text (refused 9)

-- The output grows by the text of such a printout, and the answer is its status; on a fault it
-- grows by less than such a text, or stays as it was.
abbrev pub PrintsOne : (Printout → Type 0) → Option (List ℕ) → Option (List ℕ) → Result ℕ Fault →
    Type 0
PrintsOne Is old new r = MatchResult r
    (λ status. (p : Printout) × Is p × Appends old new p.text × (status ≡ p.status))
    (λ _. Keeps old new ⊎ ((p : Printout) × Is p × AppendsPart old new p.text))

-- what is said of the outcomes of actions from a world on
abbrev pub outcomes_text : Crypto → World → List Recorded → List ℕ
outcomes_text c w rs =
    flat_map entry_text
    (outcome_entries 0 (outcomes c w (actions_of rs)) (expectations_of rs))

-- what is said of one of them
abbrev pub action_text : Crypto → World → ℕ → Recorded → List ℕ
action_text c w action r =
    flat_map entry_text (action_entries action (outcome_in c w r.action) (expectation r))

-- Where an action stops at a fault: some of its events have happened and nothing is said of it, or
-- all of them have.
abbrev pub StopsWithin : Crypto → World → World → List Event → Option (List ℕ) →
    Option (List ℕ) → Type 0
StopsWithin c w v events old new =
    ((count : ℕ) × (v ≡ run c w (take count events)) × (new ≡ old)) ⊎ (v ≡ run c w events)

-- Where playing stops at a fault: all of what is said of the actions before one is out, each of
-- them is reported, and a part of what is said of that one is out; none behind it has begun.
pub record StopsAt {P : Type 0} (reports : P → P → ℕ → ℕ → Type 0) (c : Crypto) (w : World)
    (rs : List Recorded) (old new : Option (List ℕ)) (told now : P) (v : World) : Type 0 where
  pub count : ℕ
  pub one : Recorded
  pub is : slice_get rs count ≡ Some one
  pub reached : World
  pub before : reached ≡ run_all c w (actions_of (take count rs))
  pub between : Option (List ℕ)
  pub said : Appends old between (outcomes_text c w (take count rs))
  pub reported : ReportsFirst reports (length rs) count told now
  pub part : AppendsPart between new (action_text c reached count one)
  pub world : StopsWithin c reached v (events_in reached one.action) between new

-- ---- of the code's values

abbrev pub entry_of : ReplayLine → ReplayEntry
entry_of (code.Outcome action outcome) = replied action outcome
entry_of (code.Expected action text) = expected action text.now
entry_of (code.Gone member) = gone member
entry_of (code.Present member leaf epoch tree authenticator) =
    present member leaf epoch tree.now authenticator.now
entry_of (code.Missing member text) = missing member text.now
entry_of (code.NotExpected member) = not_expected member

-- a text that is borrowed, if there is one
abbrev pub lent_text : Option (Bor (List ℕ)) → Option (List ℕ)
lent_text text = option_map (λ (t : Bor (List ℕ)). t.now) text

-- what is printed of the text that was expected
abbrev pub expected_text : ℕ → Option (Bor (List ℕ)) → List ℕ
expected_text action expect = flat_map entry_text (expected_entries action (lent_text expect))

-- Where it succeeds, a call writes it.
abbrev pub SaysExpected : {O T E : Type 0} → (O → Option (List ℕ)) → O → O → ℕ →
    Option (Bor (List ℕ)) → Result T E → Type 0
SaysExpected contents old new action expect result =
    Writes contents old new (expected_text action expect) result

-- Where it fails, a call writes a beginning of it.
abbrev pub BeginsExpected : {O T E : Type 0} → (O → Option (List ℕ)) → O → O → ℕ →
    Option (Bor (List ℕ)) → Result T E → Type 0
BeginsExpected contents old new action expect result =
    WritesPart contents old new (expected_text action expect) result

-- what is printed of an action
abbrev pub said_text : ℕ → Outcome → Option (Bor (List ℕ)) → List ℕ
said_text action outcome expect =
    flat_map entry_text (action_entries action outcome (lent_text expect))

-- what is printed of members
abbrev pub members_text : List Seat → List ℕ
members_text seats = flat_map entry_text (member_entries 0 seats)

-- the lines that are expected
abbrev pub texts_of : Option (Bor (List (String Global))) → Option (List (List ℕ))
texts_of lines = option_map (λ (ts : Bor (List (String Global))). map string_bytes ts.now) lines

-- the text of a number, if there is one
abbrev pub text_at : List (String Global) → ℕ → Option (List ℕ)
text_at texts k = option_map string_bytes (slice_get texts k)

-- what is said where a borrowed line, if there is one, isn't the one that is expected, if one is
abbrev pub difference_by : ℕ → Option (Bor (List ℕ)) → Option (Bor (List ℕ)) → Option ReplayEntry
difference_by k words text = difference k (lent_text words) (lent_text text)

-- the line for a number, where that of the member isn't the text
abbrev pub DiffersAt : {E : Type 0} → List Seat → List (List ℕ) → ℕ →
    Result (Option ReplayLine) E → Type 0
DiffersAt seats texts k result =
    IfOk result (λ (line : Option ReplayLine). option_map entry_of line
    ≡ difference k (line_at seats k) (slice_get texts k))

-- the lines say where those of members aren't these texts
abbrev pub SayDifferences : {E : Type 0} → List Seat → Option (List (List ℕ)) →
    Result (Vec ReplayLine) E → Type 0
SayDifferences seats texts result =
    IfOk result (λ (v : Vec ReplayLine). map entry_of v.items ≡ final_entries seats texts)

-- what is printed in the end
abbrev pub closing_text : List Seat → Option (List (List ℕ)) → List ℕ
closing_text seats lines = flat_map entry_text (closing_entries seats lines)

-- what is printed in the end where these lines are expected
abbrev pub end_text : List Seat → Option (Bor (List (String Global))) → List ℕ
end_text seats lines = closing_text seats (texts_of lines)

-- whether the lines of members are those that are expected
abbrev pub ends_as_expected : List Seat → Option (Bor (List (String Global))) → Bool
ends_as_expected seats lines = is_silent (final_entries seats (texts_of lines))

-- Where there is memory for it, a call makes the words of a line; first comes what a text's bytes
-- are.
abbrev pub HasWords : {Z E : Type 0} → (Z → List ℕ) → ReplayEntry → Result Z E → Type 0
HasWords {Z} bytes entry result = IfOk result (λ (z : Z). bytes z ≡ entry_words entry)

-- ---- of an action

-- whether its text is as expected
abbrev pub meets : Crypto → World → Recorded → Bool
meets c w r = is_met (outcome_in c w r.action) (expectation r)

-- Where it succeeds, a call writes what is said of the action.
abbrev pub Says : {O T E : Type 0} → (O → Option (List ℕ)) → O → O → Crypto → World → ℕ →
    Recorded → Result T E → Type 0
Says contents old new c w action r result =
    Writes contents old new (action_text c w action r) result

-- Where it fails, a call writes a beginning of what is said of the action.
abbrev pub Begins : {O T E : Type 0} → (O → Option (List ℕ)) → O → O → Crypto → World → ℕ →
    Recorded → Result T E → Type 0
Begins contents old new c w action r result =
    WritesPart contents old new (action_text c w action r) result

-- Where it fails, the action stopped.
abbrev pub Stops : {O T E : Type 0} → (O → Option (List ℕ)) → O → O → Crypto → World → World →
    Action → Result T E → Type 0
Stops contents old new c w v action result =
    OnErr result (StopsWithin c w v (events_in w action) (contents old) (contents new))

-- ---- of all actions

-- whether all texts are as expected
abbrev pub all_meet : Crypto → World → List Recorded → Bool
all_meet c w rs = all_met (outcomes c w (actions_of rs)) (expectations_of rs)

-- Where it succeeds, a call writes what is said of all actions.
abbrev pub SaysAll : {O T E : Type 0} → (O → Option (List ℕ)) → O → O → Crypto → World →
    List Recorded → Result T E → Type 0
SaysAll contents old new c w rs result = Writes contents old new (outcomes_text c w rs) result

-- Where it fails, a call writes a beginning of what is said of all actions.
abbrev pub BeginsAll : {O T E : Type 0} → (O → Option (List ℕ)) → O → O → Crypto → World →
    List Recorded → Result T E → Type 0
BeginsAll contents old new c w rs result = WritesPart contents old new (outcomes_text c w rs) result

-- Where it fails, a call ends at an action.
abbrev pub Ends : {O P T E : Type 0} → (O → Option (List ℕ)) → O → O →
    (P → P → ℕ → ℕ → Type 0) → P → P → Crypto → World → World → List Recorded → Result T E → Type 0
Ends contents old new reports told now c w v rs result =
    OnErr result (StopsAt reports c w rs (contents old) (contents new) told now v)

-- ---- of a recording

-- the page of what was read is printed
abbrev pub PrintsPlay : {O : Type 0} → (O → Option (List ℕ)) → O → O → Crypto → RecordedRun →
    Result ℕ Fault → Type 0
PrintsPlay contents old new c r result =
    Prints (contents old) (contents new) result (printout entry_text (page_of_run c r))

-- the page of a refusal is printed
abbrev pub PrintsRefusal : {O : Type 0} → (O → Option (List ℕ)) → O → O → ℕ → Result ℕ Fault →
    Type 0
PrintsRefusal contents old new number result =
    Prints (contents old) (contents new) result (printout entry_text (refused number))

-- What the command line of `mls` is, and which job the matches of its words name.
use Rattle.std.specs.Prelude.{◌≡◌, ◌≢◌, ◌⊎◌, ◌&&◌, ℕ, Bool, List, [], ◌∷◌, codes, Option, Some, None, option_and_then, option_map, unwrap_or, if◌then◌else◌, true, false}
use Rattle.std.specs.Borrow.{Bor}
use Rattle.std.specs.Str.{bytes_eq}
use Rattle.clap.specs.Words.{App, Row, fault_of, matches_of, subcommand_of, Rule, Text, first_of, new_app, new_rule, with_rule, with_subcommand}
use Rattle.clap.specs.Kinds.{IsAmong, Kinds}
use Rattle.clap.specs.declared.error.kind.ErrorKind.{ErrorKind}
use Rattle.clap.specs.declared.error.kind.ErrorKind.TheVariants as kind
use Rattle.mls_cli_show.specs.declared.numbered.Detail.{Detail}
use Rattle.mls_cli_show.specs.declared.numbered.Detail.TheVariants.{Brief, Full}
use Rattle.mls_cli_text.specs.declared.form.Form.{Form}
use Rattle.mls_cli_text.specs.declared.form.Form.TheVariants.{Hex, Raw}
use Rattle.mls_cli_replay.specs.declared.view.ReplayView.{ReplayView}
use Rattle.mls_cli_replay.specs.declared.view.ReplayView.TheVariants.{Message, Recording, Replies, Tree, Unmet}
use Rattle.mls_cli_check.specs.declared.drawing.Drawing.{Drawing}
use Rattle.mls_cli_check.specs.declared.drawing.TreeSource.{TreeSource}
use Rattle.mls_cli_check.specs.declared.drawing.TreeSource.TheVariants as source
use Rattle.mls_cli_explain.specs.Explanations.{explanation_view}
use Rattle.mls_cli_serve.specs.ExplainArguments.{explain_rule, lacking, told_on, unless_asked}
use Rattle.mls_cli_serve.specs.Options.{flag_rule, number_in}
use Rattle.mls_cli_serve.specs.Drawings.{drawing_by, is_plain, with_drawing_rules}
use Rattle.mls_cli_serve.specs.ReplayArguments.{progress_by, view_by, with_picture_rules, with_progress_rule, with_view_rules}
use Rattle.mls_cli_serve.specs.declared.tasks.NoJob.{NoJob}
use Rattle.mls_cli_serve.specs.declared.tasks.NoJob.TheVariants as no_job
use Rattle.mls_cli_serve.specs.declared.tasks.Job.{Job}
use Rattle.mls_cli_serve.specs.declared.tasks.Job.TheVariants.{Show, Check, CheckGroupInfo, Draw, Replay, DrawMember, Vectors}
use Rattle.mls_cli_serve.specs.declared.tasks.ProgressChoice.{ProgressChoice}
use Rattle.mls_cli_serve.specs.declared.tasks.ProgressChoice.TheVariants.{OnTerminal}
use Rattle.mls_cli_serve.specs.declared.tasks.Layout.{Layout}
use Rattle.mls_cli_serve.specs.declared.tasks.Layout.TheVariants.{Json, Lines}
use Rattle.mls_cli_serve.specs.declared.tasks.SuiteChoice.{SuiteChoice}
use Rattle.mls_cli_serve.specs.declared.tasks.SuiteChoice.TheVariants.{Glass, Suite0001}

-- a required FILE
abbrev pub file_rule : Rule
file_rule = record (new_rule (codes "FILE")) { required = true }

-- a subcommand that takes a FILE alone
abbrev pub file_app : Text → App
file_app name = with_rule (new_app name) file_rule

-- an optional --suite SUITE, f001 where it isn't given, and an optional --group HEX
abbrev pub suite_rule : Rule
suite_rule =
    record (new_rule (codes "SUITE")) { long = Some (codes "suite"); defaults = codes "f001" ∷ [] }

abbrev pub group_rule : Rule
group_rule = record (new_rule (codes "HEX")) { long = Some (codes "group") }

-- a flag --raw
abbrev pub raw_rule : Rule
raw_rule = flag_rule (codes "raw")

-- a flag --json
abbrev pub json_rule : Rule
json_rule = flag_rule (codes "json")

-- a flag --where
abbrev pub where_rule : Rule
where_rule = flag_rule (codes "where")

-- `show`, which takes a FILE and four flags
abbrev pub show_app : App
show_app =
    with_rule
    (with_rule
    (with_rule (with_rule (file_app (codes "show")) (flag_rule (codes "full"))) raw_rule)
    json_rule)
    where_rule

-- a flag --draw, and the options of drawings
abbrev pub with_draw_rules : App → App
with_draw_rules app = with_drawing_rules (with_rule app (flag_rule (codes "draw")))

-- `check`, which takes a FILE, two options and five flags, and those of drawings
abbrev pub check_app : App
check_app =
    with_draw_rules
    (with_rule
    (with_rule
    (with_rule
    (with_rule
    (with_rule (with_rule (with_rule (file_app (codes "check")) suite_rule) group_rule)
    (flag_rule (codes "signatures")))
    (flag_rule (codes "group-info")))
    raw_rule)
    json_rule)
    where_rule)

-- `replay`, which takes a FILE, a suite and what is asked for
abbrev pub replay_app : App
replay_app =
    with_rule
    (with_progress_rule
    (with_picture_rules (with_view_rules (with_rule (file_app (codes "replay")) suite_rule))))
    where_rule

-- `vectors`, which takes a FILE and a flag
abbrev pub vectors_app : App
vectors_app = with_rule (file_app (codes "vectors")) where_rule

-- with `--version`
abbrev pub with_version : App → App
with_version a = record a { top = record a.top { has_version = true } }

-- the command line: one of the subcommands, or `--explain`
abbrev pub mls : App
mls = with_version
    (with_rule
    (with_subcommand
    (with_subcommand
    (with_subcommand (with_subcommand (new_app (codes "mls")) show_app.top) check_app.top)
    replay_app.top)
    vectors_app.top)
    explain_rule)

-- a job without where it lies in memory
pub data Task : Type 0 where
  show : Text → Form → Detail → Layout → Task
  check : Text → Form → SuiteChoice → Bool → Text → Layout → Task
  check_group_info : Text → Form → Bool → Layout → Task
  draw : Text → Form → TreeSource → Drawing → Task
  replay : Text → SuiteChoice → ReplayView → ProgressChoice → Task
  draw_member : Text → SuiteChoice → ℕ → Drawing → ProgressChoice → Task
  vectors : Text → Task

abbrev pub task_view : Job → Task
task_view (Show file form detail layout) = show file.now form detail layout
task_view (Check file form suite signatures group layout) =
    check file.now form suite signatures group.now layout
task_view (CheckGroupInfo file form signatures layout) =
    check_group_info file.now form signatures layout
task_view (Draw file form source drawing) = draw file.now form source drawing
task_view (Replay file suite view progress) = replay file.now suite view progress
task_view (DrawMember file suite member drawing progress) =
    draw_member file.now suite member drawing progress
task_view (Vectors file) = vectors file.now

-- a suite is named by its number in hex
abbrev pub suite_of : Text → Option SuiteChoice
suite_of text =
    if bytes_eq text (codes "f001") then Some Glass
    else if bytes_eq text (codes "0001") then Some Suite0001
    else None

-- a flag is given where its value is the text true
abbrev pub is_given : Option Text → Bool
is_given None = false
is_given (Some text) = bytes_eq text (codes "true")

-- a file has its bytes as they are where --raw is given
abbrev pub form_of : Option Text → Form
form_of raw = if is_given raw then Raw else Hex

-- all is shown where --full is given
abbrev pub detail_of : Option Text → Detail
detail_of full = if is_given full then Full else Brief

-- one JSON object is printed where --json is given
abbrev pub layout_of : Option Text → Layout
layout_of json = if is_given json then Json else Lines

abbrev pub show_on : Option Text → Option Text → Option Text → Text → Task
show_on full raw json file = show file (form_of raw) (detail_of full) (layout_of json)

-- a tree's group has the empty id where --group isn't given
abbrev pub tree_task : Form → SuiteChoice → Bool → Option Text → Layout → Text → Task
tree_task form suite signatures group layout file =
    check file form suite signatures (unwrap_or group []) layout

abbrev pub check_task : Bool → Form → SuiteChoice → Bool → Option Text → Layout → Text → Task
check_task info form suite signatures group layout file =
    if info then check_group_info file form signatures layout
    else tree_task form suite signatures group layout file

-- there is no such job where the suite has another name
abbrev pub check_on : Option Text → Option Text → Option Text → Option Text → Option Text → Layout
    → Text → Option Task
check_on info raw suite signatures group layout file =
    option_map
    (λ s. check_task (is_given info) (form_of raw) s (is_given signatures) group layout file)
    (option_and_then suite_of suite)

-- a tree is drawn in place of its check
abbrev pub drawn : Drawing → Task → Task
drawn drawing (check file form suite signatures group layout) = draw file form source.Tree drawing
drawn drawing (check_group_info file form signatures layout) =
    draw file form source.GroupInfo drawing
drawn drawing (show file form detail layout) = show file form detail layout
drawn drawing (draw file form source old) = draw file form source old
drawn drawing (replay file suite view progress) = replay file suite view progress
drawn drawing (draw_member file suite member old progress) =
    draw_member file suite member old progress
drawn drawing (vectors file) = vectors file

-- there is no such job where it is said how a tree is drawn, and none is
abbrev pub undrawn : Drawing → Task → Option Task
undrawn drawing task = if is_plain drawing then Some task else None

abbrev pub drawn_or_not : Bool → Drawing → Task → Option Task
drawn_or_not true drawing task = Some (drawn drawing task)
drawn_or_not false drawing task = undrawn drawing task

-- nor where two ways to draw are asked for
abbrev pub drawn_if : Bool → Option Drawing → Option Task → Option Task
drawn_if asked drawing task =
    option_and_then (λ d. option_and_then (λ t. drawn_or_not asked d t) task) drawing

-- a drawing has no members: there is no such job where it is to be JSON too
abbrev pub without_json : Bool → Option Drawing → Option Drawing
without_json both drawing = if both then None else drawing

-- both a drawing and a JSON object are asked for
abbrev pub draws_json : List Row → Bool
draws_json rows = is_given (first_of (codes "draw") rows) && is_given (first_of (codes "json") rows)

-- how a tree is drawn, by the values of the options
abbrev pub drawing_on : List Row → Option Drawing
drawing_on rows =
    drawing_by (option_and_then number_in (first_of (codes "WIDTH") rows))
    (is_given (first_of (codes "svg") rows))

-- what is asked for of a recording, by the values of its options
abbrev pub view_on : List Row → Option ReplayView
view_on rows =
    view_by (option_and_then number_in (first_of (codes "N") rows))
    (option_and_then number_in (first_of (codes "K") rows))
    (is_given (first_of (codes "quiet") rows)) (is_given (first_of (codes "record") rows))

-- a member's tree is drawn in place of the replies; there is no such job where another thing is
-- asked for too
abbrev pub draw_in_place : Text → SuiteChoice → ℕ → Drawing → ReplayView → ProgressChoice →
    Option Task
draw_in_place file suite member drawing Replies progress =
    Some (draw_member file suite member drawing progress)
draw_in_place file suite member drawing Unmet progress = None
draw_in_place file suite member drawing (Message n) progress = None
draw_in_place file suite member drawing (Tree k) progress = None
draw_in_place file suite member drawing Recording progress = None

abbrev pub recording_task : Text → SuiteChoice → Option ℕ → Drawing → ReplayView → ProgressChoice →
    Option Task
recording_task file suite None drawing view progress =
    undrawn drawing (replay file suite view progress)
recording_task file suite (Some member) drawing view progress =
    draw_in_place file suite member drawing view progress

-- there is no such job either where two things are asked for, or two ways to draw
abbrev pub replay_on : Option Text → Option ℕ → Option Drawing → Option ReplayView →
    ProgressChoice → Text → Option Task
replay_on suite member drawing view progress file =
    option_and_then (λ s. option_and_then (λ d.
    option_and_then (λ v. recording_task file s member d v progress) view) drawing)
    (option_and_then suite_of suite)

abbrev pub task_on : Text → List Row → Text → Option Task
task_on name rows file =
    if bytes_eq name (codes "show")
    then Some (show_on (first_of (codes "full") rows) (first_of (codes "raw") rows)
    (first_of (codes "json") rows) file)
    else if bytes_eq name (codes "check")
    then drawn_if (is_given (first_of (codes "draw") rows))
    (without_json (draws_json rows) (drawing_on rows))
    (check_on (first_of (codes "group-info") rows) (first_of (codes "raw") rows)
    (first_of (codes "SUITE") rows) (first_of (codes "signatures") rows)
    (first_of (codes "HEX") rows) (layout_of (first_of (codes "json") rows)) file)
    else if bytes_eq name (codes "replay")
    then replay_on (first_of (codes "SUITE") rows)
    (option_and_then number_in (first_of (codes "MEMBER") rows)) (drawing_on rows) (view_on rows)
    (progress_by (is_given (first_of (codes "progress") rows))) file
    else if bytes_eq name (codes "vectors") then Some (vectors file)
    else None

-- the job that a subcommand's name and matches stand for
abbrev pub task_of : Option (Text × List Row) → Option Task
task_of found = option_and_then
    (λ p. option_and_then (task_on p.0 p.1) (first_of (codes "FILE") p.1)) found

-- whether it is asked where content is refused
abbrev pub asks_where : Option (Text × List Row) → Bool
asks_where None = false
asks_where (Some found) = is_given (first_of (codes "where") found.1)

abbrev pub file_of : Job → Text
file_of (Show file form detail layout) = file.now
file_of (Check file form suite signatures group layout) = file.now
file_of (CheckGroupInfo file form signatures layout) = file.now
file_of (Draw file form source drawing) = file.now
file_of (Replay file suite view progress) = file.now
file_of (DrawMember file suite member drawing progress) = file.now
file_of (Vectors file) = file.now

-- where it is said how far a job is, if it is a replay
abbrev pub progress_of : Job → ProgressChoice
progress_of (Replay file suite view progress) = progress
progress_of (DrawMember file suite member drawing progress) = progress
progress_of (Show file form detail layout) = OnTerminal
progress_of (Check file form suite signatures group layout) = OnTerminal
progress_of (CheckGroupInfo file form signatures layout) = OnTerminal
progress_of (Draw file form source drawing) = OnTerminal
progress_of (Vectors file) = OnTerminal

-- ---- where there is no job

abbrev pub IsHelp : ErrorKind → Type 0
IsHelp k = (k ≡ kind.DisplayHelp) ⊎ (k ≡ kind.DisplayVersion)

abbrev pub IsMistake : ErrorKind → Type 0
IsMistake k = (k ≢ kind.DisplayHelp) × (k ≢ kind.DisplayVersion) × (k ≢ kind.OutOfMemory)

-- whether something is shown or called a mistake goes by the kind of clap's error; memory may run out at any
abbrev pub ComesOf : NoJob → ErrorKind → Type 0
ComesOf (no_job.Shown text) k = IsHelp k
ComesOf (no_job.Mistaken text) k = IsMistake k
ComesOf (no_job.Explained n told) k = ⊥
ComesOf no_job.OutOfMemory k = Unit {0}

-- what there is where clap finds no fault and there is no job: what is told of the refusal that is asked for, or a mistake,
-- unless memory runs out; by the word behind --explain and the subcommand
abbrev pub Lacks : Option Text → Option (Text × List Row) → NoJob → Type 0
Lacks asked found (no_job.Explained n told) = told_on asked found ≡ Some (n, explanation_view told)
Lacks asked found (no_job.Shown text) = ⊥
Lacks asked found (no_job.Mistaken text) =
    (told_on asked found ≡ None) × IsMistake (lacking asked found)
Lacks asked found no_job.OutOfMemory = Unit {0}

-- of a kind that clap finds in the words
abbrev pub IsFault : Kinds → NoJob → Type 0
IsFault kinds e = (k : ErrorKind) × ComesOf e k × ((k ≡ kind.OutOfMemory) ⊎ IsAmong k kinds)

abbrev pub Explains : Kinds → Option Task → Option Text → Option (Text × List Row) → NoJob → Type 0
Explains kinds task asked found e =
    IsFault kinds e ⊎ ((kinds ≡ []) × (task ≡ None) × Lacks asked found e)

-- ---- of the code's values

-- what a call was given, where it was given something
abbrev pub given : Option (Bor Text) → Option Text
given text = option_map (λ (t : Bor Text). t.now) text

-- the name and the rows of a subcommand that was found, where one was
abbrev pub found_rows : {M : Type 0} → (M → List Row) → Option (Bor Text × Bor M)
    → Option (Text × List Row)
found_rows {M} rows found = option_map (λ (p : Bor Text × Bor M). (p.0.now, rows p.1.now)) found

-- the job that was found, where one was
abbrev pub maybe_task : Option Job → Option Task
maybe_task job = option_map task_view job

-- ---- of the words, the program's own name first

-- the subcommand of the words with its rows
abbrev pub found_in : List Text → Option (Text × List Row)
found_in words = subcommand_of mls words

-- the word behind --explain
abbrev pub asked_in : List Text → Option Text
asked_in words = first_of (codes "REFUSAL") (matches_of mls words)

-- the job that the words name
abbrev pub task_in : List Text → Option Task
task_in words = unless_asked (asked_in words) (task_of (found_in words))

-- why the words name no job
abbrev pub ExplainsWords : List Text → NoJob → Type 0
ExplainsWords words e =
    Explains (fault_of mls words) (task_in words) (asked_in words) (found_in words) e

-- ---- of the words behind the program's own name

-- the faults of these words
abbrev pub faults_behind : List Text → Kinds
faults_behind words = fault_of mls (codes "mls" ∷ words)

-- the job that these words name
abbrev pub task_behind : List Text → Option Task
task_behind words = task_in (codes "mls" ∷ words)

-- whether these words ask where content is refused
abbrev pub asks_where_behind : List Text → Bool
asks_where_behind words = asks_where (found_in (codes "mls" ∷ words))

-- a show, a check and a replay with what stands where no option is given
abbrev pub plain_show : Text → Task
plain_show file = show file Hex Brief Lines

abbrev pub plain_check : Text → Task
plain_check file = check file Hex Glass false [] Lines

abbrev pub plain_replay : Text → Task
plain_replay file = replay file Glass Replies OnTerminal

-- a check and a replay with all options
abbrev pub words_of_check : List Text
words_of_check =
    codes "check" ∷ codes "a" ∷ codes "--suite" ∷ codes "0001" ∷ codes "--signatures"
    ∷ codes "--group=67" ∷ []

abbrev pub words_of_info : List Text
words_of_info = codes "check" ∷ codes "--group-info" ∷ codes "--raw" ∷ codes "a" ∷ []

-- a show and a check that print a JSON object, and a drawing that is to be one
abbrev pub words_of_shown_json : List Text
words_of_shown_json = codes "show" ∷ codes "--json" ∷ codes "a" ∷ []

abbrev pub words_of_info_json : List Text
words_of_info_json = codes "check" ∷ codes "a" ∷ codes "--group-info" ∷ codes "--json" ∷ []

abbrev pub words_of_drawn_json : List Text
words_of_drawn_json = codes "check" ∷ codes "--draw" ∷ codes "--json" ∷ codes "a" ∷ []

-- a judging of vectors that asks where a file of them is refused
abbrev pub words_of_places : List Text
words_of_places = codes "vectors" ∷ codes "--where" ∷ codes "a" ∷ []

-- a drawing of a tree, and one of a GroupInfo's
abbrev pub words_of_draw : List Text
words_of_draw = codes "check" ∷ codes "--draw" ∷ codes "a" ∷ []

abbrev pub words_of_draw_info : List Text
words_of_draw_info =
    codes "check" ∷ codes "a" ∷ codes "--draw" ∷ codes "--group-info" ∷ codes "--width=40" ∷ []

abbrev pub words_of_replay : List Text
words_of_replay =
    codes "replay" ∷ codes "--message" ∷ codes "12" ∷ codes "--suite=0001" ∷ codes "a" ∷ []

-- a replay that asks for a member's tree, a quiet one, and one that records
abbrev pub words_of_tree : List Text
words_of_tree = codes "replay" ∷ codes "a" ∷ codes "--tree=3" ∷ []

abbrev pub words_of_quiet : List Text
words_of_quiet = codes "replay" ∷ codes "--quiet" ∷ codes "a" ∷ []

abbrev pub words_of_record : List Text
words_of_record = codes "replay" ∷ codes "--record" ∷ codes "a" ∷ []

-- a replay that draws a member's tree, and one that asks for a message too
abbrev pub words_of_picture : List Text
words_of_picture = codes "replay" ∷ codes "a" ∷ codes "--draw" ∷ codes "3" ∷ codes "--width=40" ∷ []

abbrev pub words_of_picture_and_message : List Text
words_of_picture_and_message =
    codes "replay" ∷ codes "a" ∷ codes "--draw=3" ∷ codes "--message=0" ∷ []

-- a replay that draws it as an SVG file, one that cuts such a file's rows, and one that doesn't
-- say whose tree is drawn
abbrev pub words_of_svg : List Text
words_of_svg = codes "replay" ∷ codes "a" ∷ codes "--svg" ∷ codes "--draw=3" ∷ []

abbrev pub words_of_svg_width : List Text
words_of_svg_width =
    codes "replay" ∷ codes "a" ∷ codes "--svg" ∷ codes "--draw=3" ∷ codes "--width=40" ∷ []

abbrev pub words_of_no_drawing : List Text
words_of_no_drawing = codes "replay" ∷ codes "a" ∷ codes "--svg" ∷ []

-- a replay that says how far it is
abbrev pub words_of_progress : List Text
words_of_progress = codes "replay" ∷ codes "a" ∷ codes "--progress" ∷ codes "--quiet" ∷ []

-- a replay that asks for two things
abbrev pub words_of_two_views : List Text
words_of_two_views = codes "replay" ∷ codes "a" ∷ codes "--quiet" ∷ codes "--message=0" ∷ []

-- a replay whose message is no number
abbrev pub words_of_no_number : List Text
words_of_no_number = codes "replay" ∷ codes "a" ∷ codes "--message=x" ∷ []

-- Where content is refused: what --where has said of it.
use Rattle.std.specs.Prelude.{◌≡◌, ◌==◌, ◌++◌, ℕ, if◌then◌else◌, List, [], Option, Some, None}
use Rattle.mls_suite.specs.Glass.{glass}
use Rattle.mls_suite_0001.specs.Suite0001.{suite_0001}
use Rattle.mls_cli_text.specs.Form.{bytes_of_file}
use Rattle.mls_cli_text.specs.declared.page.Ending.{Ending}
use Rattle.mls_cli_text.specs.declared.page.Ending.TheVariants.{Good, Failed, Refused}
use Rattle.mls_cli_show.specs.Show.{page_of as show_page}
use Rattle.mls_cli_check.specs.Check.{check_page}
use Rattle.mls_cli_check.specs.Drawing.{draw_page}
use Rattle.mls_cli_check.specs.GroupInfo.{group_info_page}
use Rattle.mls_cli_check.specs.declared.drawing.TreeSource.{TreeSource}
use Rattle.mls_cli_check.specs.declared.drawing.TreeSource.TheVariants as source
use Rattle.mls_cli_place.specs.Breach.{FindsFor, FindsInInfo, group_in, info_of, nodes_of, rule_of}
use Rattle.mls_cli_place.specs.File.{place_in_file}
use Rattle.mls_cli_place.specs.Text.{place_text, tree_place_text}
use Rattle.mls_cli_place.specs.declared.file.Whole.{Whole}
use Rattle.mls_cli_place.specs.declared.file.Whole.TheVariants as whole
use Rattle.mls_cli_place.specs.declared.place.Place.{Place}
use Rattle.mls_cli_place.specs.declared.tree_place.TreePlace.{TreePlace}
use Rattle.mls_cli_json_place.specs.Faults.{Spot, spots}
use Rattle.mls_cli_json_place.specs.RecordingFile.{recording_spot}
use Rattle.mls_cli_json_place.specs.Text.{json_place_text}
use Rattle.mls_cli_json_place.specs.VectorsFile.{vectors_spot}
use Rattle.mls_cli_json_place.specs.declared.place.JsonPlace.{JsonPlace}
use Rattle.mls_cli_serve.specs.Pages.{checking, crypto_of, file_page}
use Rattle.mls_cli_serve.specs.declared.tasks.Job.{Job}
use Rattle.mls_cli_serve.specs.declared.tasks.Job.TheVariants as job
use Rattle.mls_cli_serve.specs.declared.tasks.SuiteChoice.TheVariants as choice

-- the text of a place, if there is one
abbrev pub text_if_any : {P : Type 0} → (P → List ℕ) → Option P → List ℕ
text_if_any text None = []
text_if_any text (Some place) = text place

-- ---- messages and trees

-- the number of the refusal that a page ends with, if it ends with one
abbrev pub refusal_in : Ending → Option ℕ
refusal_in Good = None
refusal_in Failed = None
refusal_in (Refused n) = Some n

-- the number that the message or the tree of a file is refused with, if it is refused
abbrev pub refusal_of : Job → List ℕ → Option ℕ
refusal_of (job.Show file form detail layout) text =
    refusal_in (file_page form text (show_page detail form text)).ending
refusal_of (job.Check file form suite signatures group layout) text =
    refusal_in
    (file_page form text (check_page (checking suite signatures) form text group.now)).ending
refusal_of (job.CheckGroupInfo file form signatures layout) text =
    refusal_in
    (file_page form text
    (group_info_page glass (checking choice.Suite0001 signatures) form text)).ending
refusal_of (job.Draw file form source drawing) text =
    refusal_in (file_page form text (draw_page source drawing form text)).ending
refusal_of (job.Replay file suite view progress) text = None
refusal_of (job.DrawMember file suite member drawing progress) text = None
refusal_of (job.Vectors file) text = None

-- what the file of a tree's drawing is read as
abbrev pub whole_of : TreeSource → Whole
whole_of source.Tree = whole.Tree
whole_of source.GroupInfo = whole.Message

-- the first fault of decoding, if there is one
abbrev pub fault_in : Job → List ℕ → Option Place
fault_in (job.Show file form detail layout) text = place_in_file whole.Message form text
fault_in (job.Check file form suite signatures group layout) text =
    place_in_file whole.Tree form text
fault_in (job.CheckGroupInfo file form signatures layout) text =
    place_in_file whole.Message form text
fault_in (job.Draw file form source drawing) text = place_in_file (whole_of source) form text
fault_in (job.Replay file suite view progress) text = None
fault_in (job.DrawMember file suite member drawing progress) text = None
fault_in (job.Vectors file) text = None

-- where it has this number
abbrev pub with_number : ℕ → Option Place → Option Place
with_number n None = None
with_number n (Some place) = if place.fault == n then Some place else None

-- the node or the leaf that breaks the rule of this number, if a tree is checked or drawn and it is a rule of one of them
abbrev pub FindsBreachIn : Job → List ℕ → ℕ → Option TreePlace → Type 0
FindsBreachIn (job.Show file form detail layout) text n found = found ≡ None
FindsBreachIn (job.Check file form suite signatures group layout) text n found =
    FindsFor (checking suite signatures) (group_in group.now) (rule_of n)
    (nodes_of (bytes_of_file form text)) found
FindsBreachIn (job.CheckGroupInfo file form signatures layout) text n found =
    FindsInInfo glass (checking choice.Suite0001 signatures) (rule_of n)
    (info_of (bytes_of_file form text)) found
FindsBreachIn (job.Draw file form source.Tree drawing) text n found =
    FindsFor glass (group_in []) (rule_of n) (nodes_of (bytes_of_file form text)) found
FindsBreachIn (job.Draw file form source.GroupInfo drawing) text n found =
    FindsInInfo glass suite_0001 (rule_of n) (info_of (bytes_of_file form text)) found
FindsBreachIn (job.Replay file suite view progress) text n found = found ≡ None
FindsBreachIn (job.DrawMember file suite member drawing progress) text n found = found ≡ None
FindsBreachIn (job.Vectors file) text n found = found ≡ None

-- the fault of decoding with this number, or the node or the leaf: no number is that of both
abbrev pub IsRefusalText : Job → List ℕ → ℕ → List ℕ → Type 0
IsRefusalText j text n said =
    (found : Option TreePlace) × FindsBreachIn j text n found
    × (said ≡ text_if_any place_text (with_number n (fault_in j text))
    ++ text_if_any tree_place_text found)

-- nothing, where the content isn't refused
abbrev pub IsContentText : Job → List ℕ → Option ℕ → List ℕ → Type 0
IsContentText j text None said = said ≡ []
IsContentText j text (Some n) said = IsRefusalText j text n said

-- ---- JSON files

abbrev pub IsSpotText : Option Spot → List ℕ → Type 0
IsSpotText spot said =
    (found : Option JsonPlace) × (spots found ≡ spot) × (said ≡ text_if_any json_place_text found)

-- ---- of a job

-- of a message or a tree
abbrev pub IsJobText : Job → List ℕ → List ℕ → Type 0
IsJobText j text said = IsContentText j text (refusal_of j text) said

abbrev pub IsPlaceText : Job → List ℕ → List ℕ → Type 0
IsPlaceText (job.Show file form detail layout) text said =
    IsJobText (job.Show file form detail layout) text said
IsPlaceText (job.Check file form suite signatures group layout) text said =
    IsJobText (job.Check file form suite signatures group layout) text said
IsPlaceText (job.CheckGroupInfo file form signatures layout) text said =
    IsJobText (job.CheckGroupInfo file form signatures layout) text said
IsPlaceText (job.Draw file form source drawing) text said =
    IsJobText (job.Draw file form source drawing) text said
IsPlaceText (job.Replay file suite view progress) text said =
    IsSpotText (recording_spot (crypto_of suite).number text) said
IsPlaceText (job.DrawMember file suite member drawing progress) text said =
    IsSpotText (recording_spot (crypto_of suite).number text) said
IsPlaceText (job.Vectors file) text said = IsSpotText (vectors_spot text) said

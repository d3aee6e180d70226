-- Where a recording has the fault that it is refused with as `BadJson` (9).
use Rattle.std.specs.Prelude.{ℕ, Bool, List, codes, Option, Some, None, option_map, is_some}
use Rattle.std.specs.Str.{bytes_eq}
use Rattle.serde_json.specs.Data.{Data, Items}
use Rattle.mls_cli_json.specs.Json.{data_in, items_at, number_at, text_at}
use Rattle.mls_cli_recording.specs.Recording.{final_lines_in, has_parts, is_version, suite_text}
use Rattle.mls_cli_json_place.specs.declared.key.Key.TheVariants as key
use Rattle.mls_cli_json_place.specs.declared.place.Wrong.{Wrong}
use Rattle.mls_cli_json_place.specs.declared.place.Wrong.TheVariants.{At}
use Rattle.mls_cli_json_place.specs.Events.{event_wrong}
use Rattle.mls_cli_json_place.specs.Faults.{Spot, at_key, in_event, in_file, no_more, spot_by}
use Rattle.mls_cli_json_place.specs.Lists.{first_wrong}

-- of the object's own values: another version than 1 or 2, another suite than is asked for, lines in the end that aren't
-- texts, or another member
unfoldable pub parts_wrong : ℕ → Bool → Data → Option Wrong
parts_wrong version wanted d =
    at_key key.Version (is_version version)
    (at_key key.Suite wanted
    (at_key key.Final (is_some (final_lines_in d))
    (no_more (has_parts version d))))

-- what is wrong with the object comes before its events
abbrev pub event_spot : ℕ × Wrong → Spot
event_spot found = in_event found.0 found.1

abbrev pub parts_or_events : Option Wrong → Option (ℕ × Wrong) → Option Spot
parts_or_events (Some wrong) found = Some (in_file wrong)
parts_or_events None found = option_map event_spot found

abbrev pub parts_spot : ℕ → Option ℕ → Option (List ℕ) → Option Items → Data → Option Spot
parts_spot number None suite events d = Some (in_file (At key.Version))
parts_spot number (Some version) None events d = Some (in_file (At key.Suite))
parts_spot number (Some version) (Some suite) None d = Some (in_file (At key.Events))
parts_spot number (Some version) (Some suite) (Some events) d =
    parts_or_events (parts_wrong version (bytes_eq suite (suite_text number)) d)
    (first_wrong (event_wrong version) 0 events)

-- of the value that a recording for the suite of this number is
unfoldable pub object_spot : ℕ → Data → Option Spot
object_spot number d =
    parts_spot number (number_at (codes "version") d) (text_at (codes "suite") d) (items_at (codes "events") d) d

-- of its text
abbrev pub recording_spot : ℕ → List ℕ → Option Spot
recording_spot number text = spot_by (object_spot number) (data_in text)

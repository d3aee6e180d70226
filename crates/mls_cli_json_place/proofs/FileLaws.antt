-- There is a place in a file just where it is refused with `BadJson` (9).
use Rattle.std.proofs.Common.{◌≡◌, ◌∙◌, ◌&&◌, ℕ, Bool, true, false, List, not, codes, Option, Some, None, option_map, is_some, refl, sym, ap}
use Rattle.std.specs.Str.{bytes_eq}
use Rattle.serde_json.specs.Data.{Data, Items}
use Rattle.serde_json.specs.Find.{as_array}
use Rattle.mls_cli_json.specs.Json.{◌>>=◌, data_in, items_at, number_at, require, text_at}
use Rattle.mls_cli_json.specs.Lists.{each_of, value_or_number}
use Rattle.mls_cli_recording.specs.Recording.{final_lines_in, has_parts, is_version, parts_in, recorded_in, recording, recording_with, suite_text}
use Rattle.mls_cli_vectors.specs.VectorsFile.{claim_in, claims_in}
use Rattle.mls_cli_json_place.specs.declared.key.Key.TheVariants as key
use Rattle.mls_cli_json_place.specs.declared.place.JsonPlace.{JsonPlace}
use Rattle.mls_cli_json_place.specs.declared.place.JsonPlace.TheVariants as place
use Rattle.mls_cli_json_place.specs.declared.place.Wrong.{Wrong}
use Rattle.mls_cli_json_place.specs.Events.{event_wrong}
use Rattle.mls_cli_json_place.specs.Faults.{Spot, TellsBadJson, at_key, is_bad_json, no_more, spot_by, spot_of, spots}
use Rattle.mls_cli_json_place.specs.Lists.{first_wrong}
use Rattle.mls_cli_json_place.specs.RecordingFile.{event_spot, object_spot, parts_or_events, parts_spot, parts_wrong, recording_spot}
use Rattle.mls_cli_json_place.specs.VectorsFile.{array_spot, vector_spot, vector_wrong, vectors_spot}
use Rattle.mls_cli_json_place.proofs.Arrays.{first_told}
use Rattle.mls_cli_json_place.proofs.EventLaws.{event_told}
use Rattle.mls_cli_json_place.proofs.Options.{some_mapped}
use Rattle.mls_cli_json_place.proofs.VectorLaws.{vector_told}

bad_where_none : {X : Type 0} (o : Option (Option X)) → is_bad_json (value_or_number o) ≡ not (is_some o)
bad_where_none None = refl
bad_where_none (Some None) = refl
bad_where_none (Some (Some x)) = refl

-- ---- recordings

-- the tests of the object, then its lines and its events
parts_told : {L X Y : Type 0} (version wanted counted : Bool) (lines : Option L) (f : L → X → Y) (found : Option (ℕ × Wrong)) (read : Option X) → is_some found ≡ not (is_some read)
    → is_some (parts_or_events (at_key key.Version version (at_key key.Suite wanted (at_key key.Final (is_some lines) (no_more counted)))) found)
    ≡ not (is_some (require ((version && wanted) && counted) (lines >>= λ l. read >>= λ x. Some (f l x))))
parts_told false wanted counted lines f found read e = refl
parts_told true false counted lines f found read e = refl
parts_told true true false None f found read e = refl
parts_told true true false (Some l) f found read e = refl
parts_told true true true None f found read e = refl
parts_told true true true (Some l) f found None e = some_mapped event_spot found ∙ e
parts_told true true true (Some l) f found (Some x) e = some_mapped event_spot found ∙ e

by_parts : (number : ℕ) (version : Option ℕ) (suite : Option (List ℕ)) (events : Option Items) (d : Data)
    → is_some (parts_spot number version suite events d)
    ≡ not (is_some (version >>= λ version. suite >>= λ suite. events >>= λ events. require ((is_version version && bytes_eq suite (suite_text number)) && has_parts version d) (final_lines_in d >>= λ lines. each_of (recorded_in version) events >>= λ actions. Some (option_map (recording_with lines) actions))))
unfolding parts_wrong
by_parts number None suite events d = refl
by_parts number (Some version) None events d = refl
by_parts number (Some version) (Some suite) None d = refl
by_parts number (Some version) (Some suite) (Some events) d =
    parts_told (is_version version) (bytes_eq suite (suite_text number)) (has_parts version d) (final_lines_in d) (λ lines actions. option_map (recording_with lines) actions) (first_wrong (event_wrong version) 0 events) (each_of (recorded_in version) events)
    (first_told (event_wrong version) (recorded_in version) (event_told version) 0 events)

object_told : (number : ℕ) (d : Data) → is_some (object_spot number d) ≡ not (is_some (parts_in number d))
unfolding object_spot
object_told number d = by_parts number (number_at (codes "version") d) (text_at (codes "suite") d) (items_at (codes "events") d) d

by_data : {X : Type 0} (spot : Data → Option Spot) (read : Data → Option (Option X)) → ((d : Data) → is_some (spot d) ≡ not (is_some (read d))) → (o : Option Data) → is_some (spot_by spot o) ≡ not (is_some (o >>= read))
by_data spot read h None = refl
by_data spot read h (Some d) = h d

place_told : {X : Type 0} (place : Option JsonPlace) (spot : Option Spot) (o : Option (Option X)) → spots place ≡ spot → is_some spot ≡ not (is_some o) → is_some place ≡ is_bad_json (value_or_number o)
place_told place spot o same told = sym (some_mapped spot_of place) ∙ ap is_some same ∙ told ∙ sym (bad_where_none o)

pub recording_told : (number : ℕ) (text : List ℕ) (place : Option JsonPlace) → spots place ≡ recording_spot number text → TellsBadJson (recording number text) place
unfolding recording
recording_told number text place same =
    place_told place (recording_spot number text) (data_in text >>= parts_in number) same (by_data (object_spot number) (parts_in number) (object_told number) (data_in text))

-- a text that is no JSON
pub no_recording : (number : ℕ) (text : List ℕ) (line column : ℕ) → None ≡ data_in text → TellsBadJson (recording number text) (Some (place.Text line column))
no_recording number text line column e = recording_told number text (Some (place.Text line column)) (ap (spot_by (object_spot number)) e)

-- ---- vector files

array_told : (ds : Option Items) → is_some (array_spot ds) ≡ not (is_some (ds >>= each_of claim_in))
array_told None = refl
array_told (Some ds) = some_mapped vector_spot (first_wrong vector_wrong 0 ds) ∙ first_told vector_wrong claim_in vector_told 0 ds

by_array : (o : Option Data) → is_some (spot_by (λ d. array_spot (as_array d)) o) ≡ not (is_some ((o >>= as_array) >>= each_of claim_in))
by_array None = refl
by_array (Some d) = array_told (as_array d)

pub vectors_told : (text : List ℕ) (place : Option JsonPlace) → spots place ≡ vectors_spot text → TellsBadJson (claims_in text) place
unfolding claims_in
vectors_told text place same = place_told place (vectors_spot text) ((data_in text >>= as_array) >>= each_of claim_in) same (by_array (data_in text))

pub no_vectors : (text : List ℕ) (line column : ℕ) → None ≡ data_in text → TellsBadJson (claims_in text) (Some (place.Text line column))
no_vectors text line column e = vectors_told text (Some (place.Text line column)) (ap (spot_by (λ d. array_spot (as_array d))) e)

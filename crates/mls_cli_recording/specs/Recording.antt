-- What a recording is. Its shape is a fault before a text that isn't hex: such a text is kept, and a call with one is
-- nothing, where the shape is right.
use Rattle.std.specs.Prelude.{ℕ, ◌+◌, ◌/◌, ◌%◌, ◌==◌, ◌&&◌, ◌||◌, Bool, List, [], ◌∷◌, codes, if◌then◌else◌, Option, Some, None, option_map, is_some, Result}
use Rattle.std.specs.Str.{bytes_eq}
use Rattle.hex.specs.Hex.{encode_lower}
use Rattle.serde_json.specs.Data.{Data, Items, no_items, item}
use Rattle.serde_json.specs.Find.{get, as_array, as_str}
use Rattle.mls_cli_json.specs.HexText.{bytes_of, hex_at, seed_at}
use Rattle.mls_cli_json.specs.Lists.{each_of, value_or_number}
use Rattle.mls_cli_json.specs.Json.{◌>>=◌, data_in, require, is_object_of, if_any, text_at, text_if_any, number_at, bool_at, max_u16, max_u32, whole_at, items_at}
use Rattle.mls_cli_recording.specs.Calls.{MessageSource, given, message, CommitItem, ref, add, remove, extensions, Call, candidate, create, propose_add, propose_update, propose_remove, propose_extensions, commit, drop_pending, deliver, join, Action, call, deliver_all, RecordedAction, Recording}

-- ---- sources and items

-- the bytes that a text of hex stands for
abbrev pub given_in : List ℕ → Option (Option MessageSource)
given_in text = Some (option_map given (bytes_of text))

-- a text of hex, or else a message's number
abbrev pub source_by : Option (List ℕ) → Data → Option (Option MessageSource)
source_by (Some text) d = given_in text
source_by None d = require (is_object_of 1 d) (do
  n ← number_at (codes "message") d
  Some (Some (message n)))

abbrev pub source_in : Data → Option (Option MessageSource)
source_in d = source_by (as_str d) d

abbrev pub source_at : List ℕ → Data → Option (Option MessageSource)
source_at key d = get key d >>= source_in

-- an item with its source
abbrev pub item_with_source : {X : Type 0} → (MessageSource → X) →
    Option (Option MessageSource) → Option (Option X)
item_with_source make source = option_map (option_map make) source

-- the proposal whose message has that source, by its reference
abbrev pub reference_in : Data → Option (Option CommitItem)
reference_in d = item_with_source ref (source_in d)

-- the KeyPackage whose message has that source
abbrev pub addition_in : Data → Option (Option CommitItem)
addition_in d = item_with_source add (source_in d)

-- the leaf that is removed
abbrev pub removal_in : Data → Option (Option CommitItem)
removal_in d = do
  leaf ← whole_at max_u32 (codes "remove") d
  Some (Some (remove leaf))

-- an extension, whose type may be any number of 16 bits
abbrev pub extension_in : Data → Option (Option (ℕ × List ℕ))
extension_in d = require (is_object_of 2 d) (do
  kind ← whole_at max_u16 (codes "type") d
  content ← hex_at (codes "data") d
  Some (option_map (λ content. (kind, content)) content))

abbrev pub extensions_at : List ℕ → Data → Option (Option (List (ℕ × List ℕ)))
extensions_at key d = items_at key d >>= each_of extension_in

-- the extensions that the group is to carry
abbrev pub extensions_in : Data → Option (Option CommitItem)
extensions_in d = option_map (option_map extensions) (extensions_at (codes "extensions") d)

-- by which key is there
abbrev pub item_by : Option Data → Option Data → Option Data → Data → Option (Option CommitItem)
item_by (Some source) added listed d = reference_in source
item_by None (Some source) listed d = addition_in source
item_by None None (Some list) d = extensions_in d
item_by None None None d = removal_in d

abbrev pub item_in : Data → Option (Option CommitItem)
item_in d = require (is_object_of 1 d)
    (item_by (get (codes "ref") d) (get (codes "add") d) (get (codes "extensions") d) d)

abbrev pub commit_items_at : List ℕ → Data → Option (Option (List CommitItem))
commit_items_at key d = items_at key d >>= each_of item_in

-- ---- calls

-- an object of so many members, and of one more where a reply is recorded
abbrev pub has_keys : ℕ → Data → Bool
has_keys n d = is_object_of (if is_some (get (codes "expect") d) then n + 1 else n) d

abbrev pub candidate_in : Data → Option (Option Call)
candidate_in d = require (has_keys 3 d) (do
  seed ← seed_at (codes "seed") d
  identity ← hex_at (codes "identity") d
  Some (option_map (λ identity. candidate identity seed) identity))

abbrev pub create_in : Data → Option (Option Call)
create_in d = require (has_keys 4 d) (do
  n ← number_at (codes "candidate") d
  seed ← seed_at (codes "seed") d
  group ← hex_at (codes "group") d
  Some (option_map (λ group. create n group seed) group))

abbrev pub propose_add_in : Data → Option (Option Call)
propose_add_in d = require (has_keys 3 d) (do
  k ← number_at (codes "member") d
  source ← source_at (codes "key_package") d
  Some (option_map (propose_add k) source))

abbrev pub propose_update_in : Data → Option (Option Call)
propose_update_in d = require (has_keys 3 d) (do
  k ← number_at (codes "member") d
  seed ← seed_at (codes "seed") d
  Some (Some (propose_update k seed)))

abbrev pub propose_remove_in : Data → Option (Option Call)
propose_remove_in d = require (has_keys 3 d) (do
  k ← number_at (codes "member") d
  leaf ← whole_at max_u32 (codes "leaf") d
  Some (Some (propose_remove k leaf)))

abbrev pub propose_extensions_in : Data → Option (Option Call)
propose_extensions_in d = require (has_keys 3 d) (do
  k ← number_at (codes "member") d
  list ← extensions_at (codes "extensions") d
  Some (option_map (propose_extensions k) list))

abbrev pub commit_in : Data → Option (Option Call)
commit_in d = require (has_keys 5 d) (do
  k ← number_at (codes "member") d
  path ← bool_at (codes "path") d
  seed ← seed_at (codes "seed") d
  items ← commit_items_at (codes "items") d
  Some (option_map (λ items. commit k items path seed) items))

abbrev pub drop_pending_in : Data → Option (Option Call)
drop_pending_in d = require (has_keys 2 d) (do
  k ← number_at (codes "member") d
  Some (Some (drop_pending k)))

abbrev pub deliver_in : Data → Option (Option Call)
deliver_in d = require (has_keys 3 d) (do
  k ← number_at (codes "member") d
  source ← source_at (codes "bytes") d
  Some (option_map (deliver k) source))

abbrev pub join_in : Data → Option (Option Call)
join_in d = require (has_keys 3 d) (do
  n ← number_at (codes "candidate") d
  source ← source_at (codes "bytes") d
  Some (option_map (join n) source))

abbrev pub call_by : List ℕ → Data → Option (Option Call)
call_by op d =
    if bytes_eq op (codes "candidate") then candidate_in d
    else if bytes_eq op (codes "create") then create_in d
    else if bytes_eq op (codes "propose_add") then propose_add_in d
    else if bytes_eq op (codes "propose_update") then propose_update_in d
    else if bytes_eq op (codes "propose_remove") then propose_remove_in d
    else if bytes_eq op (codes "propose_extensions") then propose_extensions_in d
    else if bytes_eq op (codes "commit") then commit_in d
    else if bytes_eq op (codes "drop_pending") then drop_pending_in d
    else if bytes_eq op (codes "deliver") then deliver_in d
    else if bytes_eq op (codes "join") then join_in d
    else None

-- ---- all of a recording

-- a call, by the name of its op
abbrev pub event_in : List ℕ → Data → Option (Option Action)
event_in op d = option_map (option_map call) (call_by op d)

-- a delivery to all
abbrev pub deliver_all_in : Data → Option (Option Action)
deliver_all_in d = require (has_keys 2 d) (do
  source ← source_at (codes "bytes") d
  Some (option_map deliver_all source))

-- by the name of the op; version 2 has one more
abbrev pub action_by : ℕ → List ℕ → Data → Option (Option Action)
action_by version op d =
    if (version == 2) && bytes_eq op (codes "deliver_all") then deliver_all_in d
    else event_in op d

abbrev pub recorded_with : Option (List ℕ) → Action → RecordedAction
recorded_with expect action = record { action = action; expect = expect }

abbrev pub recorded_in : ℕ → Data → Option (Option RecordedAction)
recorded_in version d = do
  op ← text_at (codes "op") d
  expect ← text_if_any (codes "expect") d
  action ← action_by version op d
  Some (option_map (recorded_with expect) action)

-- texts
unfoldable pub texts_in : Items → Option (List (List ℕ))
texts_in no_items = Some []
texts_in (item d ds) = do
  text ← as_str d
  texts ← texts_in ds
  Some (text ∷ texts)

abbrev pub lines_in : Data → Option (List (List ℕ))
lines_in d = as_array d >>= texts_in

-- the lines of members in the end, where they are recorded
abbrev pub final_lines_in : Data → Option (Option (List (List ℕ)))
final_lines_in d = if_any lines_in (get (codes "final") d)

-- recordings of version 1 or 2 are read
abbrev pub is_version : ℕ → Bool
is_version version = (version == 1) || (version == 2)

-- an object of a version, a suite and events; in version 2 of lines in the end too, where they are recorded
abbrev pub has_parts : ℕ → Data → Bool
has_parts version d =
    is_object_of (if (version == 2) && is_some (get (codes "final") d) then 4 else 3) d

abbrev pub recording_with : Option (List (List ℕ)) → List RecordedAction → Recording
recording_with lines actions = record { actions = actions; final_lines = lines }

-- a suite's number in four hex digits
abbrev pub suite_text : ℕ → List ℕ
suite_text n = encode_lower (n / 256 ∷ n % 256 ∷ [])

-- for the suite of this number
abbrev pub parts_in : ℕ → Data → Option (Option Recording)
parts_in number d = do
  version ← number_at (codes "version") d
  suite ← text_at (codes "suite") d
  events ← items_at (codes "events") d
  require ((is_version version && bytes_eq suite (suite_text number)) && has_parts version d) (do
    lines ← final_lines_in d
    actions ← each_of (recorded_in version) events
    Some (option_map (recording_with lines) actions))

-- What a recording for the suite of this number has, or the number of its refusal.
unfoldable pub recording : ℕ → List ℕ → Result Recording ℕ
recording number text = value_or_number (data_in text >>= parts_in number)

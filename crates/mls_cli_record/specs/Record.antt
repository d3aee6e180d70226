-- A recording, written again with what a replay of it came to: each event's reply as its `expect`,
-- and in version 2 the lines of members in the end as `final`.
use Rattle.std.specs.Prelude.{◌≡◌, ◌≤◌, ◌==◌, ℕ, ◌+◌, Bool, false, List, [], ◌∷◌, codes, slice_get, if◌then◌else◌, Option, Some, None, option_map, string_bytes}
use Rattle.std.specs.Global.{Global}
use Rattle.std.specs.declared.string.String.{String}
use Rattle.json.specs.Layout.{pretty}
use Rattle.json.specs.Lex.{tokens}
use Rattle.serde_json.specs.Data.{Data, null, boolean, number, string, array, object, Items, no_items, item, depth, put}
use Rattle.serde_json.specs.Read.{read, max_depth}
use Rattle.serde_json.specs.Written.{IsInOrder}
use Rattle.mls_cli_json.specs.Json.{items_at, number_at}

-- an object with this value at a key; what is no object stays
abbrev pub with_member : List ℕ → Data → Data → Data
with_member key value null = null
with_member key value (boolean b) = boolean b
with_member key value (number n) = number n
with_member key value (string s) = string s
with_member key value (array ds) = array ds
with_member key value (object ms) = object (put key value ms)

-- an event that expects this reply, where there is one
abbrev pub event_with_reply : Option (List ℕ) → Data → Data
event_with_reply None d = d
event_with_reply (Some reply) d = with_member (codes "expect") (string reply) d

-- the events from number k on, each with the reply of its number
unfoldable pub events_with_replies : ℕ → List (List ℕ) → Items → Items
events_with_replies k replies no_items = no_items
events_with_replies k replies (item d ds) =
    item (event_with_reply (slice_get replies k) d) (events_with_replies (k + 1) replies ds)

abbrev pub with_events : List (List ℕ) → Option Items → Data → Data
with_events replies None d = d
with_events replies (Some events) d =
    with_member (codes "events") (array (events_with_replies 0 replies events)) d

-- a recording whose events expect these replies
abbrev pub with_replies : List (List ℕ) → Data → Data
with_replies replies d = with_events replies (items_at (codes "events") d) d

-- texts, as an array has them
unfoldable pub text_items : List (List ℕ) → Items
text_items [] = no_items
text_items (text ∷ texts) = item (string text) (text_items texts)

abbrev pub has_version : Option ℕ → ℕ → Bool
has_version None n = false
has_version (Some version) n = version == n

-- a recording that expects these lines in the end, where it is of version 2
abbrev pub with_lines : List (List ℕ) → Data → Data
with_lines lines d =
    if has_version (number_at (codes "version") d) 2
    then with_member (codes "final") (array (text_items lines)) d else d

-- a recording that expects these replies and these lines
abbrev pub record_of : List (List ℕ) → List (List ℕ) → Data → Data
record_of replies lines d = with_lines lines (with_replies replies d)

-- a text of this JSON, laid out with an item or a member a line
pub record IsTextOf (text : List ℕ) (d : Data) : Type 0 where
  pub order : IsInOrder text d
  pub layout : text ≡ pretty (tokens text)
  pub reads : depth d ≤ max_depth → read text ≡ Some d

-- ---- of the code's values

-- the reply of a number, if there is one
abbrev pub reply_at : List (String Global) → ℕ → Option (List ℕ)
reply_at replies k = option_map string_bytes (slice_get replies k)

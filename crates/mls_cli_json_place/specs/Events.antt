-- What is wrong with an event of a recording: the first of its keys, as the table of its op has them, whose value can't
-- be read, or a member that isn't of the table.
use Rattle.std.specs.Prelude.{◌==◌, ◌&&◌, ℕ, List, codes, if◌then◌else◌, Option, Some, None, is_some}
use Rattle.std.specs.Str.{bytes_eq}
use Rattle.serde_json.specs.Data.{Data}
use Rattle.mls_cli_json.specs.HexText.{hex_at, seed_at}
use Rattle.mls_cli_json.specs.Json.{bool_at, max_u32, number_at, text_at, text_if_any, whole_at}
use Rattle.mls_cli_recording.specs.Recording.{commit_items_at, extensions_at, has_keys, source_at}
use Rattle.mls_cli_json_place.specs.declared.key.Key.TheVariants as key
use Rattle.mls_cli_json_place.specs.declared.place.Wrong.{Wrong}
use Rattle.mls_cli_json_place.specs.declared.place.Wrong.TheVariants.{At}
use Rattle.mls_cli_json_place.specs.Faults.{at_key, no_more}

-- ---- the tables

unfoldable pub candidate_wrong : Data → Option Wrong
candidate_wrong d =
    at_key key.Seed (is_some (seed_at (codes "seed") d))
    (at_key key.Identity (is_some (hex_at (codes "identity") d))
    (no_more (has_keys 3 d)))

unfoldable pub create_wrong : Data → Option Wrong
create_wrong d =
    at_key key.Candidate (is_some (number_at (codes "candidate") d))
    (at_key key.Seed (is_some (seed_at (codes "seed") d))
    (at_key key.Group (is_some (hex_at (codes "group") d))
    (no_more (has_keys 4 d))))

unfoldable pub propose_add_wrong : Data → Option Wrong
propose_add_wrong d =
    at_key key.Member (is_some (number_at (codes "member") d))
    (at_key key.KeyPackage (is_some (source_at (codes "key_package") d))
    (no_more (has_keys 3 d)))

unfoldable pub propose_update_wrong : Data → Option Wrong
propose_update_wrong d =
    at_key key.Member (is_some (number_at (codes "member") d))
    (at_key key.Seed (is_some (seed_at (codes "seed") d))
    (no_more (has_keys 3 d)))

unfoldable pub propose_remove_wrong : Data → Option Wrong
propose_remove_wrong d =
    at_key key.Member (is_some (number_at (codes "member") d))
    (at_key key.Leaf (is_some (whole_at max_u32 (codes "leaf") d))
    (no_more (has_keys 3 d)))

unfoldable pub propose_extensions_wrong : Data → Option Wrong
propose_extensions_wrong d =
    at_key key.Member (is_some (number_at (codes "member") d))
    (at_key key.Extensions (is_some (extensions_at (codes "extensions") d))
    (no_more (has_keys 3 d)))

unfoldable pub commit_wrong : Data → Option Wrong
commit_wrong d =
    at_key key.Member (is_some (number_at (codes "member") d))
    (at_key key.Path (is_some (bool_at (codes "path") d))
    (at_key key.Seed (is_some (seed_at (codes "seed") d))
    (at_key key.Items (is_some (commit_items_at (codes "items") d))
    (no_more (has_keys 5 d)))))

unfoldable pub drop_pending_wrong : Data → Option Wrong
drop_pending_wrong d =
    at_key key.Member (is_some (number_at (codes "member") d)) (no_more (has_keys 2 d))

unfoldable pub deliver_wrong : Data → Option Wrong
deliver_wrong d =
    at_key key.Member (is_some (number_at (codes "member") d))
    (at_key key.Bytes (is_some (source_at (codes "bytes") d))
    (no_more (has_keys 3 d)))

unfoldable pub join_wrong : Data → Option Wrong
join_wrong d =
    at_key key.Candidate (is_some (number_at (codes "candidate") d))
    (at_key key.Bytes (is_some (source_at (codes "bytes") d))
    (no_more (has_keys 3 d)))

unfoldable pub deliver_all_wrong : Data → Option Wrong
deliver_all_wrong d =
    at_key key.Bytes (is_some (source_at (codes "bytes") d)) (no_more (has_keys 2 d))

-- ---- by the op

-- an op that isn't listed is itself wrong
unfoldable pub call_wrong : List ℕ → Data → Option Wrong
call_wrong op d =
    if bytes_eq op (codes "candidate") then candidate_wrong d
    else if bytes_eq op (codes "create") then create_wrong d
    else if bytes_eq op (codes "propose_add") then propose_add_wrong d
    else if bytes_eq op (codes "propose_update") then propose_update_wrong d
    else if bytes_eq op (codes "propose_remove") then propose_remove_wrong d
    else if bytes_eq op (codes "propose_extensions") then propose_extensions_wrong d
    else if bytes_eq op (codes "commit") then commit_wrong d
    else if bytes_eq op (codes "drop_pending") then drop_pending_wrong d
    else if bytes_eq op (codes "deliver") then deliver_wrong d
    else if bytes_eq op (codes "join") then join_wrong d
    else Some (At key.Op)

-- version 2 has one more
abbrev pub action_wrong : ℕ → List ℕ → Data → Option Wrong
action_wrong version op d =
    if (version == 2) && bytes_eq op (codes "deliver_all") then deliver_all_wrong d
    else call_wrong op d

-- the op, what is expected, and the rest
abbrev pub wrong_with : ℕ → Option (List ℕ) → Data → Option Wrong
wrong_with version None d = Some (At key.Op)
wrong_with version (Some op) d =
    at_key key.Expect (is_some (text_if_any (codes "expect") d)) (action_wrong version op d)

-- an event of a recording of this version
abbrev pub event_wrong : ℕ → Data → Option Wrong
event_wrong version d = wrong_with version (text_at (codes "op") d) d

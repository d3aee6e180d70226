-- What is wrong with an event is said just where it can't be read.
use Rattle.std.proofs.Common.{◌≡◌, ◌==◌, ◌&&◌, ◌∙◌, ℕ, List, not, codes, Option, Some, None, option_map, is_some, refl, sym, ap}
use Rattle.std.specs.Str.{bytes_eq}
use Rattle.serde_json.specs.Data.{Data}
use Rattle.mls_cli_json.specs.HexText.{hex_at, seed_at}
use Rattle.mls_cli_json.specs.Json.{◌>>=◌, bool_at, max_u32, number_at, text_at, text_if_any, whole_at}
use Rattle.mls_cli_recording.specs.Calls.{call}
use Rattle.mls_cli_recording.specs.Recording.{action_by, call_by, candidate_in, commit_in, commit_items_at, create_in, deliver_all_in, deliver_in, drop_pending_in, extensions_at, has_keys, join_in, propose_add_in, propose_extensions_in, propose_remove_in, propose_update_in, recorded_in, recorded_with, source_at}
use Rattle.mls_cli_json_place.specs.declared.key.Key.TheVariants as key
use Rattle.mls_cli_json_place.specs.Events.{action_wrong, call_wrong, candidate_wrong, commit_wrong, create_wrong, deliver_all_wrong, deliver_wrong, drop_pending_wrong, event_wrong, join_wrong, propose_add_wrong, propose_extensions_wrong, propose_remove_wrong, propose_update_wrong, wrong_with}
use Rattle.mls_cli_json_place.proofs.Options.{some_made, some_mapped}
use Rattle.mls_cli_json_place.proofs.Tables.{by_name, last, row, row_before, table}

candidate_told : (d : Data) → is_some (candidate_wrong d) ≡ not (is_some (candidate_in d))
unfolding candidate_wrong
candidate_told d = table _ _ (has_keys 3 d) (row key.Seed (seed_at (codes "seed") d) _ _ (λ x0. row key.Identity (hex_at (codes "identity") d) _ _ (λ x1. last _)))

create_told : (d : Data) → is_some (create_wrong d) ≡ not (is_some (create_in d))
unfolding create_wrong
create_told d = table _ _ (has_keys 4 d) (row key.Candidate (number_at (codes "candidate") d) _ _ (λ x0. row key.Seed (seed_at (codes "seed") d) _ _ (λ x1. row key.Group (hex_at (codes "group") d) _ _ (λ x2. last _))))

propose_add_told : (d : Data) → is_some (propose_add_wrong d) ≡ not (is_some (propose_add_in d))
unfolding propose_add_wrong
propose_add_told d = table _ _ (has_keys 3 d) (row key.Member (number_at (codes "member") d) _ _ (λ x0. row key.KeyPackage (source_at (codes "key_package") d) _ _ (λ x1. last _)))

propose_update_told : (d : Data) → is_some (propose_update_wrong d) ≡ not (is_some (propose_update_in d))
unfolding propose_update_wrong
propose_update_told d = table _ _ (has_keys 3 d) (row key.Member (number_at (codes "member") d) _ _ (λ x0. row key.Seed (seed_at (codes "seed") d) _ _ (λ x1. last _)))

propose_remove_told : (d : Data) → is_some (propose_remove_wrong d) ≡ not (is_some (propose_remove_in d))
unfolding propose_remove_wrong
propose_remove_told d = table _ _ (has_keys 3 d) (row key.Member (number_at (codes "member") d) _ _ (λ x0. row key.Leaf (whole_at max_u32 (codes "leaf") d) _ _ (λ x1. last _)))

propose_extensions_told : (d : Data) → is_some (propose_extensions_wrong d) ≡ not (is_some (propose_extensions_in d))
unfolding propose_extensions_wrong
propose_extensions_told d = table _ _ (has_keys 3 d) (row key.Member (number_at (codes "member") d) _ _ (λ x0. row key.Extensions (extensions_at (codes "extensions") d) _ _ (λ x1. last _)))

commit_told : (d : Data) → is_some (commit_wrong d) ≡ not (is_some (commit_in d))
unfolding commit_wrong
commit_told d = table _ _ (has_keys 5 d) (row key.Member (number_at (codes "member") d) _ _ (λ x0. row key.Path (bool_at (codes "path") d) _ _ (λ x1. row key.Seed (seed_at (codes "seed") d) _ _ (λ x2. row key.Items (commit_items_at (codes "items") d) _ _ (λ x3. last _)))))

drop_pending_told : (d : Data) → is_some (drop_pending_wrong d) ≡ not (is_some (drop_pending_in d))
unfolding drop_pending_wrong
drop_pending_told d = table _ _ (has_keys 2 d) (row key.Member (number_at (codes "member") d) _ _ (λ x0. last _))

deliver_told : (d : Data) → is_some (deliver_wrong d) ≡ not (is_some (deliver_in d))
unfolding deliver_wrong
deliver_told d = table _ _ (has_keys 3 d) (row key.Member (number_at (codes "member") d) _ _ (λ x0. row key.Bytes (source_at (codes "bytes") d) _ _ (λ x1. last _)))

join_told : (d : Data) → is_some (join_wrong d) ≡ not (is_some (join_in d))
unfolding join_wrong
join_told d = table _ _ (has_keys 3 d) (row key.Candidate (number_at (codes "candidate") d) _ _ (λ x0. row key.Bytes (source_at (codes "bytes") d) _ _ (λ x1. last _)))

deliver_all_told : (d : Data) → is_some (deliver_all_wrong d) ≡ not (is_some (deliver_all_in d))
unfolding deliver_all_wrong
deliver_all_told d = table _ _ (has_keys 2 d) (row key.Bytes (source_at (codes "bytes") d) _ _ (λ x0. last _))

call_told : (op : List ℕ) (d : Data) → is_some (call_wrong op d) ≡ not (is_some (call_by op d))
unfolding call_wrong
call_told op d =
    by_name (bytes_eq op (codes "candidate")) _ _ _ _ (candidate_told d) (by_name (bytes_eq op (codes "create")) _ _ _ _ (create_told d) (by_name (bytes_eq op (codes "propose_add")) _ _ _ _ (propose_add_told d) (by_name (bytes_eq op (codes "propose_update")) _ _ _ _ (propose_update_told d) (by_name (bytes_eq op (codes "propose_remove")) _ _ _ _ (propose_remove_told d) (by_name (bytes_eq op (codes "propose_extensions")) _ _ _ _ (propose_extensions_told d) (by_name (bytes_eq op (codes "commit")) _ _ _ _ (commit_told d) (by_name (bytes_eq op (codes "drop_pending")) _ _ _ _ (drop_pending_told d) (by_name (bytes_eq op (codes "deliver")) _ _ _ _ (deliver_told d) (by_name (bytes_eq op (codes "join")) _ _ _ _ (join_told d) (refl))))))))))

action_told : (version : ℕ) (op : List ℕ) (d : Data) → is_some (action_wrong version op d) ≡ not (is_some (action_by version op d))
action_told version op d =
    by_name ((version == 2) && bytes_eq op (codes "deliver_all")) _ _ _ _ (deliver_all_told d) (call_told op d ∙ ap not (sym (some_mapped (option_map call) (call_by op d))))

by_op : (version : ℕ) (op : Option (List ℕ)) (d : Data)
    → is_some (wrong_with version op d) ≡ not (is_some (op >>= λ op. text_if_any (codes "expect") d >>= λ expect. action_by version op d >>= λ action. Some (option_map (recorded_with expect) action)))
by_op version None d = refl
by_op version (Some op) d =
    row_before key.Expect (text_if_any (codes "expect") d) _ (action_wrong version op d)
    (λ expect. action_told version op d ∙ ap not (sym (some_made (option_map (recorded_with expect)) (action_by version op d))))

pub event_told : (version : ℕ) (d : Data) → is_some (event_wrong version d) ≡ not (is_some (recorded_in version d))
event_told version d = by_op version (text_at (codes "op") d) d

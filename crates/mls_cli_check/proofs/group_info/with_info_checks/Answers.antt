use Rattle.std.proofs.Common.{◌≡◌, true, false, rules}
use Rattle.std.specs.Str.{bytes_eq}
use Rattle.mls_tree_model.specs.Hashes.{tree_hash}
use Rattle.mls_tree.specs.Tree.{term}
use Rattle.mls_cli_check.proofs.GroupInfos.{hash_differs, hash_matches, page_same, refused_or_wanting}
use Rattle.mls_cli_check.proofs.group_info.with_info_checks.Goals as goal

pub returns-then-not-has_tree_hash : goal.returns-then-not-has_tree_hash
returns-then-not-has_tree_hash g c =
    let other : bytes_eq c.args.info.now.group_context.tree_hash (tree_hash 0 (term c.args.tree.now)) ≡ false = search rules in
    refused_or_wanting _ _ _ c.refuse_behind.result c.refuse_behind.ensures.memory c.refuse_behind.ensures.page (λ ne. hash_differs g.S.Suite.crypto c.args.info.now (term c.args.tree.now) other)

pub returns : goal.returns
returns g c =
    let same : bytes_eq c.args.info.now.group_context.tree_hash (tree_hash 0 (term c.args.tree.now)) ≡ true = search rules in
    page_same c.with_signer.result _ _ (hash_matches g.S.Suite.crypto c.args.info.now (term c.args.tree.now) _ _ _ _ same c.has_tree_hash.ensures.same c.in_ok-lines.ensures c.line_of.ensures) c.with_signer.ensures

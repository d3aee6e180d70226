use Rattle.std.proofs.Common.{◌==◌, ◌∙◌, ℕ, List, ap, not}
use Rattle.mls_tree_model.specs.Sets.{count, same_bytes}
use Rattle.mls_tree_array.proofs.GatheredLaws.{signatures_standing}
use Rattle.mls_tree_index.specs.Keys.{is_held}
use Rattle.mls_tree.proofs.KindLaws.{part_of_itself, signature_keys_of}
use Rattle.mls_tree.proofs.key_indexes.KeyIndexes.has_client.Goals as goal

pub returns : goal.returns
returns c = λ h stands indexed.
    c.holds.ensures c.args.cells.now.nodes (part_of_itself _) indexed.clients.entries
    ∙ ap (λ k. is_held k c.args.cells.now.nodes c.args.key.now) indexed.signature
    ∙ ap (λ (ks : List (List ℕ)). not (count same_bytes c.args.key.now ks == 0)) (signature_keys_of c.args.cells.now.nodes ∙ signatures_standing h c.args.cells.now.nodes stands)

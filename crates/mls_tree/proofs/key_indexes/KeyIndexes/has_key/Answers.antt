use Rattle.std.proofs.Common.{◌==◌, ◌∙◌, ℕ, List, ap, not}
use Rattle.mls_tree_model.specs.Sets.{count, same_bytes}
use Rattle.mls_tree_array.proofs.GatheredLaws.{keys_standing}
use Rattle.mls_tree_index.specs.Keys.{is_held}
use Rattle.mls_tree.proofs.KindLaws.{part_of_itself, encryption_keys_of}
use Rattle.mls_tree.proofs.key_indexes.KeyIndexes.has_key.Goals as goal

pub returns : goal.returns
returns c = λ h stands indexed.
    c.holds.ensures c.args.cells.now.nodes (part_of_itself _) indexed.keys.entries
    ∙ ap (λ k. is_held k c.args.cells.now.nodes c.args.key.now) indexed.encryption
    ∙ ap (λ (ks : List (List ℕ)). not (count same_bytes c.args.key.now ks == 0)) (encryption_keys_of c.args.cells.now.nodes ∙ keys_standing h c.args.cells.now.nodes stands)

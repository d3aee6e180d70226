use Rattle.std.proofs.Common.{◌∙◌, ap}
use Rattle.mls_tree_model.specs.Sets.{same_bytes, is_distinct}
use Rattle.mls_tree_index.specs.Keys.{keys_of}
use Rattle.mls_tree.proofs.KindLaws.{distinct_clients}
use Rattle.mls_tree.proofs.key_indexes.KeyIndexes.has_distinct_clients.Goals as goal

pub returns : goal.returns
returns c = λ h cells stands indexed.
    c.are_distinct.ensures cells indexed.clients
    ∙ ap (λ k. is_distinct same_bytes (keys_of k cells)) indexed.signature
    ∙ distinct_clients h cells stands

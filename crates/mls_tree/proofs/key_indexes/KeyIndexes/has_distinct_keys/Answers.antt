use Rattle.std.proofs.Common.{◌∙◌, ap}
use Rattle.mls_tree_model.specs.Sets.{same_bytes, is_distinct}
use Rattle.mls_tree_index.specs.Keys.{keys_of}
use Rattle.mls_tree.proofs.KindLaws.{distinct_keys}
use Rattle.mls_tree.proofs.key_indexes.KeyIndexes.has_distinct_keys.Goals as goal

pub returns : goal.returns
returns c = λ h cells stands indexed.
    c.are_distinct.ensures cells indexed.keys
    ∙ ap (λ k. is_distinct same_bytes (keys_of k cells)) indexed.encryption
    ∙ distinct_keys h cells stands

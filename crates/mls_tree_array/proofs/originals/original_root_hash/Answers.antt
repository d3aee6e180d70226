use Rattle.std.proofs.Common.{sym, ◌∙◌}
use Rattle.mls_tree_array.proofs.Original.{same_root}
use Rattle.mls_tree_array.proofs.originals.original_root_hash.Goals as goal

pub returns-then-keeps_hash : goal.returns-then-keeps_hash
returns-then-keeps_hash c =
    same_root _ _ _ _ _ _ _ c.requires.own (sym c.keeps_hash.ensures ∙ c.if-keeps_hash.true)

use Rattle.std.proofs.Common.{◌++◌, [], append-nil}
use Rattle.mls_tree_hash.proofs.Waiting.{hasher_has_all}
use Rattle.mls_tree_hash.proofs.feed.Feed.finish.Goals as goal

pub returns-clause-hash : goal.returns-clause-hash
returns-clause-hash c = λ text held.
    c.finalize_reset.ensures.digest text (rw (append-nil text) at (hasher_has_all c.hand_over.new.self (text ++ []) c.hand_over.ensures.none (c.hand_over.ensures.fed.fed text held)))

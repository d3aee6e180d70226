use Rattle.std.proofs.Common.{subst, List, ℕ}
use Rattle.mls_tree_hash.specs.Feeds.{Feeds}
use Rattle.mls_tree_hash.proofs.nodes.add_capabilities.Goals as goal

pub returns : goal.returns
returns c = subst (λ (l : List ℕ). Feeds c.args.feed.now l c.add.new.self) c.bytes.ensures.spelled c.add.ensures

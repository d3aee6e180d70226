use Rattle.std.proofs.Common.{List, ℕ, subst}
use Rattle.mls_tree_hash.specs.Feeds.{Feeds}
use Rattle.mls_tree_hash.proofs.Headers.{short_header}
use Rattle.mls_tree_hash.proofs.pieces.add_header.Goals as goal

pub returns-then-len-lt64 : goal.returns-then-len-lt64
returns-then-len-lt64 c =
    subst (λ (l : List ℕ). Feeds c.args.feed.now l c.add_byte.new.self) (short_header c.args.len c.if-len-lt64.true) c.add_byte.ensures

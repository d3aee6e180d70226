use Rattle.std.proofs.Common.{◌∙◌, List, ℕ, subst}
use Rattle.mls_tree_hash.specs.Feeds.{Feeds}
use Rattle.mls_tree_hash.proofs.Headers.{wrapped_header}
use Rattle.mls_tree_hash.proofs.pieces.add_long_header.Goals as goal

pub returns-else-len : goal.returns-else-len
returns-else-len c =
    subst (λ (l : List ℕ). Feeds c.args.feed.now l c.add-else-len.new.self) (c.to_be_bytes.ensures ∙ wrapped_header c.args.len c.if-len.false) c.add-else-len.ensures

use Rattle.std.proofs.Common.{◌∙◌, ◌++◌, take, sym, append-nil}
use Rattle.mls_tree_hash.specs.Feeds.{Holds}
use Rattle.mls_tree_hash.proofs.feed.Feed.hand_over.Goals as goal

pub returns-clause-fed : goal.returns-clause-fed
unfolding Holds
returns-clause-fed c = record {
  fed = λ text held.
      let f = c.args.self.now in
      (held.0 ++ take f.waiting f.block, c.update.ensures held.0 held.1, append-nil (held.0 ++ take f.waiting f.block) ∙ held.2 ∙ sym (append-nil text));
}

use Rattle.std.proofs.Common.{◌∙◌, ap, ◌==◌}
use Rattle.mls_tree_index.specs.Keys.{keys_of}
use Rattle.mls_tree_index.proofs.CountLaws.{distinct_where}
use Rattle.mls_tree_index.proofs.index.Index.are_distinct.Goals as goal

pub returns : goal.returns
returns c = λ cells is. ap (λ t. t.repeats == 0) c.self.view_is ∙ ap (λ n. n == 0) is.repeats ∙ distinct_where (keys_of c.args.self.now.kind cells)

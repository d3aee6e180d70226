use Rattle.std.proofs.Common.{Some, sym, ◌∙◌}
use Rattle.std.proofs.lemmas.Bool.{true≢false}
use Rattle.mls_tree_view.proofs.SentTrees.{tree_read}
use Rattle.mls_tree_view.proofs.group_info.read_extensions.Goals as goal

pub returns-then-is_empty-2 : goal.returns-then-is_empty-2
returns-then-is_empty-2 c =
    let nodes = c.in_ok-nodes.ensures in
    record {
      value = Some nodes.value;
      is_read = tree_read c.args.reader.now c.in_ok-content.content c.vector.new.self c.pass_mark.new.reader c.in_ok-data.data c.vector-2.new.self c.read.new.reader nodes.value
          c.in_ok-content.ensures (λ nil. true≢false (sym (c.is_empty.ensures.empty.1 nil) ∙ c.if-is_empty.false)) c.in_ok-pass_mark.ensures c.in_ok-data.ensures
          nodes.is_read c.in_ok-finish.ensures (c.is_empty-2.ensures.empty.0 c.if-is_empty-2.true);
      shows = nodes.spells;
    }

use Rattle.std.proofs.lemmas.List.{nil_from_length}
use Rattle.mls_treekem.proofs.Levels.{on_ok_by}
use Rattle.mls_treekem.proofs.KeysAtHeights.{raise_first, raise_none, raise_no_pair}
use Rattle.mls_treekem.proofs.make.+put_keys.Goals as goal

pub returns : goal.returns
returns t c =
    on_ok_by _ _ _ _
    (raise_first c.in-Some.node.now c.in-Some.other_nodes.now c.args.nodes.now c.in-Some-split_first.pair.now c.in-Some-split_first.other_pairs.now c.args.pairs.now c.args.above.now.items c.put_key.new.above.items _
    c.in-Some.ensures.cases.0 c.in-Some-split_first.ensures.cases.0 c.height_of.ensures c.in_ok-put_key.ensures)
    c.put_keys.ensures

pub returns-in_default : goal.returns-in_default
returns-in_default t c = raise_none c.args.nodes.now c.args.pairs.now _ (nil_from_length _ c.in_default.ensures.cases)

pub returns-in_default-split_first : goal.returns-in_default-split_first
returns-in_default-split_first t c = raise_no_pair c.args.nodes.now c.args.pairs.now _ (nil_from_length _ c.in_default-split_first.ensures.cases)

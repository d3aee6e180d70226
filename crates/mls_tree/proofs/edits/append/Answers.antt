use Rattle.std.proofs.Common.{arith}
use Rattle.std.proofs.lemmas.Nat.{one_shl}
use Rattle.mls_tree.proofs.CellEdits.{grown_stands, grown_hashes, leaf_appended, taken_back}
use Rattle.mls_tree.proofs.edits.append.Goals as goal

pub put-requires-clause-stands : goal.put-requires-clause-stands
put-requires-clause-stands c = grown_stands c.args.height c.args.cells.now c.grow.new.cells c.requires.stands c.in_ok-grow.ensures.ok c.in_ok-grow.ensures.cold c.requires.long

pub put-requires-clause-long : goal.put-requires-clause-long
put-requires-clause-long c = grown_hashes c.args.height c.args.cells.now c.grow.new.cells c.requires.stands c.in_ok-grow.ensures.ok c.in_ok-grow.ensures.cold c.requires.long

pub returns-in-Ok-clause-ok : goal.returns-in-Ok-clause-ok
returns-in-Ok-clause-ok c = leaf_appended c.args.height c.args.cells.now c.grow.new.cells c.requires.stands c.in_ok-grow.ensures.ok c.in_ok-grow.ensures.cold c.requires.long _ c.args.leaf _ (one_shl c.args.height 32 (omega arith)) c.in-Ok.ensures.ok

pub returns-in-Err-clause-err : goal.returns-in-Err-clause-err
returns-in-Err-clause-err c = taken_back c.args.height c.args.cells.now c.grow.new.cells c.requires.stands c.in_ok-grow.ensures.ok c.in_ok-grow.ensures.cold c.requires.long _ _ _ c.len-count.ensures.nodes c.in-Err.ensures.err c.truncate.ensures

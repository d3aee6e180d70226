use Rattle.mls_update_path.proofs.path.make_checked_leaf.Goals as goal

pub check_own_leaf-requires-clause-own : goal.check_own_leaf-requires-clause-own
check_own_leaf-requires-clause-own g c = (c.args.hash, (c.args.key.items, c.in_ok-leaf.ensures.leaf))

use Rattle.mls_treekem.specs.Opening.{AreKeysUpTo}
use Rattle.mls_treekem.proofs.private_path.PrivatePath.keys_up_to.Given as goal

abbrev pub invariant-loop-i : goal.invariant-loop-i
invariant-loop-i l = AreKeysUpTo l.i l.self l.above.items

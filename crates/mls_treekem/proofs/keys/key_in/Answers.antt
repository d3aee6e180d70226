use Rattle.std.proofs.Common.{None, sym}
use Rattle.std.proofs.lemmas.List.{get_or_past}
use Rattle.mls_treekem.proofs.keys.key_in.Goals as goal

pub returns-else-place-keys : goal.returns-else-place-keys
returns-else-place-keys c = sym (get_or_past c.args.keys.now c.args.place None c.if-place-keys.false)

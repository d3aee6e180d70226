use Rattle.std.proofs.Common.{◌≡◌}
use Rattle.aes128gcm.proofs.TagLemmas.{difference}
use Rattle.aes128gcm.proofs.gcm.same_tag.Given as goal

abbrev pub invariant-loop-i : goal.invariant-loop-i
invariant-loop-i l = l.difference ≡ difference l.a l.b l.i

use Rattle.std.proofs.Common.{◌≡◌, drop}
use Rattle.mls_secret_tree.specs.Ratchet.{find_key}
use Rattle.mls_secret_tree.proofs.ratchet.find_key.Given as goal

-- what is left decides
abbrev pub invariant-loop-k : goal.invariant-loop-k
invariant-loop-k l = find_key l.generation (drop l.k-index l.kept) ≡ find_key l.generation l.kept

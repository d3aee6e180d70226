use Rattle.std.proofs.Common.{◌≡◌, ◌-◌, ◌++◌}
use Rattle.mls_secret_tree.specs.Ratchet.{passed_keys, passed_secret}
use Rattle.mls_secret_tree.proofs.ratchet.pass_over.Given as goal

-- from here on the same keys and the same secret are still to come
abbrev pub invariant-loop-generation : goal.invariant-loop-generation
invariant-loop-generation l = record {
  keys : l.kept.items ++ passed_keys l.passing l.generation (l.end - l.generation) ≡ l.fn.kept.items ++ passed_keys l.secret l.first (l.end - l.first);
  secret : passed_secret l.passing l.generation (l.end - l.generation) ≡ passed_secret l.secret l.first (l.end - l.first);
}

use Rattle.std.proofs.Common.{◌≡◌, map, take}
use Rattle.mls_update_path.proofs.draft.public_keys.Given as goal

abbrev pub invariant-loop-pair : goal.invariant-loop-pair
invariant-loop-pair l = l.keys.items ≡ map (λ p. p.pk.items) (take l.pair-index l.secrets.pairs.items)

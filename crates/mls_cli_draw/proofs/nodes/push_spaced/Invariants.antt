use Rattle.std.proofs.Common.{◌≡◌, ◌++◌, codes, take}
use Rattle.std.specs.List.{flat_map}
use Rattle.std.specs.Fmt.{decimal}
use Rattle.mls_cli_draw.proofs.nodes.push_spaced.Given as goal

abbrev pub invariant-loop-number : goal.invariant-loop-number
invariant-loop-number l = l.characters.items ≡ l.initial.characters.items ++ flat_map (λ n. codes " " ++ decimal n) (take l.number-index l.numbers)

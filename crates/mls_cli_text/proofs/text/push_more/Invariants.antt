use Rattle.std.proofs.Common.{◌≡◌, ◌++◌, codes, take}
use Rattle.std.specs.List.{flat_map}
use Rattle.mls_cli_text.specs.Text.{four_digits}
use Rattle.mls_cli_text.proofs.text.push_more.Given as goal

abbrev pub invariant-loop-number : goal.invariant-loop-number
invariant-loop-number l = l.text.items ≡ l.initial.text.items ++ flat_map (λ n. codes "," ++ four_digits n) (take l.number-index l.numbers)

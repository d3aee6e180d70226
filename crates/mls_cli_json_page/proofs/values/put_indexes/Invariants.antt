use Rattle.std.proofs.Common.{◌≡◌, ◌∷◌, ◌++◌, ℕ, map, take}
use Rattle.std.specs.Fmt.{decimal}
use Rattle.json.specs.Token.{begin_array, number}
use Rattle.mls_cli_json_page.proofs.values.put_indexes.Given as goal

abbrev pub invariant-loop-index : goal.invariant-loop-index
invariant-loop-index l = (l.writer.tokens ≡ l.fn.writer.tokens ++ begin_array ∷ map (λ (n : ℕ). number (decimal n)) (take l.index-index l.indexes)) × (l.writer.before ≡ l.fn.writer.before)

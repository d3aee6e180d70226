use Rattle.std.proofs.Common.{◌≡◌, ◌∷◌, ◌++◌, ℕ, map, take}
use Rattle.json.specs.Token.{begin_array, string}
use Rattle.mls_cli_text.specs.Text.{four_digits}
use Rattle.mls_cli_json_page.proofs.values.put_numbers.Given as goal

abbrev pub invariant-loop-number : goal.invariant-loop-number
invariant-loop-number l = (l.writer.tokens ≡ l.fn.writer.tokens ++ begin_array ∷ map (λ (n : ℕ). string (four_digits n)) (take l.number-index l.numbers)) × (l.writer.before ≡ l.fn.writer.before)

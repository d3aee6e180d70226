use Rattle.std.proofs.Common.{◌≡◌, ◌++◌, ℕ, drop, List, option_map}
use Rattle.serde_json.specs.View.{items_view}
use Rattle.mls_cli_vectors.specs.VectorsFile.{numbers_of}
use Rattle.mls_cli_vectors.proofs.reading.numbers_of.Given as goal

abbrev pub invariant-loop-value : goal.invariant-loop-value
invariant-loop-value l =
    option_map (λ (more : List ℕ). l.numbers.items ++ more) (numbers_of (items_view (drop l.value-index l.values)))
    ≡ numbers_of (items_view l.values)

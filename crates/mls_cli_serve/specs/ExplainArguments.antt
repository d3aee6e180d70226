-- The option `--explain REFUSAL`, which stands for no job: what it asks for, and why words name no job.
use Rattle.std.specs.Prelude.{ℕ, List, codes, Option, Some, None}
use Rattle.clap.specs.Words.{Row, Rule, Text, new_rule}
use Rattle.clap.specs.declared.error.kind.ErrorKind.{ErrorKind}
use Rattle.clap.specs.declared.error.kind.ErrorKind.TheVariants as kind
use Rattle.mls_cli_explain.specs.Explain.{told_by}
use Rattle.mls_cli_explain.specs.Explanations.{Told, explanation_view}
use Rattle.mls_cli_explain.specs.declared.explanations.Explanation.{Explanation}
use Rattle.mls_cli_serve.specs.Options.{number_in}

abbrev pub explain_rule : Rule
explain_rule = record (new_rule (codes "REFUSAL")) { long = Some (codes "explain") }

-- the refusal that a word names, with what is told of it
abbrev pub told_of : Text → Option (ℕ × Told)
told_of word = told_by (number_in word) word

-- of the word behind --explain, where no subcommand is given
abbrev pub told_on : Option Text → Option (Text × List Row) → Option (ℕ × Told)
told_on None found = None
told_on (Some word) None = told_of word
told_on (Some word) (Some subcommand) = None

-- where --explain is given there is no job
abbrev pub unless_asked : {T : Type 0} → Option Text → Option T → Option T
unless_asked None task = task
unless_asked (Some word) task = None

-- what kind of mistake words are that name neither a job nor a refusal, though clap finds no fault in them
abbrev pub lacking : Option Text → Option (Text × List Row) → ErrorKind
lacking None None = kind.MissingSubcommand
lacking None (Some subcommand) = kind.InvalidValue
lacking (Some word) found = kind.InvalidValue

-- of the code's value
abbrev pub told_view : ℕ × Explanation → ℕ × Told
told_view p = (p.0, explanation_view p.1)

use Rattle.mls_cli_explain.proofs.Naming.{LeftFrom}
use Rattle.mls_cli_explain.proofs.explain.number_of_name.Given as goal

abbrev pub invariant-loop-number : goal.invariant-loop-number
invariant-loop-number l = LeftFrom l.name l.number

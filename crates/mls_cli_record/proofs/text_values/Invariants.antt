use Rattle.mls_cli_record.proofs.Made.{Texts}
use Rattle.mls_cli_record.proofs.text_values.Given as goal

abbrev pub invariant-loop-text : goal.invariant-loop-text
invariant-loop-text l = Texts l.texts l.text-index l.list.items

use Rattle.std.proofs.Common.{refl}
use Rattle.mls_cli_replay.proofs.PrintLaws.{prints_it}
use Rattle.mls_cli_replay.proofs.print_error.Goals as goal

pub returns-in-NotHex-clause-prints : goal.returns-in-NotHex-clause-prints
returns-in-NotHex-clause-prints g c = rw c.in-NotHex.is (prints_it _ _ _ _ _ refl c.print_refusal.ensures.prints)

pub returns-in-BadJson-clause-prints : goal.returns-in-BadJson-clause-prints
returns-in-BadJson-clause-prints g c = rw c.in-BadJson.is (prints_it _ _ _ _ _ refl c.print_refusal-in-BadJson.ensures.prints)

-- What prints a printout prints one of those that a file may have.
use Rattle.std.proofs.Common.{ℕ, List, Option, Result, Ok, Err, inl, inr}
use Rattle.mls_cli_text.specs.Page.{Printout, Prints}
use Rattle.mls_cli_text.specs.declared.fault.Fault.{Fault}
use Rattle.mls_cli_replay.specs.Replay.{PrintsOne}

pub prints_it : (Is : Printout → Type 0) (old new : Option (List ℕ)) (r : Result ℕ Fault) (p : Printout) → Is p → Prints old new r p → PrintsOne Is old new r
prints_it Is old new (Ok status) p is (grew, same) = (p, is, grew, same)
prints_it Is old new (Err e) p is (inl kept) = inl kept
prints_it Is old new (Err e) p is (inr part) = inr (p, is, part)

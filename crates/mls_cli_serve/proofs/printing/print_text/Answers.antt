use Rattle.std.proofs.Common.{refl}
use Rattle.mls_cli_text.proofs.Pages.{made_prints}
use Rattle.mls_cli_vectors.specs.VectorsReport.{entry_of as report_entry_of, entry_text}
use Rattle.mls_cli_replay.proofs.PrintLaws.{prints_it}
use Rattle.mls_cli_serve.proofs.printing.print_text.Goals as goal

pub returns-in-Show-clause-prints : goal.returns-in-Show-clause-prints
returns-in-Show-clause-prints g c =
    rw c.in-Show.is (prints_it _ _ _ _ _ refl (c.print_in_layout.ensures.prints _ c.show_file.ensures))

pub returns-in-Check-clause-prints : goal.returns-in-Check-clause-prints
returns-in-Check-clause-prints g c =
    rw c.in-Check.is (prints_it _ _ _ _ _ refl (c.print_in_layout-in-Check.ensures.prints _ c.tree_file-page.ensures))

pub returns-in-CheckGroupInfo-clause-prints : goal.returns-in-CheckGroupInfo-clause-prints
returns-in-CheckGroupInfo-clause-prints g c =
    rw c.in-CheckGroupInfo.is (prints_it _ _ _ _ _ refl (c.print_in_layout-in-CheckGroupInfo.ensures.prints _ c.info_file.ensures))

pub returns-in-Vectors-clause-prints : goal.returns-in-Vectors-clause-prints
returns-in-Vectors-clause-prints g c =
    rw c.in-Vectors.is (prints_it _ _ _ _ _ refl (made_prints entry_text report_entry_of _ _ c.vectors_page.result _ _ c.vectors_page.ensures.page c.print_made_page.ensures.prints))

pub returns-in-Draw-clause-prints : goal.returns-in-Draw-clause-prints
returns-in-Draw-clause-prints g c =
    rw c.in-Draw.is (prints_it _ _ _ _ _ refl c.print_drawing.ensures.prints)

pub returns-in-Replay-clause-prints : goal.returns-in-Replay-clause-prints
returns-in-Replay-clause-prints g c = rw c.in-Replay.is c.print_recording.ensures.prints

pub returns-in-DrawMember-clause-prints : goal.returns-in-DrawMember-clause-prints
returns-in-DrawMember-clause-prints g c = rw c.in-DrawMember.is c.print_picture.ensures.prints

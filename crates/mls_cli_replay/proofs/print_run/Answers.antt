use Rattle.std.proofs.Common.{refl}
use Rattle.mls_cli_text.specs.Page.{printout}
use Rattle.mls_cli_replay.specs.Message.{digits_text, message_page}
use Rattle.mls_cli_replay.specs.Quiet.{quiet_page_of}
use Rattle.mls_cli_replay.specs.Replay.{entry_text, page_of_run}
use Rattle.mls_cli_replay.proofs.PrintLaws.{prints_it}
use Rattle.mls_cli_replay.proofs.print_run.Goals as goal

pub returns-in-Replies-clause-prints : goal.returns-in-Replies-clause-prints
returns-in-Replies-clause-prints g c =
    rw c.in-Replies.is (prints_it _ _ _ c.play.result (printout entry_text (page_of_run g.S.Suite.crypto c.args.recorded.now)) refl c.play.ensures.prints)

pub returns-in-Unmet-clause-prints : goal.returns-in-Unmet-clause-prints
returns-in-Unmet-clause-prints g c =
    rw c.in-Unmet.is (prints_it _ _ _ c.play_quietly.result (printout entry_text (quiet_page_of g.S.Suite.crypto c.args.recorded.now)) refl c.play_quietly.ensures.prints)

pub returns-in-Message-clause-prints : goal.returns-in-Message-clause-prints
returns-in-Message-clause-prints g c =
    rw c.in-Message.is
    (prints_it _ _ _ c.print_message.result (printout digits_text (message_page g.S.Suite.crypto c.in-Message.number c.args.recorded.now.actions.items)) refl
    (rw c.as_slice-actions.ensures.value at c.print_message.ensures.prints))

use Rattle.mls_cli_check.proofs.GroupInfos.{signer_line}
use Rattle.mls_cli_check.proofs.group_info.with_signer.Goals as goal

pub returns-in_ok-append_line-in-Ok : goal.returns-in_ok-append_line-in-Ok
returns-in_ok-append_line-in-Ok g c =
    signer_line g.S.Suite.crypto _ _ _ _ c.in-Ok.ensures c.in_ok-append_line-in-Ok.ensures (rw c.signature_word.ensures at c.line_of.ensures)

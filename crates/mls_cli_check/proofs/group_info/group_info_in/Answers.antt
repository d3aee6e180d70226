use Rattle.std.proofs.lemmas.Result.{err_from_is_err_and}
use Rattle.mls_cli_check.proofs.GroupInfos.{answered, no_message, read_short}
use Rattle.mls_cli_check.proofs.SentTrees.{no_memory, read_twice}
use Rattle.mls_cli_check.proofs.group_info.group_info_in.Goals as goal

pub returns-in_err-message-clause-info : goal.returns-in_err-message-clause-info
returns-in_err-message-clause-info c =
    let p = err_from_is_err_and c.from_residual.result c.from_residual.ensures.1 in
    rw (p.1, p.2) (no_message c.args.bytes.now c.in_err-message.field-0.0 c.in_err-message.ensures.exact)

pub returns-in_err-message-clause-outright : goal.returns-in_err-message-clause-outright
returns-in_err-message-clause-outright c =
    let p = err_from_is_err_and c.from_residual.result c.from_residual.ensures.1 in
    λ n h. rw (p.1, p.2) (no_memory c.in_err-message.field-0.0 _ n c.in_err-message.ensures.outright h)

pub returns-clause-info : goal.returns-clause-info
returns-clause-info c = answered c.args.bytes.now c.in_ok-message.message c.group_info_of.result c.in_ok-message.ensures.exact c.group_info_of.ensures

pub returns-clause-outright : goal.returns-clause-outright
returns-clause-outright c = λ n h. absurd (read_twice _ c.in_ok-message.message n c.in_ok-message.ensures.exact h)

pub returns-clause-short : goal.returns-clause-short
returns-clause-short c =
    read_short c.args.bytes.now c.in_ok-message.message c.group_info_of.result c.in_ok-message.ensures.found c.in_ok-message.ensures.exact c.group_info_of.ensures

use Rattle.mls_types.specs.GroupInfo.{group_info_tbs, GroupInfoTbsFits}
use Rattle.mls_checks.proofs.SignedLaws.{written_or_wanting}
use Rattle.mls_cli_check.proofs.GroupInfos.{bytes_short, bytes_written}
use Rattle.mls_cli_check.proofs.InfoLengths.{short_parts}
use Rattle.mls_cli_check.proofs.group_info.signed_bytes.Goals as goal

pub bytes_or_out_of_memory-requires : goal.bytes_or_out_of_memory-requires
bytes_or_out_of_memory-requires c =
    let v = c.args.info.now in
    written_or_wanting (GroupInfoTbsFits v) (group_info_tbs v) c.to_be_signed.result (short_parts v c.requires).fits c.to_be_signed.ensures

pub returns-clause-bytes : goal.returns-clause-bytes
returns-clause-bytes c =
    let v = c.args.info.now in
    bytes_written (GroupInfoTbsFits v) (group_info_tbs v) c.to_be_signed.result c.bytes_or_out_of_memory.result c.bytes_or_out_of_memory.ensures c.to_be_signed.ensures

pub returns-clause-short : goal.returns-clause-short
returns-clause-short c =
    let v = c.args.info.now in
    bytes_short (group_info_tbs v) c.bytes_or_out_of_memory.result (bytes_written (GroupInfoTbsFits v) (group_info_tbs v) c.to_be_signed.result c.bytes_or_out_of_memory.result c.bytes_or_out_of_memory.ensures c.to_be_signed.ensures)
    (short_parts v c.requires).short

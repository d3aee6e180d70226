use Rattle.mls_private_message.proofs.Contents.{is_read_as_written}
use Rattle.mls_private_message.proofs.laws.contents_are_exact.Goals as goal

pub returns : goal.returns
returns c = is_read_as_written

use Rattle.std.proofs.Common.{lit<}
use Rattle.std.proofs.lemmas.List.{append-nil}
use Rattle.mls_types.specs.PublicMessage.{wire_format}
use Rattle.mls_types.proofs.public_message.WireFormatCodec.write.Goals as goal

pub returns-in_ok-u16-in-KeyPackage : goal.returns-in_ok-u16-in-KeyPackage
unfolding wire_format
returns-in_ok-u16-in-KeyPackage c = rw (c.in-KeyPackage.is, append-nil) ((lit< tt, tt), c.in_ok-u16-in-KeyPackage.ensures)

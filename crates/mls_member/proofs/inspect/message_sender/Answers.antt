use Rattle.mls_member.proofs.ContentLaws.{public_of}
use Rattle.mls_member.proofs.Inspecting.{no_sender, other_sender, public_sender}
use Rattle.mls_member.proofs.inspect.message_sender.Goals as goal

pub returns-in-Err : goal.returns-in-Err
returns-in-Err c = no_sender c.args.bytes.now _ c.in-Err.ensures.read

pub returns-in-PublicMessage : goal.returns-in-PublicMessage
returns-in-PublicMessage c = public_sender c.args.bytes.now _ _ (public_of _ _ _ c.in-Ok.ensures.read c.in-PublicMessage.is) c.sender_leaf.ensures

pub returns-in_default : goal.returns-in_default
returns-in_default c = other_sender c.args.bytes.now _ c.in-Ok.ensures.read c.in_default.not-PublicMessage

use Rattle.mls_view.proofs.SliceInputs.{signed_made}
use Rattle.mls_view.proofs.public_message.PublicMessageView.to_be_signed.Goals as goal

pub returns : goal.returns
returns c = signed_made c.args.self.now c.args.context.now c.join_signed_pieces.result c.join_signed_pieces.ensures

use Rattle.mls_types.specs.PublicMessage.{public_message}
use Rattle.mls_view.proofs.PartLaws.{owned_is}
use Rattle.mls_view.proofs.public_message.PublicMessageView.to_owned.Goals as goal

pub returns : goal.returns
returns c = λ shown shows. owned_is public_message shown c.args.self.now.whole c.to_owned.result shows.whole c.to_owned.ensures

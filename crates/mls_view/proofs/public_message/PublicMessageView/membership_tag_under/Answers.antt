use Rattle.std.proofs.Common.{◌∙◌, ap, List, ℕ}
use Rattle.mls_kdf.specs.Kdf.{hmac}
use Rattle.mls_view.proofs.SliceInputs.{tagged_is}
use Rattle.mls_view.proofs.public_message.PublicMessageView.membership_tag_under.Goals as goal

pub returns : goal.returns
returns c = λ shown group shows is. c.tag_of.ensures ∙ ap (λ (l : List ℕ). hmac c.args.key.now l) (tagged_is c.args.self.now shown c.args.context.now group shows is)

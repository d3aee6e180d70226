use Rattle.mls_types.specs.Welcome.{welcome}
use Rattle.mls_view.proofs.PartLaws.{owned_is}
use Rattle.mls_view.proofs.welcome.WelcomeView.to_owned.Goals as goal

pub returns : goal.returns
returns c = λ shown shows. owned_is welcome shown c.args.self.now.whole c.to_owned.result shows.whole c.to_owned.ensures

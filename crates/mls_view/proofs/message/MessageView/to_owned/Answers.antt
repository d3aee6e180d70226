use Rattle.mls_view.proofs.MessageLaws.{group_info_owned, key_package_owned}
use Rattle.mls_view.proofs.message.MessageView.to_owned.Goals as goal

pub returns-in_ok-group_info-in-GroupInfo : goal.returns-in_ok-group_info-in-GroupInfo
returns-in_ok-group_info-in-GroupInfo c = λ shown shows. group_info_owned c.args.self.now _ c.in_ok-group_info-in-GroupInfo.group_info shown c.in-GroupInfo.is c.in_ok-group_info-in-GroupInfo.ensures shows

pub returns-in_ok-key_package-in-KeyPackage : goal.returns-in_ok-key_package-in-KeyPackage
returns-in_ok-key_package-in-KeyPackage c = λ shown shows. key_package_owned c.args.self.now _ c.in_ok-key_package-in-KeyPackage.key_package shown c.in-KeyPackage.is c.in_ok-key_package-in-KeyPackage.ensures shows

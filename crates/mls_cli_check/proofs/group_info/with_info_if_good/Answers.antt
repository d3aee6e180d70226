use Rattle.mls_cli_check.proofs.GroupInfos.{good_goes_on, other_stays}
use Rattle.mls_cli_check.proofs.group_info.with_info_if_good.Goals as goal

pub returns-in-Good : goal.returns-in-Good
returns-in-Good g c = good_goes_on c.args.page _ c.with_info_checks.result c.in-Good.is c.with_info_checks.ensures

pub returns-in-Failed : goal.returns-in-Failed
returns-in-Failed g c = let is = c.in-Failed.is in other_stays c.args.page _ (λ e. cc)

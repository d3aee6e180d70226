use Rattle.mls_types.proofs.GroupInfoLaws.{group_info-spelled}
use Rattle.mls_types.proofs.group_laws.laws_of_group_infos.Goals as goal

pub returns : goal.returns
returns c = group_info-spelled

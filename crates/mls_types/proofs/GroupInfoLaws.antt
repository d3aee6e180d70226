-- What is signed of a group info is all of its spelling in front of the signature.
use Rattle.std.proofs.Common.{append_assoc}
use Rattle.mls_types.specs.GroupInfo.{group_info}
use Rattle.mls_types.specs.GroupInfoLaws.{GroupInfoIsSpelled}

pub group_info-spelled : GroupInfoIsSpelled
unfolding group_info
group_info-spelled v = simp append_assoc

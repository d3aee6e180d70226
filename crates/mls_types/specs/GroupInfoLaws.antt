-- What is signed of a group info is all of its spelling in front of the signature.
use Rattle.std.specs.Prelude.{◌≡◌, ◌++◌}
use Rattle.mls_wire.specs.Reading.{opaque}
use Rattle.mls_types.specs.GroupInfo.{group_info, group_info_tbs}
use Rattle.mls_types.specs.declared.group_info.GroupInfo.{GroupInfo}

-- a group info is spelled as its GroupInfoTBS, and then its signature (RFC 9420, 12.4.3)
abbrev pub GroupInfoIsSpelled : Type 0
GroupInfoIsSpelled = (v : GroupInfo) → group_info.spell v ≡ group_info_tbs v ++ opaque v.signature

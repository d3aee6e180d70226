use Rattle.std.proofs.Common.{subst}
use Rattle.mls_public_group.specs.ShortProposal.{IsShortProposal}
use Rattle.mls_world_plain.proofs.commit_adds.push_added.Goals as goal

pub encode_key_package-requires : goal.encode_key_package-requires
encode_key_package-requires c = (subst IsShortProposal c.in-Add.is c.requires).fits

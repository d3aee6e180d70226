use Rattle.std.proofs.Common.{subst}
use Rattle.mls_leaf.specs.GroupExtensions.{group_extensions}
use Rattle.mls_leaf.proofs.GroupExtensionsLaws.{group_extensions-fits}
use Rattle.mls_public_group.specs.MessageLimit.{FitsIfShort}
use Rattle.mls_member.proofs.commit_items.know_extensions.Goals as goal

pub returns : goal.returns
returns c = subst (FitsIfShort group_extensions) c.as_slice-entries.ensures.entries (group_extensions-fits c.as_slice-entries.result.now c.as_slice-entries.ensures.allowed)

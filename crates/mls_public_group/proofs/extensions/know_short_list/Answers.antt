use Rattle.std.proofs.Common.{◌≡◌, true, subst}
use Rattle.mls_leaf.specs.GroupExtensions.{are_allowed}
use Rattle.mls_public_group.proofs.ShortLaws.{short_list}
use Rattle.mls_public_group.proofs.extensions.know_short_list.Goals as goal

pub returns : goal.returns
returns c = short_list c.args.list.now (subst (λ l. are_allowed l ≡ true) c.as_slice-entries.ensures.entries c.as_slice-entries.ensures.allowed) c.requires

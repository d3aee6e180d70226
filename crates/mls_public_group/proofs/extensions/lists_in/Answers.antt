use Rattle.std.proofs.Common.{sym}
use Rattle.mls_public_group.proofs.Folding.{one_list, no_lists}
use Rattle.mls_public_group.proofs.extensions.lists_in.Goals as goal

pub returns-in-GroupContextExtensions-clause-counted : goal.returns-in-GroupContextExtensions-clause-counted
returns-in-GroupContextExtensions-clause-counted c = sym (one_list c.args.used.now _ c.used.view_is _ c.in-GroupContextExtensions.is)

pub returns-in_default-clause-counted : goal.returns-in_default-clause-counted
returns-in_default-clause-counted c = sym (no_lists c.args.used.now _ c.used.view_is c.in_default.not-GroupContextExtensions)

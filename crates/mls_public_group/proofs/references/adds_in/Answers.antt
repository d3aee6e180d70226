use Rattle.std.proofs.Common.{sym}
use Rattle.mls_public_group.proofs.Folding.{one_add, no_adds}
use Rattle.mls_public_group.proofs.references.adds_in.Goals as goal

pub returns-in-Add-clause-counted : goal.returns-in-Add-clause-counted
returns-in-Add-clause-counted c = sym (one_add c.args.used.now _ c.used.view_is _ c.in-Add.is)

pub returns-in_default-clause-counted : goal.returns-in_default-clause-counted
returns-in_default-clause-counted c = sym (no_adds c.args.used.now _ c.used.view_is c.in_default.not-Add)

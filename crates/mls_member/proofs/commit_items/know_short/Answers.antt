use Rattle.std.proofs.Common.{sym, subst}
use Rattle.mls_make.specs.CommitCall.{HasShortParts}
use Rattle.mls_public_group.specs.ShortProposal.{IsShortProposal}
use Rattle.mls_public_group.proofs.ShortProposal.{add_short, update_short}
use Rattle.mls_member.proofs.commit_items.know_short.Goals as goal

pub returns-in-Add : goal.returns-in-Add
returns-in-Add c = subst HasShortParts (sym c.in-Add.is) (add_short _ (subst IsShortProposal c.in-Add.is c.requires))

pub returns-in-Update : goal.returns-in-Update
returns-in-Update c = subst HasShortParts (sym c.in-Update.is) (update_short _ (subst IsShortProposal c.in-Update.is c.requires))

pub returns-in-Remove : goal.returns-in-Remove
returns-in-Remove c = subst HasShortParts (sym c.in-Remove.is) c.know_removal.ensures

pub returns-in-GroupContextExtensions : goal.returns-in-GroupContextExtensions
returns-in-GroupContextExtensions c = subst HasShortParts (sym c.in-GroupContextExtensions.is) c.know_extensions.ensures

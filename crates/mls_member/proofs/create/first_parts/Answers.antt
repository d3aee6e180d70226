use Rattle.std.proofs.Common.{sym, subst}
use Rattle.mls_tree.specs.Tree.{term}
use Rattle.mls_public_group.specs.Short.{IsShortContext}
use Rattle.mls_member.proofs.FirstEpoch.{first_short}
use Rattle.mls_member.proofs.create.first_parts.Goals as goal

pub returns-clause-short : goal.returns-clause-short
returns-clause-short g c =
    subst IsShortContext (sym c.in_ok-context.ensures.context)
    (first_short g.S.Suite.crypto c.args.group_id.now (term c.in_ok-tree.tree) g.met.S.Suite.lawful.number_short c.requires.group)

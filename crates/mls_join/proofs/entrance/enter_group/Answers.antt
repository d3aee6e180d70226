use Rattle.std.proofs.Common.{◌^◌, arith, ap, length}
use Rattle.mls_public_group.proofs.Lengths.{short_context}
use Rattle.mls_join.proofs.Lengths.{parts_below}
use Rattle.mls_join.proofs.entrance.enter_group.Goals as goal

pub context_spelling-requires : goal.context_spelling-requires
context_spelling-requires c = short_context _ (parts_below (2 ^ 27) c.args.opened.info c.requires.short).context

pub from_joiner-requires : goal.from_joiner-requires
from_joiner-requires c =
    let short = c.in_ok-bytes.ensures.short in
    omega (arith, short, ap length c.deref.ensures.value)

pub new-requires-clause-context : goal.new-requires-clause-context
new-requires-clause-context c = short_context c.args.opened.info.group_context (parts_below (2 ^ 27) c.args.opened.info c.requires.short).context

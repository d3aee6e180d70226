use Rattle.mls_public_group.proofs.ShortLaws.{context_fits}
use Rattle.mls_public_group.proofs.group.PublicGroup.next.Goals as goal

pub spelling-requires : goal.spelling-requires
spelling-requires c = context_fits c.args.context c.requires.context
